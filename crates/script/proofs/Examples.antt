-- The worked script.
--     formed       its lines after the first are well formed
--     spelled      they are the texts of its calls
--     called_so    whatever calls have these texts are its calls, up to where the texts of the writes stand
--     shown_so     the lines that show the answers
--     worked       the worked histories and the worked script
use Rattle.std.proofs.Common.{◌≡◌, ℕ, ◌≤◌, List, [], ◌∷◌, ◌++◌, length, drop, codes, Ok, Result, sym, refl, ap, ◌∙◌, subst, arith, Bor}
use Rattle.std.specs.Fmt.{digits}
use Rattle.faults.specs.declared.Layer.{Layer}
use Rattle.model.specs.Datasets.{State}
use Rattle.model.specs.Histories.{calls, script_calls}
use Rattle.model.specs.Life.{Formatted, Run, start, transcript}
use Rattle.model.specs.declared.Answer.{Answer}
use Rattle.model.specs.declared.Call.{Call}
use Rattle.model.specs.declared.Call.TheVariants.{Create, Write, Read, Snapshot, Clone, Destroy, Unique, Used}
use Rattle.model.proofs.Histories.{histories}
use Rattle.script.specs.Consoles.{Console, Answered, Prints, later, more, named, none, nothing_moved, opened, past, told, unnamed}
use Rattle.makes.specs.declared.Make.TheVariants.{Bits}
use Rattle.script.specs.Lines.{Each, call_text, two_numbers}
use Rattle.script.specs.Words.{Numeral}
use Rattle.script.specs.Worked.{Worked, script_of, worked_answers, worked_lines}
use Rattle.script.proofs.Bytes.{avoided, all_plain}
use Rattle.script.proofs.Scripts.{Formed, next_is, printed, texts, told_all}
use Rattle.script.proofs.Texts.{one_known, two_known, write_known}

-- the numbers of the worked script
nought : Numeral (codes "0")
unfolding digits
nought = (0, (omega arith, refl))

one : Numeral (codes "1")
unfolding digits
one = (1, (omega arith, refl))

two : Numeral (codes "2")
unfolding digits
two = (2, (omega arith, refl))

ten : Numeral (codes "10")
unfolding digits
ten = (10, (omega arith, refl))

-- calls with their answers
abbrev Answers : Type 0
Answers = List (Call × Result Answer Layer)

-- the lines after the first
abbrev later_lines : List (List ℕ)
later_lines = drop 1 worked_lines

-- each line is well formed
create_line : Formed (codes "c 1 1")
create_line = (avoided 10 (codes "c 1 1") refl, ((99, codes "1 1", 3, refl, refl), (refl, ((one, (one, tt)), (tt, tt)))))

maths_line : Formed (codes "w 1 0 maths")
maths_line = (avoided 10 (codes "w 1 0 maths") refl, ((119, codes "1 0 maths", 4, refl, refl), (refl, ((one, (nought, tt)), (((omega arith, omega arith, all_plain (codes "maths") refl), tt), tt)))))

snapshot_line : Formed (codes "s 1 10")
snapshot_line = (avoided 10 (codes "s 1 10") refl, ((115, codes "1 10", 3, refl, refl), (refl, ((one, (ten, tt)), (tt, tt)))))

art_line : Formed (codes "w 1 0 art")
art_line = (avoided 10 (codes "w 1 0 art") refl, ((119, codes "1 0 art", 4, refl, refl), (refl, ((one, (nought, tt)), (((omega arith, omega arith, all_plain (codes "art") refl), tt), tt)))))

clone_line : Formed (codes "k 10 2")
clone_line = (avoided 10 (codes "k 10 2") refl, ((107, codes "10 2", 3, refl, refl), (refl, ((ten, (two, tt)), (tt, tt)))))

unique_line : Formed (codes "u 10")
unique_line = (avoided 10 (codes "u 10") refl, ((117, codes "10", 2, refl, refl), (refl, ((ten, tt), (tt, tt)))))

leave_line : Formed (codes "d 2")
leave_line = (avoided 10 (codes "d 2") refl, ((100, codes "2", 2, refl, refl), (refl, ((two, tt), (tt, tt)))))

read_line : Formed (codes "p 10 0")
read_line = (avoided 10 (codes "p 10 0") refl, ((112, codes "10 0", 3, refl, refl), (refl, ((ten, (nought, tt)), (tt, tt)))))

destroy_line : Formed (codes "d 10")
destroy_line = (avoided 10 (codes "d 10") refl, ((100, codes "10", 2, refl, refl), (refl, ((ten, tt), (tt, tt)))))

used_line : Formed (codes "a 1")
used_line = (avoided 10 (codes "a 1") refl, ((97, codes "1", 2, refl, refl), (refl, ((one, tt), (tt, tt)))))

formed : Each Formed later_lines
formed =
    (create_line, (maths_line, (snapshot_line, (art_line, (clone_line, (unique_line, (leave_line, (unique_line, (read_line, (destroy_line, (used_line, tt)))))))))))

-- the line that writes a text at position 0 of head 1
abbrev write_text : List ℕ → List ℕ
write_text text = codes "w " ++ two_numbers 1 0 ++ codes " " ++ text

-- the lines are the texts of these calls
spelled : later_lines ≡ call_text (Create 1 1) ∷ write_text (codes "maths") ∷ call_text (Snapshot 1 10) ∷ write_text (codes "art") ∷ call_text (Clone 10 2)
    ∷ call_text (Unique 10) ∷ call_text (Destroy 2) ∷ call_text (Unique 10) ∷ call_text (Read 10 0) ∷ call_text (Destroy 10) ∷ call_text (Used 1) ∷ []
unfolding digits
spelled = refl

-- the first call of some, by its text
split : (l : List ℕ) (ls : List (List ℕ)) (ds : Answers) → texts ds ≡ l ∷ ls
    → (d : Call) × (rest : Answers) × (calls ds ≡ d ∷ calls rest) × (call_text d ≡ l) × (texts rest ≡ ls)
split l ls [] e = absurd (omega (arith, ap length e))
split l ls (x ∷ rest) e = (x.0, rest, refl, cc, cc)

-- where the text is that of one call
known : (c : Call) (l : List ℕ) (ls : List (List ℕ)) (ds : Answers) → ((d : Call) → call_text d ≡ l → d ≡ c) → texts ds ≡ l ∷ ls
    → (rest : Answers) × (calls ds ≡ c ∷ calls rest) × (texts rest ≡ ls)
known c l ls ds only e =
    let (d, rest, is, text, others) = split l ls ds e in
    (rest, is ∙ ap (λ (x : Call). x ∷ calls rest) (only d text), others)

-- and where it is a write's
wrote : (text : List ℕ) (ls : List (List ℕ)) (ds : Answers) → texts ds ≡ write_text text ∷ ls
    → (x : Bor (List ℕ)) × (rest : Answers) × (calls ds ≡ Write 1 0 x ∷ calls rest) × (x.now ≡ text) × (texts rest ≡ ls)
wrote text ls ds e =
    let (d, rest, is, same, others) = split (write_text text) ls ds e in
    let (x, made, bytes) = write_known 1 0 text (omega arith) (omega arith) d same in
    (x, rest, is ∙ ap (λ (y : Call). y ∷ calls rest) made, bytes, others)

-- no text, no call
no_more : (ds : Answers) → texts ds ≡ [] → calls ds ≡ []
no_more [] e = refl
no_more (x ∷ ds) e = absurd (omega (arith, ap length e))

-- what the lines after the first call
called_so : (ds : Answers) → texts ds ≡ later_lines
    → (x : Bor (List ℕ)) × (y : Bor (List ℕ)) × (x.now ≡ codes "maths") × (y.now ≡ codes "art") × (calls ds ≡ calls (script_calls x y))
called_so ds0 e0 =
    let (ds1, is1, e1) = known (Create 1 1) _ _ ds0 (two_known 99 1 1 (λ e. omega arith) (omega arith) (omega arith)) (e0 ∙ spelled) in
    let (x, ds2, is2, maths, e2) = wrote (codes "maths") _ ds1 e1 in
    let (ds3, is3, e3) = known (Snapshot 1 10) _ _ ds2 (two_known 115 1 10 (λ e. omega arith) (omega arith) (omega arith)) e2 in
    let (y, ds4, is4, art, e4) = wrote (codes "art") _ ds3 e3 in
    let (ds5, is5, e5) = known (Clone 10 2) _ _ ds4 (two_known 107 10 2 (λ e. omega arith) (omega arith) (omega arith)) e4 in
    let (ds6, is6, e6) = known (Unique 10) _ _ ds5 (one_known 117 10 (omega arith)) e5 in
    let (ds7, is7, e7) = known (Destroy 2) _ _ ds6 (one_known 100 2 (omega arith)) e6 in
    let (ds8, is8, e8) = known (Unique 10) _ _ ds7 (one_known 117 10 (omega arith)) e7 in
    let (ds9, is9, e9) = known (Read 10 0) _ _ ds8 (two_known 112 10 0 (λ e. omega arith) (omega arith) (omega arith)) e8 in
    let (ds10, is10, e10) = known (Destroy 10) _ _ ds9 (one_known 100 10 (omega arith)) e9 in
    let (ds11, is11, e11) = known (Used 1) _ _ ds10 (one_known 97 1 (omega arith)) e10 in
    (x, y, maths, art, rw (is1, is2, is3, is4, is5, is6, is7, is8, is9, is10, is11, no_more ds11 e11) refl)

-- the lines that show the answers
shown_so : (x y : Bor (List ℕ)) → x.now ≡ codes "maths" → told 1 (Ok nothing_moved) ++ told_all 2 (script_calls x y) ≡ script_of worked_answers
unfolding digits
shown_so x y is = ap (λ (text : List ℕ). told 1 (Ok nothing_moved) ++ told_all 2 (script_calls (record { ref_ptr = x.ref_ptr; now = text }) y)) is

-- the first line names the bitmap
first_answer : (c : Console) (r : Result Answer Layer) (d : Console) → c.read ≡ 1 → Answered c (codes "b") r d → (r ≡ Ok nothing_moved) × (d ≡ c)
first_answer c _ _ read (named _ _) = (refl, refl)
first_answer c _ _ read (unnamed _ other) = absurd (other (Bits, refl))
first_answer c _ _ read (later many _) = absurd (omega arith)

module _ (memory : List ℕ) (long : length memory ≡ 16384) where
  -- the console and its pool before the first line, and the console after it
  abbrev closed : Console
  closed = opened memory (script_of worked_lines)

  abbrev empty : State
  empty = closed.pool

  abbrev begun : Console
  begun = past closed (script_of later_lines)

  -- the pool is just formatted
  is_formatted : Formatted empty
  is_formatted = ((((omega arith, omega arith), omega (arith, long), (omega arith, omega arith), (omega arith, omega arith)), ((λ b. refl), tt)), refl)

  -- a run of the calls of the script is answered as it is told
  forced : (t : State) (run : Run empty t) (x y : Bor (List ℕ)) → x.now ≡ codes "maths" → y.now ≡ codes "art" → calls (transcript run) ≡ calls (script_calls x y)
      → transcript run ≡ script_calls x y
  forced t run x y maths art same =
      (histories.script x y (omega (arith, ap length maths)) (omega (arith, ap length art)) empty t run is_formatted (omega arith, omega arith, omega arith) same).0

  -- and those answers are shown
  answered : (t : State) (run : Run empty t) → texts (transcript run) ≡ later_lines → told 1 (Ok nothing_moved) ++ told_all 2 (transcript run) ≡ script_of worked_answers
  answered t run lines =
      let (x, y, maths, art, same) = called_so (transcript run) lines in
      ap (λ found. told 1 (Ok nothing_moved) ++ told_all 2 found) (forced t run x y maths art same) ∙ shown_so x y maths

  -- all that is printed after the first line
  later_shown : (out : List ℕ) → Prints begun out → told 1 (Ok nothing_moved) ++ out ≡ script_of worked_answers
  later_shown out prints =
      let (t, run, found, tells, lines, shows) = printed later_lines begun start out formed (omega arith) refl (omega arith) prints in
      ap (λ ls. told 1 (Ok nothing_moved) ++ ls) (shows ∙ ap (told_all 2) (sym tells)) ∙ answered t run (ap texts tells ∙ lines)

  -- the script has some bytes, and not too many
  sized : (1 ≤ length closed.rest) × (length closed.rest ≤ 32768)
  sized = (omega arith, omega arith)

  -- all that is printed
  shown : (out : List ℕ) → Prints closed out → out ≡ script_of worked_answers
  shown _ (none over) = absurd (omega (arith, sized.0, ap length over))
  shown _ (more {d = d} {line = l} {rest = out} next rest) =
      let (r, shows, first) = next_is closed l d (codes "b") (script_of later_lines) sized.1 (avoided 10 (codes "b") refl) refl next in
      let (granted, same) = first_answer begun r d refl first in
      ap (λ ls. ls ++ out) (shows ∙ ap (told 1) granted) ∙ later_shown out (subst (λ c. Prints c out) same rest)

pub worked : Worked
worked = (histories, λ memory out long prints. shown memory long out prints)
