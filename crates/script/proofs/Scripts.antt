-- What a console prints of a script whose lines are all well formed.
--     first_is      the first line of a script, and what follows it
--     next_is       the line that is printed next answers the first line
--     told_all      the lines that show some answers
--     Formed        a line that can stand in a script, and writes a call if it is any call's text
--     Made          the run that a script makes, and the lines that it prints
--     printed       a console past its first line makes just the calls that its lines write
use Rattle.std.proofs.Common.{◌≡◌, ℕ, ◌+◌, ◌≤◌, ◌⊎◌, List, [], ◌∷◌, ◌++◌, length, drop, map, Some, None, Result, sym, refl, ap, ap₂, ◌∙◌, subst, inl, inr, append_assoc, arith}
use Rattle.std.proofs.lemmas.List.{append_cancel_left, append-nil, length-append}
use Rattle.faults.specs.declared.Layer.{Layer}
use Rattle.model.specs.Datasets.{State}
use Rattle.model.specs.Life.{Run, call, transcript}
use Rattle.model.specs.Questions.{AllYes}
use Rattle.model.specs.Steps.{Step}
use Rattle.model.specs.declared.Answer.{Answer}
use Rattle.model.specs.declared.Call.{Call}
use Rattle.model.proofs.Turns.{not_refused}
use Rattle.script.specs.Consoles.{Console, Answered, FirstLine, Next, Obeyed, Prints, malformed, called, named, unnamed, later, too_long, line, none, more, past, told, with_pool}
use Rattle.script.specs.Lines.{Each, call_text, line_questions}
use Rattle.script.specs.Parts.{Splits, Without}
use Rattle.script.specs.Worked.{script_of}
use Rattle.script.proofs.Firsts.{first_front}
use Rattle.script.proofs.Runs.{shorter}
use Rattle.script.proofs.Splits.{splits_until}

-- a script is cut at the end of its first line
pub first_is : (bs l k bytes rest : List ℕ) → Without 10 bytes → bs ≡ bytes ++ (10 ∷ rest) → FirstLine bs l k → (l ≡ bytes) × (k ≡ rest)
first_is bs l k bytes rest free is first = (same, behind first.1)
  where
    same : l ≡ bytes
    same = sym (first_front bs l k first) ∙ splits_until 10 bs bytes (Some rest) (free, is)

    behind : Splits 10 bs l (Some k) ⊎ (Splits 10 bs l None × (k ≡ [])) → k ≡ rest
    behind (inl (_, e)) =
        let tails : 10 ∷ k ≡ 10 ∷ rest = append_cancel_left bytes (10 ∷ k) (10 ∷ rest) (ap (λ x. x ++ (10 ∷ k)) (sym same) ∙ sym e ∙ is) in
        ap (drop 1) tails
    behind (inr ((_, e), _)) = absurd (omega (arith, ap length (sym is ∙ e ∙ same), length-append bytes (10 ∷ rest)))

-- the line that a console prints next answers its first line
pub next_is : (c : Console) (out : List ℕ) (d : Console) (bytes rest : List ℕ) → length c.rest ≤ 32768 → Without 10 bytes → c.rest ≡ bytes ++ (10 ∷ rest)
    → Next c out d → (r : Result Answer Layer) × (out ≡ told (c.read + 1) r) × Answered (past c rest) bytes r d
next_is c _ _ bytes rest few free is (too_long long) = absurd (omega arith)
next_is c _ d bytes rest few free is (line {line = l} {rest = k} {r = r} _ first answered) =
    let (same, behind) = first_is c.rest l k bytes rest free is first in
    (r, refl, subst (λ x. Answered (past c x) bytes r d) behind (subst (λ x. Answered (past c k) x r d) same answered))

-- a line can stand in a script, and is well formed
abbrev pub Formed : List ℕ → Type 0
Formed bytes = Without 10 bytes × AllYes (line_questions bytes)

-- a later line that is well formed is a call
obeyed : (s : State) (bytes : List ℕ) (r : Result Answer Layer) (t : State) → AllYes (line_questions bytes) → Obeyed s bytes r t
    → (c : Call) × (call_text c ≡ bytes) × Step s c r t
obeyed s bytes _ _ asked (malformed {l} first) = absurd (not_refused (line_questions bytes) l asked first)
obeyed s bytes _ _ asked (called c _ is step) = (c, sym is, step)

made_by : (c : Console) (bytes : List ℕ) (r : Result Answer Layer) (d : Console) → 2 ≤ c.read → AllYes (line_questions bytes) → Answered c bytes r d
    → (t : State) × (d ≡ with_pool c t) × ((x : Call) × (call_text x ≡ bytes) × Step c.pool x r t)
made_by c bytes _ _ read asked (named one _) = absurd (omega arith)
made_by c bytes _ _ read asked (unnamed one _) = absurd (omega arith)
made_by c bytes _ _ read asked (later {r} {t} _ does) = (t, refl, obeyed c.pool bytes r t asked does)

-- the lines that show some answers, from line n on
abbrev pub told_all : ℕ → List (Call × Result Answer Layer) → List ℕ
told_all n [] = []
told_all n (x ∷ found) = told n x.1 ++ told_all (n + 1) found

-- the texts of the calls
abbrev pub texts : List (Call × Result Answer Layer) → List (List ℕ)
texts found = map (λ (x : Call × Result Answer Layer). call_text x.0) found

-- a run goes on by the calls that the lines write, and their answers are printed
abbrev pub Made : {s t : State} → Run s t → ℕ → List (List ℕ) → List ℕ → Type 0
Made {s} before n lines out =
    (t : State) × (run : Run s t) × (found : List (Call × Result Answer Layer))
    × (transcript run ≡ transcript before ++ found) × (texts found ≡ lines) × (out ≡ told_all n found)

-- one call more at the front
one_more : {s t : State} (u : State) (before : Run s t) (n : ℕ) (bytes : List ℕ) (lines : List (List ℕ)) (l out : List ℕ) (x : Call) (r : Result Answer Layer) (step : Step t x r u)
    → call_text x ≡ bytes → l ≡ told n r → Made (call before x r step) (n + 1) lines out → Made before n (bytes ∷ lines) (l ++ out)
one_more _ before n bytes lines l out x r step text shows (t, run, found, tells, made, prints) =
    (t, run, (x, r) ∷ found, tells ∙ append_assoc (transcript before) ((x, r) ∷ []) found, ap₂ (λ y ys. y ∷ ys) text made, ap₂ (λ y ys. y ++ ys) shows prints)

-- a console past its first line makes just the calls that its lines write
pub printed : {s : State} (lines : List (List ℕ)) (c : Console) (before : Run s c.pool) (out : List ℕ) → Each Formed lines → 1 ≤ c.read
    → c.rest ≡ script_of lines → length c.rest ≤ 32768 → Prints c out → Made before (c.read + 1) lines out
printed [] c before _ formed read is few (none over) = (c.pool, before, [], sym (append-nil (transcript before)), refl, refl)
printed [] c before _ formed read is few (more {d = d} {line = l} next _) = absurd (omega (arith, shorter c l d next, ap length is))
printed (bytes ∷ lines) c before _ formed read is few (none over) = absurd (omega (arith, ap length (sym over ∙ is), length-append bytes (10 ∷ script_of lines)))
printed {s} (bytes ∷ lines) c before _ formed read is few (more {d = d} {line = l} {rest = out} next rest) =
    let (r, shows, answered) = next_is c l d bytes (script_of lines) few formed.0.0 is next in
    let (t, left, (x, text, step)) = made_by (past c (script_of lines)) bytes r d (omega arith) formed.0.1 answered in
    let on : Prints (with_pool (past c (script_of lines)) t) out = subst (λ y. Prints y out) left rest in
    let made : Made (call before x r step) (c.read + 1 + 1) lines out =
    printed lines (with_pool (past c (script_of lines)) t) (call before x r step) out formed.1 (omega arith) refl
    (omega (arith, ap length is, length-append bytes (10 ∷ script_of lines))) on in
    one_more t before (c.read + 1) bytes lines l out x r step text shows made
