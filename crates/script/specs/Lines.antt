-- What a line of a script says, from the second line on.
--     wanted b               how many words a line of the letter b has, or nothing where no line opens with b
--     words_of line          the words of a line, which for the letter w is cut at its first three spaces only
--     line_questions line    what is asked of a line before it is a call, in this order
--     call_text c            the line that writes the call c
--     ReadsAs text line r    the line is the text of a value, or has the cause of the first question answered no
--     ReadsCall line r       the line writes a call, or has that cause
use Rattle.std.specs.List.{list_any}
use Rattle.std.specs.Prelude.{◌≡◌, ℕ, if◌then◌else◌, List, [], ◌∷◌, ◌++◌, length, take, drop, Some, None, codes, decimal, Option, Result, MatchResult, ◌==◌, slice_index, nat_eq}
use Rattle.faults.specs.declared.Layer.TheVariants.{Script}
use Rattle.faults.specs.declared.ScriptCause.{ScriptCause}
use Rattle.faults.specs.declared.ScriptCause.TheVariants.{Letter, WordCount, Digits, Text}
use Rattle.model.specs.Questions.{Question, ask, AllYes, FirstNo}
use Rattle.model.specs.declared.Call.{Call}
use Rattle.model.specs.declared.Call.TheVariants.{Create, Write, Discard, Read, Snapshot, Clone, Destroy, Unique, Used, Bucket}
use Rattle.script.specs.Words.{words, first_words, Numeral, IsText}

-- the letters d, u and a have one number, c, x, p, s and k two, and w two and a text
abbrev pub wanted : ℕ → Option ℕ
wanted b = if b == 119 then Some 4 else if list_any (nat_eq b) (codes "cxpsk") then Some 3 else if list_any (nat_eq b) (codes "dua") then Some 2 else None

-- a line is cut at each space, but of the letter w at its first three, since spaces may stand in its text
abbrev pub words_of : List ℕ → List (List ℕ)
words_of line = if slice_index line 0 == 119 then first_words 3 line else words line

-- a known letter, followed by a space
abbrev pub Opens : List ℕ → Type 0
Opens line = (b : ℕ) × (rest : List ℕ) × (n : ℕ) × (line ≡ b ∷ 32 ∷ rest) × (wanted b ≡ Some n)

-- as many words as the letter wants
abbrev pub Counted : List ℕ → Type 0
Counted line = wanted (slice_index line 0) ≡ Some (length (words_of line))

-- P holds of each
abbrev pub Each : (List ℕ → Type 0) → List (List ℕ) → Type 0
Each P [] = Unit {0}
Each P (w ∷ ws) = P w × Each P ws

-- the words after the letter are numbers, of the letter w the first two
abbrev pub Numbers : List ℕ → Type 0
Numbers line = Each Numeral (take 2 (drop 1 (words_of line)))

-- a fourth word, which only the letter w has, is a text
abbrev pub Texts : List ℕ → Type 0
Texts line = Each IsText (drop 3 (words_of line))

-- each question is put to the whole line before the next
abbrev pub line_questions : List ℕ → List Question
line_questions line =
    ask (Opens line) (Script Letter) ∷ ask (Counted line) (Script WordCount) ∷ ask (Numbers line) (Script Digits) ∷ ask (Texts line) (Script Text) ∷ []

-- two numbers, with a space between them
abbrev pub two_numbers : ℕ → ℕ → List ℕ
two_numbers n m = decimal n ++ codes " " ++ decimal m

-- the line that writes a call; a bucket has none, and stands for the empty line, which is refused
abbrev pub call_text : Call → List ℕ
call_text (Create n h) = codes "c " ++ two_numbers n h
call_text (Write n p text) = codes "w " ++ two_numbers n p ++ codes " " ++ text.now
call_text (Discard n p) = codes "x " ++ two_numbers n p
call_text (Read n p) = codes "p " ++ two_numbers n p
call_text (Snapshot n m) = codes "s " ++ two_numbers n m
call_text (Clone m n) = codes "k " ++ two_numbers m n
call_text (Destroy n) = codes "d " ++ decimal n
call_text (Unique n) = codes "u " ++ decimal n
call_text (Used n) = codes "a " ++ decimal n
call_text (Bucket n k) = []

-- the value whose text the line is, or the cause of its first no
abbrev pub ReadsAs : {X : Type 0} → (X → List ℕ) → List ℕ → Result X ScriptCause → Type 0
ReadsAs text line r = MatchResult r (λ x. AllYes (line_questions line) × (line ≡ text x)) (λ c. FirstNo (line_questions line) (Script c))

-- the call that a line writes, or the cause of its first no
abbrev pub ReadsCall : List ℕ → Result Call ScriptCause → Type 0
ReadsCall = ReadsAs call_text
