-- The bytes of each answer.
--     Buffer n                    a buffer of n bytes is long enough for every answer
--     Put before after at n bs    the bytes bs were written to a buffer, from `at` on and up to n
--     shown_granted a             the line that shows what a granted call answers
--     shown a                     the line that shows the answer a
use Rattle.std.specs.Prelude.{◌≡◌, ℕ, ◌+◌, ◌≤◌, List, [], ◌∷◌, ◌++◌, length, take, drop, Some, None, Ok, Err, codes, decimal, Option, Result}
use Rattle.faults.specs.Numbers.{fault_number, fault_letter}
use Rattle.faults.specs.declared.Fault.{Fault}
use Rattle.model.specs.declared.Answer.{Answer}
use Rattle.model.specs.declared.Answer.TheVariants.{Done, Bytes, Count, Part}
use Rattle.model.specs.declared.Changed.{Changed}
use Rattle.script.specs.Parts.{until}

-- a buffer has at least 80 bytes
abbrev pub Buffer : ℕ → Type 0
Buffer n = 80 ≤ n

-- the bytes stand in the buffer from a place on, up to the end; before and past them it is as it was, and as long
pub record Put (before after : List ℕ) (at end : ℕ) (bs : List ℕ) : Type 0 where
  pub long : end ≡ at + length bs
  pub within : end ≤ length after
  pub room : length after ≡ length before
  pub front : take end after ≡ take at before ++ bs
  pub rest : drop end after ≡ drop end before

-- a space, and the end of a line
abbrev pub space : List ℕ
space = 32 ∷ []

abbrev pub newline : List ℕ
newline = 10 ∷ []

-- ok TAKEN GIVEN
abbrev pub shown_change : Changed → List ℕ
shown_change c = codes "ok " ++ decimal c.taken ++ space ++ decimal c.given ++ newline

-- no NUMBER LAYER LINE
abbrev pub shown_fault : Fault → List ℕ
shown_fault f = codes "no " ++ decimal (fault_number f.layer) ++ space ++ (fault_letter f.layer ∷ []) ++ space ++ decimal f.line ++ newline

-- text BYTES, up to the first zero byte, or hole
abbrev pub shown_bytes : Option (List ℕ) → List ℕ
shown_bytes (Some bs) = codes "text " ++ until 0 bs ++ newline
shown_bytes None = codes "hole" ++ newline

-- = COUNT
abbrev pub shown_count : ℕ → List ℕ
shown_count k = codes "= " ++ decimal k ++ newline

-- a change, a read or a figure
abbrev pub shown_granted : Answer → List ℕ
shown_granted (Done c) = shown_change c
shown_granted (Bytes bs) = shown_bytes bs
shown_granted (Count k) = shown_count k
shown_granted (Part place len) = shown_count len

abbrev pub shown : Result Answer Fault → List ℕ
shown (Ok a) = shown_granted a
shown (Err f) = shown_fault f
