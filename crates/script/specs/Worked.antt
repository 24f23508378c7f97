-- The worked examples: histories of calls, and a script with its answers.
--     script_of lines     the script of these lines, each with the byte that ends it
--     worked_lines        the lines of the worked script
--     worked_answers      what they are answered
--     WorkedScript        a console prints just these answers, whatever block memory held
--     Worked              the worked histories and the worked script
use Rattle.std.specs.Prelude.{◌≡◌, ℕ, List, [], ◌∷◌, ◌++◌, length, codes}
use Rattle.model.specs.Histories.{Histories}
use Rattle.script.specs.Consoles.{Prints, opened}
use Rattle.script.specs.Shown.{newline}

-- each line with the byte that ends it
abbrev pub script_of : List (List ℕ) → List ℕ
script_of [] = []
script_of (line ∷ lines) = line ++ (newline ++ script_of lines)

-- a timetable is written, and again after a snapshot, which cannot be asked while it has a clone
abbrev pub worked_lines : List (List ℕ)
worked_lines =
    codes "b" ∷ codes "c 1 1" ∷ codes "w 1 0 maths" ∷ codes "s 1 10" ∷ codes "w 1 0 art" ∷ codes "k 10 2" ∷ codes "u 10"
    ∷ codes "d 2" ∷ codes "u 10" ∷ codes "p 10 0" ∷ codes "d 10" ∷ codes "a 1" ∷ []

abbrev pub worked_answers : List (List ℕ)
worked_answers =
    codes "ok 0 0" ∷ codes "ok 0 0" ∷ codes "ok 2 0" ∷ codes "ok 0 0" ∷ codes "ok 2 0" ∷ codes "ok 0 0" ∷ codes "no 11 p 7"
    ∷ codes "ok 0 0" ∷ codes "= 2" ∷ codes "text maths" ∷ codes "ok 0 2" ∷ codes "= 2" ∷ []

-- whatever block memory held, and whatever blocks the allocator takes
abbrev pub WorkedScript : Type 0
WorkedScript = (memory out : List ℕ) → length memory ≡ 16384 → Prints (opened memory (script_of worked_lines)) out → out ≡ script_of worked_answers

abbrev pub Worked : Type 0
Worked = Histories × WorkedScript
