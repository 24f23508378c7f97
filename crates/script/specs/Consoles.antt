-- What a script prints.
--     Console               a console in the middle of its script
--     FirstLine bs l k      l is the first line of bs, and k what follows it
--     Names l m             the line l names the make m of allocator
--     NamesAllocator l      the line l names an allocator, as the first line of a script must
--     Obeyed s l r t        the line l, after the first, answers r in the state s and leaves t
--     Answered c l r d      the console c, which has just read the line l, answers r, and is then d
--     told n r              the line that shows the answer r to line n
--     Next c bs d           the console c prints the line bs next, and is then d
--     Over c                the console c prints no more
--     Prints c bs           all that the console c prints
use Rattle.std.specs.Prelude.{◌≡◌, ℕ, ◌+◌, ◌<◌, ◌≤◌, false, ◌⊎◌, List, [], ◌++◌, length, Some, None, Ok, Err, codes, Result}
use Rattle.faults.specs.declared.Layer.{Layer}
use Rattle.faults.specs.declared.Layer.TheVariants.{Script}
use Rattle.faults.specs.declared.ScriptCause.TheVariants.{Size, Letter}
use Rattle.makes.specs.declared.Make.{Make}
use Rattle.makes.specs.declared.Make.TheVariants.{Bits, Ranges}
use Rattle.model.specs.Datasets.{State, formatted}
use Rattle.model.specs.Questions.{AllYes, FirstNo}
use Rattle.model.specs.Steps.{Step}
use Rattle.model.specs.declared.Answer.{Answer}
use Rattle.model.specs.declared.Answer.TheVariants.{Done}
use Rattle.model.specs.declared.Call.{Call}
use Rattle.script.specs.Lines.{line_questions, call_text}
use Rattle.script.specs.Parts.{Splits}
use Rattle.script.specs.Shown.{shown_granted, shown_fault}

-- the bytes that are still to be read, how many lines were read, and the pool
pub record Console : Type 0 where
  pub rest : List ℕ
  pub read : ℕ
  pub pool : State

-- a console before its first line, which was lent block memory: its pool has 64 places for rows, 512 for dead records
-- and 256 blocks, none of which is owned
abbrev pub opened : List ℕ → List ℕ → Console
opened memory script = record { rest = script; read = 0; pool = formatted memory 64 512 256 (λ _. false) }

-- more bytes than a script may have
abbrev pub TooLong : List ℕ → Type 0
TooLong bs = 32768 < length bs

-- a line ends with byte 10, which the last line may lack; nothing follows a last line
abbrev pub FirstLine : List ℕ → List ℕ → List ℕ → Type 0
FirstLine bs line rest = (1 ≤ length bs) × (Splits 10 bs line (Some rest) ⊎ (Splits 10 bs line None × (rest ≡ [])))

-- b for a bitmap, m for a range map
abbrev pub Names : List ℕ → Make → Type 0
Names line Bits = line ≡ codes "b"
Names line Ranges = line ≡ codes "m"

-- the line names some make
abbrev pub NamesAllocator : List ℕ → Type 0
NamesAllocator line = (m : Make) × Names line m

-- A line after the first is refused for its form, and nothing changes; or it writes a call, which the pool answers.
pub data Obeyed (s : State) (line : List ℕ) : Result Answer Layer → State → Type 0 where
  malformed : {l : Layer} → FirstNo (line_questions line) l → Obeyed s line (Err l) s
  called : (c : Call) {r : Result Answer Layer} {t : State} → AllYes (line_questions line) → line ≡ call_text c → Step s c r t → Obeyed s line r t

-- a console that reads no more, and one with another pool
abbrev pub ended : Console → Console
ended c = record { rest = []; read = c.read; pool = c.pool }

abbrev pub with_pool : Console → State → Console
with_pool c pool = record { rest = c.rest; read = c.read; pool = pool }

-- no block was taken and none was given back
abbrev pub nothing_moved : Answer
nothing_moved = Done (record { taken = 0; given = 0 })

-- What a console answers to the line that it has just read, and the console after it.
pub data Answered (c : Console) (line : List ℕ) : Result Answer Layer → Console → Type 0 where
  -- the first line names an allocator
  named : c.read ≡ 1 → NamesAllocator line → Answered c line (Ok nothing_moved) c
  -- any other first line is the last that is read
  unnamed : c.read ≡ 1 → (NamesAllocator line → ⊥) → Answered c line (Err (Script Letter)) (ended c)
  -- a later line is obeyed
  later : {r : Result Answer Layer} {t : State} → 2 ≤ c.read → Obeyed c.pool line r t → Answered c line r (with_pool c t)

-- the line that shows the answer to line n
abbrev pub told : ℕ → Result Answer Layer → List ℕ
told n (Ok a) = shown_granted a
told n (Err l) = shown_fault (record { layer = l; line = n })

-- the console that has read one line more
abbrev pub past : Console → List ℕ → Console
past c rest = record { rest = rest; read = c.read + 1; pool = c.pool }

-- The next line that a console prints, and the console after it.
pub data Next (c : Console) : List ℕ → Console → Type 0 where
  -- a script that is too long is not read, which is told of line 0
  too_long : TooLong c.rest → Next c (told 0 (Err (Script Size))) (ended c)
  -- else the next line is read and answered, under its number
  line : {line rest : List ℕ} {r : Result Answer Layer} {d : Console} → (TooLong c.rest → ⊥) → FirstLine c.rest line rest → Answered (past c rest) line r d
      → Next c (told (c.read + 1) r) d

-- nothing is left to read
abbrev pub Over : Console → Type 0
Over c = c.rest ≡ []

-- all that a console prints: line after line, until it is over
pub data Prints : Console → List ℕ → Type 0 where
  none : {c : Console} → Over c → Prints c []
  more : {c d : Console} {line rest : List ℕ} → Next c line d → Prints d rest → Prints c (line ++ rest)
