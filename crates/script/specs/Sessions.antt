-- A session, by the console that it is.
--     rest_of l            what the lines l still have to read
--     end_of l             the place in the script where that ends
--     Reads l r m          the lines l give r next, and are then m
--     held p, Whole p      the state that the pool p holds; the pool p and its allocator are sound
--     console_of s         the console that the session s is
--     Ready s              the pool of the session s is whole
--     NewAllocator s a     the allocator a is the one that the first line of the script s names, and owns nothing
use Rattle.std.specs.Prelude.{◌≡◌, ℕ, ◌+◌, false, List, [], length, Some, None, Ok, Err, Option, Result}
use Rattle.faults.specs.declared.ScriptCause.{ScriptCause}
use Rattle.faults.specs.declared.ScriptCause.TheVariants.{Size}
use Rattle.makes.specs.Makes as any
use Rattle.makes.specs.Makes.{make_of, meaning_of}
use Rattle.makes.specs.declared.AnyAllocator.{AnyAllocator}
use Rattle.makes.specs.declared.Make.{Make}
use Rattle.model.specs.Datasets.{State}
use Rattle.pool.specs.Pools.{Intact, state_of}
use Rattle.pool.specs.declared.Pool.{Pool}
use Rattle.script.specs.Consoles.{Console, FirstLine, Names, TooLong}
use Rattle.script.specs.declared.lines.Lines.{Lines}
use Rattle.script.specs.declared.parts.Part.{Part}
use Rattle.script.specs.declared.session.Session.{Session}

-- the bytes of the part that is still to be read
abbrev pub rest_of : Lines → List ℕ
rest_of l = l.rest.bytes.now

-- the place where it ends
abbrev pub end_of : Lines → ℕ
end_of l = l.rest.at + length (rest_of l)

-- nothing is left; or too much, and no more is read; or the first line, at its place. What is left ends where it ended
abbrev pub Reads : Lines → Option (Result Part ScriptCause) → Lines → Type 0
Reads l None m = (rest_of l ≡ []) × (m ≡ l)
Reads l (Some (Err c)) m = (c ≡ Size) × TooLong (rest_of l) × (rest_of m ≡ []) × (m.read ≡ l.read) × (end_of m ≡ end_of l)
Reads l (Some (Ok p)) m =
    (TooLong (rest_of l) → ⊥) × FirstLine (rest_of l) p.bytes.now (rest_of m) × (m.read ≡ l.read + 1) × (p.at ≡ l.rest.at) × (end_of m ≡ end_of l)

-- a pool over an allocator of either make: the state that it holds, and that both are sound
abbrev pub held : Pool AnyAllocator → State
held p = state_of meaning_of p

abbrev pub Whole : Pool AnyAllocator → Type 0
Whole p = Intact any.Sound meaning_of p

-- the console that a session is
abbrev pub console_of : Session → Console
console_of s = record { rest = rest_of s.lines; read = s.lines.read; pool = held s.pool }

-- the pool is whole
abbrev pub Ready : Session → Type 0
Ready s = Whole s.pool

-- an allocator of 256 blocks that owns none, of the make that the first line names
pub record NewAllocator (script : List ℕ) (a : AnyAllocator) : Type 0 where
  pub sound : any.Sound a
  pub size : (meaning_of a).size ≡ 256
  pub empty : (k : ℕ) → (meaning_of a).owns k ≡ false
  pub named : (line rest : List ℕ) (m : Make) → FirstLine script line rest → Names line m → make_of a ≡ m
