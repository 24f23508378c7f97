-- Blocks that are given back one after another: those of a list of dead records, and the young ones of a tree.
--     Gave m n w           block n is given back
--     GivenBack m w P      the blocks that have the property P are given back, and no others
--     Fewer m w            no more blocks are owned
--     InList list b        a record of the list has block b
--     ListReady m list     the blocks of a list can be given back
use Rattle.std.specs.Prelude.{◌≡◌, ℕ, ◌≤◌, true, false, List, Ok, ◌≢◌}
use Rattle.std.specs.List.{All, AllPairs, Any}
use Rattle.blocks.specs.Meanings.{Meaning, Alike, Giving, owned}
use Rattle.records.specs.declared.dead.DeadRecord.{DeadRecord}

-- block n was owned, and alone leaves the set
abbrev pub Gave : Meaning → ℕ → Meaning → Type 0
Gave m n w = Giving m n w (Ok tt)

-- from m to w the blocks that have the property P are given back, and no others
pub record GivenBack (m w : Meaning) (P : ℕ → Type 0) : Type 0 where
  pub size : Alike m w
  pub gone : (b : ℕ) → P b → w.owns b ≡ false
  pub others : (b : ℕ) → ¬ (P b) → w.owns b ≡ m.owns b

-- the same size, and no more blocks are owned
pub record Fewer (m w : Meaning) : Type 0 where
  pub size : Alike m w
  pub fewer : owned w ≤ owned m

-- a record of the list has block b
abbrev pub InList : List DeadRecord → ℕ → Type 0
InList list b = Any (λ r. r.block ≡ b) list

-- no two records have one block, and every block is owned
pub record ListReady (m : Meaning) (list : List DeadRecord) : Type 0 where
  pub apart : AllPairs (λ r x. r.block ≢ x.block) list
  pub owned : All (λ r. m.owns r.block ≡ true) list
