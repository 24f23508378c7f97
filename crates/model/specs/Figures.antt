-- The figures of datasets.
--     HowMany P n k     k of the numbers below n have the property P
--     Only s n b        dataset n reaches block b, and no other dataset does
--     UniqueIs s n k    k blocks are reached by dataset n alone
--     Uses s n b        the file system of head n reaches block b, born after the stamp of its origin
--     UsedIs s n k      the file system of head n uses k blocks
use Rattle.std.specs.Prelude.{◌≡◌, ℕ, ◌<◌, Bool, true, ◌↔◌, Option}
use Rattle.blocks.specs.Sets.{count}
use Rattle.records.specs.declared.rows.Pointer.{Pointer}
use Rattle.model.specs.Datasets.{State, IsHead, Points, Reaches, stamp}
use Rattle.model.specs.Families.{Belongs}

-- k of the numbers below n have the property P: some test tells which, and k of them pass it
pub record HowMany (P : ℕ → Type 0) (n k : ℕ) : Type 0 where
  pub test : ℕ → Bool
  pub tells : (b : ℕ) → b < n → (test b ≡ true) ↔ P b
  pub counted : k ≡ count test n

-- n reaches block b, and no other dataset does
abbrev pub Only : State → ℕ → ℕ → Type 0
Only s n b = Reaches s n b × ((m : ℕ) → Reaches s m b → m ≡ n)

-- k blocks are reached by n alone
abbrev pub UniqueIs : State → ℕ → ℕ → Type 0
UniqueIs s n k = HowMany (Only s n) s.size k

-- a dataset of the file system of head n reaches block b, which was born after the stamp of the origin
abbrev pub Uses : State → ℕ → ℕ → Type 0
Uses s n b = (o : Option ℕ) × (m : ℕ) × (q : Pointer) × IsHead s n o × Belongs s n m × Points s m q × (stamp s o < q.birth) × (q.block ≡ b)

-- the file system of head n uses k blocks
abbrev pub UsedIs : State → ℕ → ℕ → Type 0
UsedIs s n k = HowMany (Uses s n) s.size k
