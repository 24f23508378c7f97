-- What becomes of the blocks of an old path: those born after the stamp of the previous are given back, the others go
-- to the dead list of the dataset.
--     old_pointers old          the pointers of the path, without its holes
--     sunk old stamp            those born at the stamp or before it
--     DeadOrdered t             the dead records stand in the order of their keys
--     Ready                     the pointers can leave
--     Departed                  they have left, and so many blocks were given back
use Rattle.std.specs.Prelude.{◌≡◌, ℕ, ◌+◌, ◌<◌, ◌≤◌, true, false, List, length, get_or, Some, None, filter, Option, ◌≢◌, nat_le, slice_index_or}
use Rattle.blocks.specs.Meanings.{Meaning, Alike, owned}
use Rattle.ordered.specs.Lent.{Ordered}
use Rattle.ordered.specs.Tables.{record_of}
use Rattle.ordered.specs.declared.tables.Table.{Table}
use Rattle.records.specs.Keys.{dead_key, dead_below}
use Rattle.records.specs.declared.dead.DeadRecord.{DeadRecord}
use Rattle.records.specs.declared.rows.Pointer.{Pointer}
use Rattle.model.specs.Datasets.{dead_of}
use Rattle.model.specs.Paths.{pointers}
use Rattle.model.specs.Steps.{buried}

-- the pointers of an old path, from the root down
abbrev pub old_pointers : List (Option Pointer) → List Pointer
old_pointers old = pointers (λ d. get_or old d None) (length old)

-- those of them that were born at the stamp or before it
abbrev pub sunk : List (Option Pointer) → ℕ → List Pointer
sunk old stamp = filter (λ q. nat_le q.birth stamp) (old_pointers old)

-- the dead records stand in the order of their keys
abbrev pub DeadOrdered : Table DeadRecord → Type 0
DeadOrdered t = Ordered dead_key dead_below t

-- no two lead to one block, the young blocks are owned, the records of the old ones are new and have places
pub record Ready (m : Meaning) (dead : List DeadRecord) (room n stamp : ℕ) (old : List (Option Pointer)) : Type 0 where
  pub apart : (i j : ℕ) (q x : Pointer) → i < j → slice_index_or old i None ≡ Some q → slice_index_or old j None ≡ Some x → q.block ≢ x.block
  pub young : (i : ℕ) (q : Pointer) → slice_index_or old i None ≡ Some q → stamp < q.birth → m.owns q.block ≡ true
  pub absent : (i : ℕ) (q : Pointer) → slice_index_or old i None ≡ Some q → q.birth ≤ stamp → record_of dead_key dead_below dead (dead_key (dead_of n q)) ≡ None
  pub fits : length dead + length (sunk old stamp) ≤ room

-- the young blocks are given back, and no others; the dead table has a record of each of the old ones
pub record Departed (m w : Meaning) (dead dead' : List DeadRecord) (n stamp : ℕ) (old : List (Option Pointer)) (given : ℕ) : Type 0 where
  pub size : Alike m w
  pub gone : (i : ℕ) (q : Pointer) → slice_index_or old i None ≡ Some q → stamp < q.birth → w.owns q.block ≡ false
  pub others : (b : ℕ) → ((i : ℕ) (q : Pointer) → slice_index_or old i None ≡ Some q → stamp < q.birth → q.block ≢ b) → w.owns b ≡ m.owns b
  pub number : owned w + given ≡ owned m
  pub buries : dead' ≡ buried n dead (sunk old stamp)
