-- One pointer that leaves a dataset.
--     is_sunk    there is a pointer, born at the stamp or before it
--     Able       it can leave
--     Left       it has left, and whether its block was given back
use Rattle.std.specs.Prelude.{◌≡◌, ℕ, ◌<◌, ◌≤◌, Bool, true, false, List, length, Some, None, Ok, Option, nat_le}
use Rattle.blocks.specs.Meanings.{Meaning, Giving}
use Rattle.ordered.specs.Tables.{record_of, with_record}
use Rattle.records.specs.Keys.{dead_key, dead_below}
use Rattle.records.specs.declared.dead.DeadRecord.{DeadRecord}
use Rattle.records.specs.declared.rows.Pointer.{Pointer}
use Rattle.model.specs.Datasets.{dead_of}

-- there is a pointer, born at the stamp or before it
abbrev pub is_sunk : Option Pointer → ℕ → Bool
is_sunk None stamp = false
is_sunk (Some q) stamp = nat_le q.birth stamp

-- a young block is owned; the record of an old one is new and has a place
pub record Able (m : Meaning) (dead : List DeadRecord) (room n stamp : ℕ) (q : Pointer) : Type 0 where
  pub young : stamp < q.birth → m.owns q.block ≡ true
  pub absent : q.birth ≤ stamp → record_of dead_key dead_below dead (dead_key (dead_of n q)) ≡ None
  pub fits : q.birth ≤ stamp → length dead < room

-- a young block is given back; of an old one the dead table has a record
pub record Left (m w : Meaning) (dead dead' : List DeadRecord) (n stamp : ℕ) (q : Pointer) (given : Bool) : Type 0 where
  pub young : stamp < q.birth → (given ≡ true) × Giving m q.block w (Ok tt) × (dead' ≡ dead)
  pub old : q.birth ≤ stamp → (given ≡ false) × (w ≡ m) × (dead' ≡ with_record dead_key dead_below dead (dead_of n q))
