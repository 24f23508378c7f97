-- What is always true of a pool from its formatting on.
--     Shape s             sizes, ranges and orders
--     Family s            previous, owner and origin
--     Pointers s          blocks in range, births that fall going down, no indirect block with holes only
--     Identity s          places that point to one block are one place, with one pointer
--     BirthLaw s          what was born by the stamp of the previous stands at the same place of the previous
--     OneYoung s          a block is younger than the previous in one dataset at most
--     OwnedReached s      the owned blocks are those reached
--     DeadLists s         the dead table is the dead lists of all datasets
--     Born s              each row counts the blocks younger than its previous
--     Sound s             all of these
use Rattle.std.specs.Prelude.{◌≡◌, ℕ, suc, ◌*◌, ◌/◌, ◌<◌, ◌≤◌, true, ◌⊎◌, ◌↔◌, length, Some, None, Option, ◌≢◌, nat_lt}
use Rattle.ordered.specs.Order.{Holds}
use Rattle.ordered.specs.Tables.{Ascending}
use Rattle.records.specs.Keys.{number_of, dead_key, dead_below}
use Rattle.records.specs.declared.rows.Kind.TheVariants.{Head, Snapshot}
use Rattle.records.specs.declared.rows.Pointer.{Pointer}
use Rattle.records.specs.declared.rows.Row.{Row}
use Rattle.tree.specs.Trees.{block_size, fan}
use Rattle.model.specs.Datasets.{State, Dataset, IsHead, IsSnapshot, kind_stamp, base, Has, Reached, Young, Dead, Buried}
use Rattle.model.specs.Figures.{HowMany}
use Rattle.model.specs.Limits.{IsDatasetNumber, Height, Group, PoolSize, RowRoom, DeadRoom}

pub record Shape (s : State) : Type 0 where
  -- block memory and both tables have sizes that a pool may have
  pub size : PoolSize s.size
  pub memory : length s.memory ≡ block_size * s.size
  pub row_room : RowRoom s.row_room
  pub dead_room : DeadRoom s.dead_room
  -- there is a place for each record, and the records stand in the order of their keys, no key twice
  pub rows_fit : length s.rows ≤ s.row_room
  pub dead_fit : length s.dead ≤ s.dead_room
  pub ordered : Ascending number_of (Holds nat_lt) s.rows
  pub dead_ordered : Ascending dead_key (Holds dead_below) s.dead
  -- numbers, heights, group and stamps are in range
  pub numbers : (n : ℕ) (r : Row) → Dataset s n r → IsDatasetNumber n
  pub heights : (n : ℕ) (r : Row) → Dataset s n r → Height r.height
  pub group : Group s.group
  pub stamps : (n t : ℕ) → IsSnapshot s n t → (1 ≤ t) × (t < s.group)
  -- the owned blocks are blocks
  pub below : (b : ℕ) → s.owns b ≡ true → b < s.size

pub record Family (s : State) : Type 0 where
  -- a head is its own owner, and every owner is a head
  pub head : (n : ℕ) (o : Option ℕ) (r : Row) → Dataset s n r → r.kind ≡ Head o → r.owner ≡ n
  pub owner : (n : ℕ) (r : Row) → Dataset s n r → (o : Option ℕ) × IsHead s r.owner o
  -- an origin is a snapshot
  pub origin : (n m : ℕ) → IsHead s n (Some m) → (t : ℕ) × IsSnapshot s m t
  -- a previous is an older snapshot of the same height
  pub previous : (n m : ℕ) (r : Row) → Dataset s n r → r.previous ≡ Some m
      → (x : Row) × (t : ℕ) × Dataset s m x × (x.kind ≡ Snapshot t) × (x.height ≡ r.height) × (t < kind_stamp s.group r.kind)
  -- it has the same owner, unless it is the owner's origin
  pub within : (n m : ℕ) (r x : Row) → Dataset s n r → Dataset s m x → r.previous ≡ Some m → (o : Option ℕ) → IsHead s r.owner o
      → ((x.owner ≡ r.owner) × (o ≢ Some m)) ⊎ ((x.owner ≢ r.owner) × (o ≡ Some m))
  -- without previous, no origin
  pub first : (n : ℕ) (r : Row) → Dataset s n r → r.previous ≡ None → IsHead s r.owner None
  -- datasets of one owner have different previous
  pub alone : (n m : ℕ) (r x : Row) → Dataset s n r → Dataset s m x → r.owner ≡ x.owner → r.previous ≡ x.previous → n ≡ m
  -- each snapshot is the previous of a dataset of its owner
  pub next : (n t : ℕ) (r : Row) → Dataset s n r → r.kind ≡ Snapshot t
      → (m : ℕ) × (x : Row) × Dataset s m x × (x.previous ≡ Some n) × (x.owner ≡ r.owner)

pub record Pointers (s : State) : Type 0 where
  pub inside : (n d i : ℕ) (q : Pointer) → Has s n d i q → q.block < s.size
  -- births are from 1 to the stamp, or for a head to the group number
  pub births : (n d i : ℕ) (r : Row) (q : Pointer) → Dataset s n r → Has s n d i q → (1 ≤ q.birth) × (q.birth ≤ kind_stamp s.group r.kind)
  -- a block is at most as young as the one that points to it
  pub falls : (n d i : ℕ) (q x : Pointer) → Has s n (suc d) i q → Has s n d (i / fan) x → q.birth ≤ x.birth
  -- an indirect block has a pointer that is no hole
  pub full : (n d i : ℕ) (r : Row) (q : Pointer) → Dataset s n r → d < r.height → Has s n d i q
      → (j : ℕ) × (x : Pointer) × (j / fan ≡ i) × Has s n (suc d) j x

abbrev pub Identity : State → Type 0
Identity s = (n m d e i j : ℕ) (q x : Pointer) → Has s n d i q → Has s m e j x → q.block ≡ x.block → (d ≡ e) × (i ≡ j) × (q ≡ x)

abbrev pub BirthLaw : State → Type 0
BirthLaw s = (n d i : ℕ) (r : Row) (q : Pointer) → Dataset s n r → Has s n d i q → q.birth ≤ base s r → (m : ℕ) × (r.previous ≡ Some m) × Has s m d i q

abbrev pub OneYoung : State → Type 0
OneYoung s = (n m b : ℕ) → Young s n b → Young s m b → n ≡ m

abbrev pub OwnedReached : State → Type 0
OwnedReached s = (b : ℕ) → (s.owns b ≡ true) ↔ Reached s b

abbrev pub DeadLists : State → Type 0
DeadLists s = (n : ℕ) (q : Pointer) → Buried s n q ↔ Dead s n q

abbrev pub Born : State → Type 0
Born s = (n : ℕ) (r : Row) → Dataset s n r → HowMany (Young s n) s.size r.born

pub record Sound (s : State) : Type 0 where
  pub shape : Shape s
  pub family : Family s
  pub pointers : Pointers s
  pub identity : Identity s
  pub birth_law : BirthLaw s
  pub one_young : OneYoung s
  pub owned : OwnedReached s
  pub dead : DeadLists s
  pub born : Born s
