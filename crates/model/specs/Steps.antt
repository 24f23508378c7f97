-- What a call answers and leaves.
--     taken, given s t     how many blocks are owned in t and not in s, and the reverse
--     changed s t          what a change from s to t answers
--     OwnedAfter           which blocks are owned after some were taken and some given back
--     buried n dead qs     the dead records with one of dataset n for each of the pointers qs
--     Replaced             the path of head n to position p is replaced, its first k levels by new blocks
--     DeadAfter t After    the dead table of t has the dead lists that After names
--     HandedOver           the dead lists once snapshot m is taken of head n
--     Snapped              snapshot m is taken of head n
--     HeadDestroyed        head n is destroyed
--     Released             block b is given back where a snapshot with the next m is destroyed
--     Merged               the dead lists once snapshot n with the next m is destroyed
--     SnapshotDestroyed    snapshot n is destroyed
--     Granted s c a t      the call c, granted in s, answers a and leaves t
--     Step s c r t         the call c in s, granted or refused, answers r and leaves t
use Rattle.std.specs.Prelude.{◌≡◌, ℕ, suc, ◌+◌, ◌-◌, ◌<◌, ◌≤◌, Bool, true, false, not, ◌&&◌, ◌⊎◌, ◌↔◌, List, [], ◌∷◌, Some, Ok, Err, Option, Result, ◌≢◌, nat_lt}
use Rattle.faults.specs.declared.Layer.{Layer}
use Rattle.blocks.specs.Sets.{count}
use Rattle.ordered.specs.Order.{Holds}
use Rattle.ordered.specs.Tables.{Ascending, with_record, without_key, replaced}
use Rattle.records.specs.Keys.{number_of, dead_key, dead_below}
use Rattle.records.specs.declared.dead.DeadRecord.{DeadRecord}
use Rattle.records.specs.declared.rows.Kind.{Kind}
use Rattle.records.specs.declared.rows.Kind.TheVariants.{Head, Snapshot as OfSnapshot}
use Rattle.records.specs.declared.rows.Pointer.{Pointer}
use Rattle.records.specs.declared.rows.Row.{Row}
use Rattle.tree.specs.Paths.{Stay, Rewritten, new_at, filled}
use Rattle.model.specs.Datasets.{State, Dataset, Young, Buried, base, head_row, dead_of, reads}
use Rattle.model.specs.Buckets.{BucketIs}
use Rattle.model.specs.Families.{Next}
use Rattle.model.specs.Figures.{UniqueIs, UsedIs}
use Rattle.model.specs.Paths.{Leaves, Hole, sinking}
use Rattle.model.specs.Questions.{questions, AllYes, FirstNo}
use Rattle.model.specs.declared.Answer.{Answer}
use Rattle.model.specs.declared.Answer.TheVariants.{Done, Bytes, Count, Part}
use Rattle.model.specs.declared.Call.{Call}
use Rattle.model.specs.declared.Call.TheVariants.{Create, Write, Discard, Read, Snapshot, Clone, Destroy, Unique, Used, Bucket}
use Rattle.model.specs.declared.Changed.{Changed}

-- how many blocks are owned after and not before
abbrev pub taken : State → State → ℕ
taken s t = count (λ b. t.owns b && not (s.owns b)) s.size

-- how many blocks are owned before and not after
abbrev pub given : State → State → ℕ
given s t = count (λ b. s.owns b && not (t.owns b)) s.size

-- what a change answers
abbrev pub changed : State → State → Changed
changed s t = record { taken = taken s t; given = given s t }

-- the state s with the row r beside its rows
abbrev pub with_row : State → Row → State
with_row s r =
    record {
      memory = s.memory;
      rows = with_record number_of nat_lt s.rows r;
      row_room = s.row_room;
      dead = s.dead;
      dead_room = s.dead_room;
      group = s.group;
      size = s.size;
      owns = s.owns;
    }

-- the state s with other rows and dead records, another group number, and other owned blocks
abbrev pub altered : State → List Row → List DeadRecord → ℕ → (ℕ → Bool) → State
altered s rows dead group owns =
    record {
      memory = s.memory;
      rows = rows;
      row_room = s.row_room;
      dead = dead;
      dead_room = s.dead_room;
      group = group;
      size = s.size;
      owns = owns;
    }

-- the row r with another root, and another number of blocks born since its previous
abbrev pub with_root : Row → Option Pointer → ℕ → Row
with_root r root born =
    record { number = r.number; height = r.height; root = root; previous = r.previous; owner = r.owner; kind = r.kind; born = born }

-- the row r with another previous, and another number of blocks born since
abbrev pub with_previous : Row → Option ℕ → ℕ → Row
with_previous r previous born =
    record { number = r.number; height = r.height; root = r.root; previous = previous; owner = r.owner; kind = r.kind; born = born }

-- the row of snapshot m of the row r, taken in group g: all that r has but its kind
abbrev pub snapshot_row : ℕ → Row → ℕ → Row
snapshot_row m r g =
    record { number = m; height = r.height; root = r.root; previous = r.previous; owner = r.owner; kind = OfSnapshot g; born = r.born }

-- the row of head n, a clone of the snapshot with the row r: its tree, and the snapshot as previous and origin
abbrev pub clone_row : ℕ → Row → Row
clone_row n r =
    record { number = n; height = r.height; root = r.root; previous = Some r.number; owner = n; kind = Head (Some r.number); born = 0 }

-- the blocks owned after are those taken, and those owned before and not given back
abbrev pub OwnedAfter : State → State → (ℕ → Type 0) → (ℕ → Type 0) → Type 0
OwnedAfter s t Taken Given = (b : ℕ) → (t.owns b ≡ true) ↔ (Taken b ⊎ ((s.owns b ≡ true) × (Given b → ⊥)))

-- the dead records with one of dataset n for each pointer
unfoldable pub buried : ℕ → List DeadRecord → List Pointer → List DeadRecord
buried n dead [] = dead
buried n dead (q ∷ qs) = buried n (with_record dead_key dead_below dead (dead_of n q)) qs

-- The path of head n, with the row r, to position p is replaced: its first k levels by the blocks new 0, new 1 and on,
-- born now, the levels below by holes; the block at the height of the tree holds the bytes.
pub record Replaced (s t : State) (n : ℕ) (r : Row) (p k : ℕ) (bytes : List ℕ) : Type 0 where
  pub new : ℕ → ℕ
  -- the new blocks were free, and no two are the same
  pub free : (d : ℕ) → d < k → (new d < s.size) × (s.owns (new d) ≡ false)
  pub apart : (d e : ℕ) → d < e → e < k → new d ≢ new e
  -- their bytes; all other blocks are as they were
  pub memory : Rewritten s.memory t.memory r.root r.height p new s.group k bytes
  -- the old blocks of the path leave: given back where born after the stamp of the previous, else in the dead list
  pub owned : OwnedAfter s t (λ b. (d : ℕ) × (d < k) × (new d ≡ b)) (λ b. (q : Pointer) × Leaves s r p q × (base s r < q.birth) × (q.block ≡ b))
  pub dead : t.dead ≡ buried n s.dead (sinking s r p)
  -- the row has the new root, and counts the blocks taken and given back
  pub rows : t.rows ≡ replaced number_of nat_lt s.rows (with_root r (new_at new s.group k 0) (r.born + taken s t - given s t))
  -- nothing else changes
  pub row_room : t.row_room ≡ s.row_room
  pub dead_room : t.dead_room ≡ s.dead_room
  pub group : t.group ≡ s.group
  pub size : t.size ≡ s.size

-- the dead records stand in their order, and each dataset n has one for every pointer that After names
pub record DeadAfter (t : State) (After : ℕ → Pointer → Type 0) : Type 0 where
  pub ordered : Ascending dead_key (Holds dead_below) t.dead
  pub members : (n : ℕ) (q : Pointer) → Buried t n q ↔ After n q

-- m has the dead list of n, n has none, and all others have theirs
abbrev pub HandedOver : State → ℕ → ℕ → ℕ → Pointer → Type 0
HandedOver s n m k q = ((k ≡ m) × Buried s n q) ⊎ ((k ≢ m) × (k ≢ n) × Buried s k q)

-- Snapshot m is taken of head n, with the row r: m has its tree, previous and count, and the group number as stamp.
pub record Snapped (s t : State) (n m : ℕ) (r : Row) : Type 0 where
  -- n has m as previous, and nothing born since; a new group begins
  pub rest : t ≡ altered s (with_record number_of nat_lt (replaced number_of nat_lt s.rows (with_previous r (Some m) 0)) (snapshot_row m r s.group)) t.dead (s.group + 1) s.owns
  pub dead : DeadAfter t (HandedOver s n m)

-- Head n is destroyed: its row and its dead list go.
pub record HeadDestroyed (s t : State) (n : ℕ) : Type 0 where
  pub rest : t ≡ altered s (without_key number_of nat_lt s.rows n) t.dead s.group t.owns
  pub dead : DeadAfter t (λ k q. (k ≢ n) × Buried s k q)
  -- the blocks that it reaches and that were born after the stamp of its previous are given back
  pub owned : OwnedAfter s t (λ b. ⊥) (Young s n)

-- block b is in the dead list of the next m, and was born after the stamp of the previous of the snapshot with the row r
abbrev pub Released : State → ℕ → Row → ℕ → Type 0
Released s m r b = (q : Pointer) × Buried s m q × (base s r < q.birth) × (q.block ≡ b)

-- m keeps the rest of its dead list and has the one of n besides, n has none, and all others have theirs
abbrev pub Merged : State → ℕ → ℕ → Row → ℕ → Pointer → Type 0
Merged s n m r k q = ((k ≡ m) × ((Buried s m q × (q.birth ≤ base s r)) ⊎ Buried s n q)) ⊎ ((k ≢ m) × (k ≢ n) × Buried s k q)

-- Snapshot n, with the row r, is destroyed: its row goes, and its next has its previous.
pub record SnapshotDestroyed (s t : State) (n : ℕ) (r : Row) : Type 0 where
  pub next : ℕ
  pub row : Row
  pub is_next : Next s n next
  pub found : Dataset s next row
  pub rest : t ≡ altered s (replaced number_of nat_lt (without_key number_of nat_lt s.rows n) (with_previous row r.previous (row.born + r.born - given s t))) t.dead s.group t.owns
  pub owned : OwnedAfter s t (λ b. ⊥) (Released s next r)
  pub dead : DeadAfter t (Merged s n next r)

-- a dataset is destroyed, by its kind
abbrev pub Destroyed : State → State → ℕ → Row → Kind → Type 0
Destroyed s t n r (Head o) = HeadDestroyed s t n
Destroyed s t n r (OfSnapshot g) = SnapshotDestroyed s t n r

-- Create n h: a new head.
-- Write n p: every level of the path is new, and its last block holds the text, filled with zero bytes.
-- Discard n p: of the path, the levels stay that lead elsewhere too; a hole stays as it is.
-- Snapshot n m: m is taken of head n.
-- Clone m n: a new head with the tree of m.
-- Destroy n: a head or a snapshot goes.
-- Read n p, Unique n, Used n, Bucket n k: nothing changes.
abbrev pub Granted : State → Call → Answer → State → Type 0
Granted s (Create n h) a t = (a ≡ Done (changed s t)) × (t ≡ with_row s (head_row n h))
Granted s (Write n p text) a t = (a ≡ Done (changed s t)) × ((r : Row) × Dataset s n r × Replaced s t n r p (suc r.height) (filled text.now))
Granted s (Discard n p) a t =
    (a ≡ Done (changed s t))
    × ((r : Row) × Dataset s n r × ((Hole s r p × (t ≡ s)) ⊎ ((Hole s r p → ⊥) × ((k : ℕ) × Stay s.memory r.root r.height p k × Replaced s t n r p k []))))
Granted s (Read n p) a t = (a ≡ Bytes (reads s n p)) × (t ≡ s)
Granted s (Snapshot n m) a t = (a ≡ Done (changed s t)) × ((r : Row) × Dataset s n r × Snapped s t n m r)
Granted s (Clone m n) a t = (a ≡ Done (changed s t)) × ((r : Row) × Dataset s m r × (t ≡ with_row s (clone_row n r)))
Granted s (Destroy n) a t = (a ≡ Done (changed s t)) × ((r : Row) × Dataset s n r × Destroyed s t n r r.kind)
Granted s (Unique n) a t = ((k : ℕ) × (a ≡ Count k) × UniqueIs s n k) × (t ≡ s)
Granted s (Used n) a t = ((k : ℕ) × (a ≡ Count k) × UsedIs s n k) × (t ≡ s)
Granted s (Bucket n k) a t = ((place : ℕ) × (len : ℕ) × (a ≡ Part place len) × BucketIs s n k place len) × (t ≡ s)

-- Every question is answered yes, and the call is granted; or the first no refuses it, and nothing changes.
abbrev pub Step : State → Call → Result Answer Layer → State → Type 0
Step s c (Ok a) t = AllYes (questions s c) × Granted s c a t
Step s c (Err l) t = FirstNo (questions s c) l × (t ≡ s)
