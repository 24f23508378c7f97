-- The state of a pool, and the words for its datasets and the blocks that they share.
--     State                  what a pool holds
--     Dataset s n r          dataset n exists in s, and r is its row
--     Unused s n             no dataset of s has the number n
--     IsHead, IsSnapshot     n is a head with an origin or none; n is a snapshot with a stamp
--     Previous s n m         m is the previous of n
--     stamp s o, base s r    the stamp of a snapshot that may be there; the stamp of the previous of the row r
--     Has s n d i q          dataset n has the pointer q at depth d and index i of its tree
--     Points s n q           dataset n has the pointer q at some place
--     Reaches s n b          dataset n reaches block b
--     Reached s b            some dataset reaches block b
--     Young s n b            dataset n reaches block b, which was born after the stamp of the previous of n
--     Dead s n q             the pointer q is in the dead list of n
--     Buried s n q           the dead table has a record of the pointer q for dataset n
--     Position s n p         p is a position of dataset n
--     reads s n p            what position p of dataset n reads
--     free s                 how many blocks are free
--     head_row n h           the row of a new head n of height h: a hole as root, no previous, no origin
--     formatted              the state of a pool just formatted
use Rattle.std.specs.Prelude.{◌≡◌, ℕ, ◌-◌, ◌^◌, ◌<◌, Bool, List, [], Some, None, Option, nat_lt}
use Rattle.std.specs.Option.{option_map}
use Rattle.blocks.specs.Sets.{count}
use Rattle.ordered.specs.Tables.{record_of}
use Rattle.records.specs.Keys.{number_of, dead_key, dead_below}
use Rattle.records.specs.declared.dead.DeadRecord.{DeadRecord}
use Rattle.records.specs.declared.rows.Kind.{Kind}
use Rattle.records.specs.declared.rows.Kind.TheVariants.{Head, Snapshot}
use Rattle.records.specs.declared.rows.Pointer.{Pointer}
use Rattle.records.specs.declared.rows.Row.{Row}
use Rattle.tree.specs.Trees.{fan, block, at, Holds}

-- block memory; the rows and the dead records, each in their order, and how many places there are for each; the group
-- number; how many blocks there are, and which of them are owned
pub record State : Type 0 where
  pub memory : List ℕ
  pub rows : List Row
  pub row_room : ℕ
  pub dead : List DeadRecord
  pub dead_room : ℕ
  pub group : ℕ
  pub size : ℕ
  pub owns : ℕ → Bool

-- dataset n exists, and r is its row
abbrev pub Dataset : State → ℕ → Row → Type 0
Dataset s n r = record_of number_of nat_lt s.rows n ≡ Some r

-- no dataset has the number n
abbrev pub Unused : State → ℕ → Type 0
Unused s n = record_of number_of nat_lt s.rows n ≡ None

-- n is a head with the origin o
abbrev pub IsHead : State → ℕ → Option ℕ → Type 0
IsHead s n o = (r : Row) × Dataset s n r × (r.kind ≡ Head o)

-- n is a snapshot with the stamp t
abbrev pub IsSnapshot : State → ℕ → ℕ → Type 0
IsSnapshot s n t = (r : Row) × Dataset s n r × (r.kind ≡ Snapshot t)

-- m is the previous of n
abbrev pub Previous : State → ℕ → ℕ → Type 0
Previous s n m = (r : Row) × Dataset s n r × (r.previous ≡ Some m)

-- the youngest birth that a dataset may have: a snapshot's stamp, and for a head, which can be written, the group number
abbrev pub kind_stamp : ℕ → Kind → ℕ
kind_stamp g (Head o) = g
kind_stamp g (Snapshot t) = t

abbrev pub row_stamp : ℕ → Option Row → ℕ
row_stamp g None = 0
row_stamp g (Some r) = kind_stamp g r.kind

-- the stamp of a dataset, 0 where there is none
abbrev pub stamp : State → Option ℕ → ℕ
stamp s None = 0
stamp s (Some n) = row_stamp s.group (record_of number_of nat_lt s.rows n)

-- the stamp of the previous: what is born later is the dataset's own
unfoldable pub base : State → Row → ℕ
base s r = stamp s r.previous

-- dataset n has the pointer q at depth d, where 0 is the root, and index i
pub record Has (s : State) (n d i : ℕ) (q : Pointer) : Type 0 where
  pub row : Row
  pub found : Dataset s n row
  pub holds : Holds s.memory row.root row.height d i q

-- dataset n has the pointer q at some place
abbrev pub Points : State → ℕ → Pointer → Type 0
Points s n q = (d : ℕ) × (i : ℕ) × Has s n d i q

-- dataset n reaches block b
abbrev pub Reaches : State → ℕ → ℕ → Type 0
Reaches s n b = (q : Pointer) × Points s n q × (q.block ≡ b)

-- some dataset reaches block b
abbrev pub Reached : State → ℕ → Type 0
Reached s b = (n : ℕ) × Reaches s n b

-- n reaches block b, born after the stamp of the previous of n
abbrev pub Young : State → ℕ → ℕ → Type 0
Young s n b = (r : Row) × (q : Pointer) × Dataset s n r × Points s n q × (base s r < q.birth) × (q.block ≡ b)

-- the dead list of n: the pointers of its previous whose blocks n does not reach
abbrev pub Dead : State → ℕ → Pointer → Type 0
Dead s n q = (m : ℕ) × Previous s n m × Points s m q × (Reaches s n q.block → ⊥)

-- the record of the pointer q in the dead list of n
abbrev pub dead_of : ℕ → Pointer → DeadRecord
dead_of n q = record { dataset = n; birth = q.birth; block = q.block }

-- the dead table has that record
abbrev pub Buried : State → ℕ → Pointer → Type 0
Buried s n q = record_of dead_key dead_below s.dead (dead_key (dead_of n q)) ≡ Some (dead_of n q)

-- p is a position of dataset n
abbrev pub Position : State → ℕ → ℕ → Type 0
Position s n p = (r : Row) × Dataset s n r × (p < fan ^ r.height)

abbrev pub row_reads : List ℕ → Option Row → ℕ → Option (List ℕ)
row_reads memory None p = None
row_reads memory (Some r) p = option_map (λ (q : Pointer). block memory q.block) (at memory r.root r.height p)

-- the bytes of the block at position p of dataset n, or nothing at a hole
unfoldable pub reads : State → ℕ → ℕ → Option (List ℕ)
reads s n p = row_reads s.memory (record_of number_of nat_lt s.rows n) p

-- how many blocks are free
abbrev pub free : State → ℕ
free s = s.size - count s.owns s.size

-- a head with a hole as root, no previous and no origin, that owns itself and reaches no block
abbrev pub head_row : ℕ → ℕ → Row
head_row n h = record { number = n; height = h; root = None; previous = None; owner = n; kind = Head None; born = 0 }

-- no dataset and no dead record, in group 1; block memory is anything
abbrev pub formatted : List ℕ → ℕ → ℕ → ℕ → (ℕ → Bool) → State
formatted memory rows dead size owns =
    record { memory = memory; rows = []; row_room = rows; dead = []; dead_room = dead; group = 1; size = size; owns = owns }
