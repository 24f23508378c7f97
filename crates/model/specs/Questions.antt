-- What is asked before a call. The first question answered no refuses the call, with its cause.
--     Question            a statement, and the cause of the refusal where it does not hold
--     AllYes qs           every answer is yes
--     FirstNo qs c        c is the cause of the first question answered no
--     questions s c       the questions that concern the call c, in their order
--     format_questions    those before a formatting
use Rattle.std.specs.Prelude.{◌≡◌, ℕ, suc, ◌+◌, ◌*◌, ◌<◌, ◌≤◌, Bool, false, ◌⊎◌, List, [], ◌∷◌, length, Option}
use Rattle.faults.specs.declared.Layer.{Layer}
use Rattle.faults.specs.declared.Layer.TheVariants.{Pool, Memory}
use Rattle.faults.specs.declared.PoolCause.TheVariants.{DatasetNumber, NoDataset, WrongKind, NumberUsed, OutOfRange, HasClones, HasSnapshots}
use Rattle.faults.specs.declared.MemoryCause.TheVariants.{RowsFull, GroupsSpent, BlocksShort, DeadFull, BadShape, NotEmpty}
use Rattle.records.specs.declared.rows.Row.{Row}
use Rattle.tree.specs.Trees.{block_size}
use Rattle.tree.specs.Paths.{Stay}
use Rattle.model.specs.Datasets.{State, Dataset, Unused, IsHead, IsSnapshot, Position, free}
use Rattle.model.specs.Families.{Ancestors, IsClone, OwnSnapshot}
use Rattle.model.specs.Limits.{IsDatasetNumber, Height, PoolSize, RowRoom, DeadRoom}
use Rattle.model.specs.Paths.{Hole, sinking}
use Rattle.model.specs.declared.Call.{Call}
use Rattle.model.specs.declared.Call.TheVariants.{Create, Write, Discard, Read, Snapshot, Clone, Destroy, Unique, Used, Bucket}

-- a statement, and the cause of the refusal where it does not hold
pub record Question : Type 1 where
  pub holds : Type 0
  pub cause : Layer

abbrev pub ask : Type 0 → Layer → Question
ask P c = record { holds = P; cause = c }

-- every answer is yes
abbrev pub AllYes : List Question → Type 0
AllYes [] = Unit {0}
AllYes (q ∷ qs) = q.holds × AllYes qs

-- c is the cause of the first question answered no
abbrev pub FirstNo : List Question → Layer → Type 0
FirstNo [] c = ⊥
FirstNo (q ∷ qs) c = ((q.holds → ⊥) × (c ≡ q.cause)) ⊎ (q.holds × FirstNo qs c)

-- is it a dataset number?
abbrev pub numbered : ℕ → Question
numbered n = ask (IsDatasetNumber n) (Pool DatasetNumber)

-- does the dataset exist?
abbrev pub exists : State → ℕ → Question
exists s n = ask ((r : Row) × Dataset s n r) (Pool NoDataset)

-- is it a head?
abbrev pub head : State → ℕ → Question
head s n = ask ((o : Option ℕ) × IsHead s n o) (Pool WrongKind)

-- is it a snapshot?
abbrev pub snapshot : State → ℕ → Question
snapshot s n = ask ((t : ℕ) × IsSnapshot s n t) (Pool WrongKind)

-- is the number unused?
abbrev pub unused : State → ℕ → Question
unused s n = ask (Unused s n) (Pool NumberUsed)

-- is it in range?
abbrev pub in_range : Type 0 → Question
in_range P = ask P (Pool OutOfRange)

-- has it no clones?
abbrev pub no_clones : State → ℕ → Question
no_clones s n = ask ((m : ℕ) → IsClone s n m → ⊥) (Pool HasClones)

-- has it no snapshots of its own?
abbrev pub no_snapshots : State → ℕ → Question
no_snapshots s n = ask ((m : ℕ) → OwnSnapshot s n m → ⊥) (Pool HasSnapshots)

-- has the row table a free place?
abbrev pub free_row : State → Question
free_row s = ask (length s.rows < s.row_room) (Memory RowsFull)

-- is there a group number to come?
abbrev pub group_left : State → Question
group_left s = ask (s.group < 65535) (Memory GroupsSpent)

-- are as many blocks free as the call takes of dataset n?
abbrev pub free_blocks : State → ℕ → (Row → ℕ → Type 0) → Question
free_blocks s n Takes = ask ((r : Row) × (k : ℕ) × Dataset s n r × Takes r k × (k ≤ free s)) (Memory BlocksShort)

-- do the dead lists still fit with the pointers that sink in dataset n?
abbrev pub dead_fits : State → ℕ → (Row → ℕ → Type 0) → Question
dead_fits s n Sinks = ask ((r : Row) × (k : ℕ) × Dataset s n r × Sinks r k × (length s.dead + k ≤ s.dead_room)) (Memory DeadFull)

-- a write takes a block a level
abbrev pub WriteTakes : Row → ℕ → Type 0
WriteTakes r k = k ≡ suc r.height

-- a discard of data takes one for each indirect block that stays, and a discard of a hole none
abbrev pub DiscardTakes : State → ℕ → Row → ℕ → Type 0
DiscardTakes s p r k = (Hole s r p × (k ≡ 0)) ⊎ ((Hole s r p → ⊥) × Stay s.memory r.root r.height p k)

-- the pointers of the old path that go to the dead list; in a discard of a hole none
abbrev pub WriteSinks : State → ℕ → Row → ℕ → Type 0
WriteSinks s p r k = k ≡ length (sinking s r p)

abbrev pub DiscardSinks : State → ℕ → Row → ℕ → Type 0
DiscardSinks s p r k = (Hole s r p × (k ≡ 0)) ⊎ ((Hole s r p → ⊥) × (k ≡ length (sinking s r p)))

-- the questions of each call, in their order
abbrev pub questions : State → Call → List Question
questions s (Create n h) = numbered n ∷ unused s n ∷ in_range (Height h) ∷ free_row s ∷ []
questions s (Write n p text) =
    numbered n ∷ exists s n ∷ head s n ∷ in_range (Position s n p × (length text.now ≤ block_size))
    ∷ free_blocks s n WriteTakes ∷ dead_fits s n (WriteSinks s p) ∷ []
questions s (Discard n p) =
    numbered n ∷ exists s n ∷ head s n ∷ in_range (Position s n p)
    ∷ free_blocks s n (DiscardTakes s p) ∷ dead_fits s n (DiscardSinks s p) ∷ []
questions s (Read n p) = numbered n ∷ exists s n ∷ in_range (Position s n p) ∷ []
questions s (Snapshot n m) = numbered n ∷ numbered m ∷ exists s n ∷ head s n ∷ unused s m ∷ free_row s ∷ group_left s ∷ []
questions s (Clone m n) = numbered m ∷ numbered n ∷ exists s m ∷ snapshot s m ∷ unused s n ∷ free_row s ∷ []
questions s (Destroy n) = numbered n ∷ exists s n ∷ no_clones s n ∷ no_snapshots s n ∷ []
questions s (Unique n) = numbered n ∷ exists s n ∷ no_clones s n ∷ []
questions s (Used n) = numbered n ∷ exists s n ∷ head s n ∷ []
questions s (Bucket n k) = numbered n ∷ exists s n ∷ in_range ((ms : List ℕ) × Ancestors s n ms × (k < length ms)) ∷ []

-- the questions before block memory and two tables of so many places are formatted for an allocator: do they suit a
-- pool of its size, and does it own nothing?
abbrev pub format_questions : List ℕ → ℕ → ℕ → ℕ → (ℕ → Bool) → List Question
format_questions memory rows dead size owns =
    ask (PoolSize size × (length memory ≡ block_size * size) × RowRoom rows × DeadRoom dead) (Memory BadShape)
    ∷ ask ((b : ℕ) → owns b ≡ false) (Memory NotEmpty) ∷ []
