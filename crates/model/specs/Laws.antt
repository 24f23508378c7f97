-- The laws of a pool.
--     FormattedSound     a pool just formatted is sound
--     StepsKeepSound     whatever a call answers, a sound pool stays sound
--     ReadsLast          a position reads what was last written there, and all others read as before
--     OwnersTell         the rows with the owner n are the file system of head n
--     UsedIsSum          what a file system uses is the sum over its datasets of the blocks that are young in them
--     EitherOrder        two snapshots destroyed in either order leave the same state and give back as much
--     OneBucket          each record of a dead list lies in exactly one of its buckets
use Rattle.std.specs.Prelude.{◌≡◌, ℕ, ◌+◌, ◌<◌, Bool, ◌↔◌, List, length, Some, None, filter, Ok, Option, Result, ◌≢◌, ◌==◌}
use Rattle.std.specs.List.{sum_by}
use Rattle.std.specs.Borrow.{Bor}
use Rattle.faults.specs.declared.Layer.{Layer}
use Rattle.ordered.specs.Lists.{Stands}
use Rattle.records.specs.Keys.{dead_key, dead_below}
use Rattle.records.specs.declared.dead.DeadRecord.{DeadRecord}
use Rattle.records.specs.declared.rows.Row.{Row}
use Rattle.tree.specs.Paths.{filled}
use Rattle.model.specs.Buckets.{InBucket}
use Rattle.model.specs.Datasets.{State, Dataset, IsHead, IsSnapshot, Young, formatted, Position, reads}
use Rattle.model.specs.Families.{Ancestors, Belongs}
use Rattle.model.specs.Figures.{HowMany, UsedIs}
use Rattle.model.specs.Questions.{questions, format_questions, AllYes}
use Rattle.model.specs.Soundness.{Sound}
use Rattle.model.specs.Steps.{Step}
use Rattle.model.specs.declared.Answer.{Answer}
use Rattle.model.specs.declared.Answer.TheVariants.{Done}
use Rattle.model.specs.declared.Call.{Call}
use Rattle.model.specs.declared.Call.TheVariants.{Create, Write, Discard, Snapshot, Clone, Destroy}
use Rattle.model.specs.declared.Changed.{Changed}

-- a pool just formatted is sound
abbrev pub FormattedSound : Type 0
FormattedSound = (memory : List ℕ) (rows dead size : ℕ) (owns : ℕ → Bool) → AllYes (format_questions memory rows dead size owns)
    → Sound (formatted memory rows dead size owns)

-- whatever a call answers, a sound pool stays sound
abbrev pub StepsKeepSound : Type 0
StepsKeepSound = (s : State) (c : Call) (r : Result Answer Layer) (t : State) → Sound s → Step s c r t → Sound t

-- every position of every dataset but position p of n reads as before
abbrev pub Elsewhere : State → State → ℕ → ℕ → Type 0
Elsewhere s t n p = (m i : ℕ) → ((m ≡ n) × (i ≡ p) → ⊥) → Position s m i → reads t m i ≡ reads s m i

-- every position of every dataset but k reads as before
abbrev pub Besides : State → State → ℕ → Type 0
Besides s t k = (m i : ℕ) → m ≢ k → Position s m i → reads t m i ≡ reads s m i

-- A new head reads as holes, a granted write is read at its position, a granted discard leaves a hole there, a snapshot
-- reads as its head, and a clone as its snapshot; all other positions read as before.
pub record ReadsLast : Type 0 where
  pub created : (s t : State) (n h : ℕ) (a : Answer) → Sound s → Step s (Create n h) (Ok a) t
      → ((p : ℕ) → reads t n p ≡ None) × ((m i : ℕ) → Position s m i → reads t m i ≡ reads s m i)
  pub written : (s t : State) (n p : ℕ) (text : Bor (List ℕ)) (a : Answer) → Sound s → Step s (Write n p text) (Ok a) t
      → (reads t n p ≡ Some (filled text.now)) × Elsewhere s t n p
  pub discarded : (s t : State) (n p : ℕ) (a : Answer) → Sound s → Step s (Discard n p) (Ok a) t → (reads t n p ≡ None) × Elsewhere s t n p
  pub snapped : (s t : State) (n m : ℕ) (a : Answer) → Sound s → Step s (Snapshot n m) (Ok a) t
      → ((p : ℕ) → reads t m p ≡ reads s n p) × Besides s t m
  pub cloned : (s t : State) (m n : ℕ) (a : Answer) → Sound s → Step s (Clone m n) (Ok a) t
      → ((p : ℕ) → reads t n p ≡ reads s m p) × Besides s t n
  pub destroyed : (s t : State) (n : ℕ) (a : Answer) → Sound s → Step s (Destroy n) (Ok a) t → Besides s t n

-- a row has the owner n just where its dataset is in the file system of head n
abbrev pub OwnersTell : Type 0
OwnersTell = (s : State) (n : ℕ) (o : Option ℕ) → Sound s → IsHead s n o → (m : ℕ) (r : Row) → Dataset s m r → (r.owner ≡ n) ↔ Belongs s n m

-- the rows of the file system of head n
abbrev pub system_rows : State → ℕ → List Row
system_rows s n = filter (λ (r : Row). r.owner == n) s.rows

-- what a file system uses is the sum, over its rows, of the blocks that the dataset reaches and that were born after the stamp of its previous
abbrev pub UsedIsSum : Type 0
UsedIsSum = (s : State) (n k : ℕ) (young : Row → ℕ) → Sound s → UsedIs s n k
    → ((m : ℕ) (r : Row) → Dataset s m r → HowMany (Young s m) s.size (young r)) → k ≡ sum_by young (system_rows s n)

-- first n and then m is destroyed, which leaves u and gives back g blocks
pub record DestroysBoth (s : State) (n m : ℕ) (u : State) (g : ℕ) : Type 0 where
  pub between : State
  pub first : Changed
  pub second : Changed
  pub one : Step s (Destroy n) (Ok (Done first)) between
  pub other : Step between (Destroy m) (Ok (Done second)) u
  pub given : first.given + second.given ≡ g

-- two snapshots are destroyed in either order
pub record EitherOrder : Type 0 where
  -- destroying the one leaves the other free to be destroyed
  pub allowed : (s t : State) (n m x y : ℕ) (a : Answer) → Sound s → IsSnapshot s n x → IsSnapshot s m y → n ≢ m
      → AllYes (questions s (Destroy m)) → Step s (Destroy n) (Ok a) t → AllYes (questions t (Destroy m))
  -- both orders leave the same state and give back as many blocks
  pub same : (s u v : State) (n m x y g h : ℕ) → Sound s → IsSnapshot s n x → IsSnapshot s m y
      → DestroysBoth s n m u g → DestroysBoth s m n v h → (u ≡ v) × (g ≡ h)

-- each record of a dataset's dead list lies in exactly one of its buckets
abbrev pub OneBucket : Type 0
OneBucket = (s : State) (n : ℕ) (ms : List ℕ) (x : DeadRecord) → Sound s → Ancestors s n ms → Stands dead_key dead_below s.dead x → x.dataset ≡ n
    → (k : ℕ) × (k < length ms) × InBucket s n ms k x × ((j : ℕ) → j < length ms → InBucket s n ms j x → j ≡ k)
