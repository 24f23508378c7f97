-- What the pool's inner functions ask and leave where the path to a position is replaced.
--     IsWritable      dataset n exists, and is a head
--     head_questions  what is asked of a head that is to be written
--     Routed          the route is the path to p of the row r, and k new levels may replace its first ones
--     Planted         the blocks of the new path are taken, and the path is written
--     Replaces        what replacing a path answers and leaves
use Rattle.std.specs.Prelude.{◌≡◌, ℕ, suc, ◌+◌, ◌^◌, ◌<◌, ◌≤◌, ◌⊎◌, List, [], ◌∷◌, length, None, Ok, Err, Option, Result, slice_index, slice_index_or}
use Rattle.faults.specs.declared.Layer.{Layer}
use Rattle.faults.specs.declared.Layer.TheVariants.{Memory}
use Rattle.faults.specs.declared.MemoryCause.TheVariants.{BlocksShort, DeadFull}
use Rattle.blocks.specs.Meanings.{Meaning}
use Rattle.records.specs.declared.rows.Kind.TheVariants.{Head}
use Rattle.records.specs.declared.rows.Pointer.{Pointer}
use Rattle.records.specs.declared.rows.Row.{Row}
use Rattle.tree.specs.Trees.{block_size, fan}
use Rattle.tree.specs.Paths.{Rewritten, filled, new_at}
use Rattle.tree.specs.declared.paths.Route.{Route}
use Rattle.model.specs.Datasets.{State, Dataset, free}
use Rattle.model.specs.Limits.{IsDatasetNumber}
use Rattle.model.specs.Questions.{Question, numbered, exists, head}
use Rattle.model.specs.Paths.{path_of, sinking}
use Rattle.model.specs.Steps.{Replaced, changed}
use Rattle.model.specs.declared.Changed.{Changed}
use Rattle.reclaim.specs.Taking.{Took}

-- dataset n exists with the row r, and is a head
pub record IsWritable (s : State) (n : ℕ) (r : Row) : Type 0 where
  pub number : IsDatasetNumber n
  pub found : Dataset s n r
  pub origin : Option ℕ
  pub head : r.kind ≡ Head origin

-- the questions that concern the dataset alone
abbrev pub head_questions : State → ℕ → List Question
head_questions s n = numbered n ∷ exists s n ∷ head s n ∷ []

-- the route is the path to p of the dataset with the row r, with its pointers, and may be replaced in its first k levels
pub record Routed (s : State) (r : Row) (p : ℕ) (route : Route) (k : ℕ) (text : List ℕ) : Type 0 where
  pub found : Dataset s r.number r
  pub path : route.path ≡ record { height = r.height; position = p }
  pub position : p < fan ^ r.height
  pub long : length route.old ≡ 5
  pub pointers : (d : ℕ) → d ≤ r.height → slice_index_or route.old d None ≡ path_of s r p d
  pub past : (d : ℕ) → r.height < d → slice_index_or route.old d None ≡ None
  pub deep : k ≤ suc r.height
  pub short : length text ≤ block_size

-- from m to w the blocks of a path are taken, and the memory has the new path to p, which begins at `root`
pub record Planted (s : State) (m w : Meaning) (memory : List ℕ) (r : Row) (p k : ℕ) (text : List ℕ) (root : Option Pointer) : Type 0 where
  pub path : List ℕ
  pub took : Took m w path k
  pub begins : root ≡ new_at (λ d. slice_index path d) s.group k 0
  pub written : Rewritten s.memory memory r.root r.height p (λ d. slice_index path d) s.group k (filled text)

-- the dead table has room for what sinks
abbrev pub Fits : State → Row → ℕ → Type 0
Fits s r p = length s.dead + length (sinking s r p) ≤ s.dead_room

-- enough blocks are free and the dead records fit, and the path is replaced; or not, and nothing changes
abbrev pub Replaces : State → Row → ℕ → ℕ → List ℕ → Result Changed Layer → State → Type 0
Replaces s r p k text (Ok c) t = (k ≤ free s) × Fits s r p × (c ≡ changed s t) × Replaced s t r.number r p k (filled text)
Replaces s r p k text (Err l) t =
    (((k ≤ free s → ⊥) × (l ≡ Memory BlocksShort)) ⊎ ((k ≤ free s) × (Fits s r p → ⊥) × (l ≡ Memory DeadFull))) × (t ≡ s)
