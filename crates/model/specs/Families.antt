-- Datasets that belong together.
--     Ancestors s n ms    ms are all snapshots met from n, going from previous to previous across origins, the oldest first
--     Met s o n m         m is met from n, going from previous to previous, before the origin o
--     OwnSnapshot s n m   m is a snapshot of head n's own
--     Belongs s n m       m is in the file system of head n: it is n or one of its own snapshots
--     Next s n m          m is the next of snapshot n
--     IsClone s n m       head m is a clone of snapshot n
use Rattle.std.specs.Prelude.{◌≡◌, ℕ, ◌⊎◌, List, [], ◌∷◌, ◌++◌, Some, None, Option, ◌≢◌}
use Rattle.records.specs.declared.rows.Row.{Row}
use Rattle.model.specs.Datasets.{State, Dataset, IsHead, Previous}

-- the snapshots met from n, going from previous to previous across origins, the oldest first
pub data Ancestors (s : State) : ℕ → List ℕ → Type 0 where
  none : {n : ℕ} (r : Row) → Dataset s n r → r.previous ≡ None → Ancestors s n []
  after : {n m : ℕ} {ms : List ℕ} → Previous s n m → Ancestors s m ms → Ancestors s n (ms ++ m ∷ [])

-- m is met from n, going from previous to previous and stopping before the origin o
pub data Met (s : State) (o : Option ℕ) : ℕ → ℕ → Type 0 where
  nearest : {n m : ℕ} → Previous s n m → o ≢ Some m → Met s o n m
  farther : {n m k : ℕ} → Previous s n m → o ≢ Some m → Met s o m k → Met s o n k

-- m is a snapshot of head n's own
abbrev pub OwnSnapshot : State → ℕ → ℕ → Type 0
OwnSnapshot s n m = (o : Option ℕ) × IsHead s n o × Met s o n m

-- the file system of head n: n and its own snapshots
abbrev pub Belongs : State → ℕ → ℕ → Type 0
Belongs s n m = (o : Option ℕ) × IsHead s n o × ((m ≡ n) ⊎ Met s o n m)

-- m is the dataset of snapshot n's file system whose previous is n
abbrev pub Next : State → ℕ → ℕ → Type 0
Next s n m = (h : ℕ) × Belongs s h n × Belongs s h m × Previous s m n

-- the origin of head m is n
abbrev pub IsClone : State → ℕ → ℕ → Type 0
IsClone s n m = IsHead s m (Some n)
