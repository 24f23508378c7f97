-- The blocks that leave a head when the path to a position is replaced.
--     Leaves s r p q       the row r has the pointer q on its path to position p
--     old_path s r p       those pointers, from the root down
--     sinking s r p        those that the previous reaches too, which go to the dead list
--     Hole s r p           there is no data at position p
use Rattle.std.specs.Prelude.{◌≡◌, ℕ, zero, suc, ◌≤◌, List, [], ◌∷◌, ◌++◌, Some, None, filter, Option, nat_le}
use Rattle.records.specs.declared.rows.Pointer.{Pointer}
use Rattle.records.specs.declared.rows.Row.{Row}
use Rattle.tree.specs.Trees.{on_path}
use Rattle.model.specs.Datasets.{State, base}

-- the pointer at depth d of the path to p in the tree of the row r
abbrev pub path_of : State → Row → ℕ → ℕ → Option Pointer
path_of s r p d = on_path s.memory r.root r.height p d

-- q stands on the path to p
abbrev pub Leaves : State → Row → ℕ → Pointer → Type 0
Leaves s r p q = (d : ℕ) × (d ≤ r.height) × (path_of s r p d ≡ Some q)

abbrev pub listed : Option Pointer → List Pointer
listed None = []
listed (Some q) = q ∷ []

-- the first k of some pointers that may be holes, without the holes
unfoldable pub pointers : (ℕ → Option Pointer) → ℕ → List Pointer
pointers f zero = []
pointers f (suc k) = pointers f k ++ listed (f k)

-- the pointers of the path to p, from the root down
abbrev pub old_path : State → Row → ℕ → List Pointer
old_path s r p = pointers (path_of s r p) (suc r.height)

-- those of them that were born at the stamp of the previous or before it
abbrev pub sinking : State → Row → ℕ → List Pointer
sinking s r p = filter (λ q. nat_le q.birth (base s r)) (old_path s r p)

-- there is no data at position p
abbrev pub Hole : State → Row → ℕ → Type 0
Hole s r p = path_of s r p r.height ≡ None
