-- A snapshot that is gone, by the rows and places of the others: what every part of soundness needs to know of it.
--     Alike z y     the rows z and y differ in previous and count alone
--     Source        the dataset whose previous a dataset now has
--     Skipped       snapshot n is gone, and its next m has its previous
use Rattle.std.proofs.Common.{◌≡◌, ℕ, ◌<◌, ◌≤◌, ◌⊎◌, Some}
use Rattle.records.specs.declared.rows.Pointer.{Pointer}
use Rattle.records.specs.declared.rows.Row.{Row}
use Rattle.model.specs.Datasets.{State, Dataset, Previous, kind_stamp, base, Has}
use Rattle.model.specs.Steps.{with_previous}

-- the rows z and y differ in previous and count alone
pub record Alike (z y : Row) : Type 0 where
  pub height : y.height ≡ z.height
  pub root : y.root ≡ z.root
  pub owner : y.owner ≡ z.owner
  pub kind : y.kind ≡ z.kind

-- The dataset whose previous dataset k, with the row y, has in t: the snapshot n for its next m, itself for any other.
pub record Source (s t : State) (n m k : ℕ) (y : Row) : Type 0 where
  pub dataset : ℕ
  pub row : Row
  pub found : Dataset s dataset row
  pub which : ((k ≡ m) × (dataset ≡ n)) ⊎ ((k ≡ m → ⊥) × (dataset ≡ k))
  pub previous : row.previous ≡ y.previous
  pub height : row.height ≡ y.height
  pub owner : row.owner ≡ y.owner
  -- it is no younger, and its previous has the same stamp
  pub no_younger : kind_stamp s.group row.kind ≤ kind_stamp s.group y.kind
  pub base_same : base t y ≡ base s row
  -- its previous is not the snapshot
  pub other : (l : ℕ) → y.previous ≡ Some l → l ≡ n → ⊥
  -- what k has no younger than that, it has too
  pub has : (d i : ℕ) (q : Pointer) → Has s k d i q → q.birth ≤ base t y → Has s dataset d i q

-- Snapshot n, with the row r, is gone; its next m, which had the row x, now has its previous and counts c.
pub record Skipped (s t : State) (n m : ℕ) (r x : Row) (c : ℕ) : Type 0 where
  -- the snapshot, and its next, which alone has it as previous
  pub found : Dataset s n r
  pub next : Dataset s m x
  pub previous : x.previous ≡ Some n
  pub owner : x.owner ≡ r.owner
  pub alone : (k : ℕ) → Previous s k n → k ≡ m
  pub apart : m ≡ n → ⊥
  pub memory : t.memory ≡ s.memory
  pub group : t.group ≡ s.group
  pub size : t.size ≡ s.size
  -- the rows
  pub now : Dataset t m (with_previous x r.previous c)
  pub row_same : (k : ℕ) (y : Row) → (k ≡ m → ⊥) → Dataset t k y → Dataset s k y
  pub row_kept : (k : ℕ) (y : Row) → (k ≡ n → ⊥) → (k ≡ m → ⊥) → Dataset s k y → Dataset t k y
  pub row_after : (k : ℕ) (y : Row) → Dataset t k y → (k ≡ n → ⊥) × ((z : Row) × Dataset s k z × Alike z y)
  pub row_before : (k : ℕ) (z : Row) → (k ≡ n → ⊥) → Dataset s k z → (y : Row) × Dataset t k y × Alike z y
  pub source : (k : ℕ) (y : Row) → Dataset t k y → Source s t n m k y
  -- the places
  pub after : (k d i : ℕ) (q : Pointer) → Has t k d i q → (k ≡ n → ⊥) × Has s k d i q
  pub kept : (k d i : ℕ) (q : Pointer) → (k ≡ n → ⊥) → Has s k d i q → Has t k d i q
  -- the births: what is younger than the snapshot's previous is now young in the next, and what the next had no younger than
  -- the snapshot, the snapshot had too
  pub older : base s r < base s x
  pub base_kept : (k : ℕ) (y : Row) → (k ≡ m → ⊥) → Dataset s k y → base t y ≡ base s y
  pub base_now : base t (with_previous x r.previous c) ≡ base s r
  pub shared : (d i : ℕ) (q : Pointer) → Has s m d i q → q.birth ≤ base s x → Has s n d i q
