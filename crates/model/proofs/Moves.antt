-- A replaced path, by the places of all datasets: what every part of soundness needs to know of a write or a discard.
--     Kin x y       the rows x and y differ in root and count alone
--     On            a place of the path to p in head n
--     Moved         the datasets of t have the places of those of s, but for the path to p of head n
use Rattle.std.proofs.Common.{◌≡◌, ℕ, suc, ◌+◌, ◌-◌, ◌^◌, ◌<◌, ◌≤◌, false, ◌⊎◌, Option}
use Rattle.records.specs.declared.rows.Kind.TheVariants.{Head}
use Rattle.records.specs.declared.rows.Pointer.{Pointer}
use Rattle.records.specs.declared.rows.Row.{Row}
use Rattle.tree.specs.Trees.{fan, index_at, digit}
use Rattle.tree.specs.Paths.{OtherChild, new_at}
use Rattle.model.specs.Datasets.{State, Dataset, base, Has}
use Rattle.model.specs.Paths.{path_of}
use Rattle.model.specs.Steps.{taken, given, with_root}

pub record Kin (x y : Row) : Type 0 where
  pub number : y.number ≡ x.number
  pub height : y.height ≡ x.height
  pub previous : y.previous ≡ x.previous
  pub owner : y.owner ≡ x.owner
  pub kind : y.kind ≡ x.kind

-- the place d, i of dataset m is on the path to p of head n
abbrev pub On : ℕ → Row → ℕ → ℕ → ℕ → ℕ → Type 0
On n r p m d i = (m ≡ n) × (i ≡ index_at r.height p d)

-- the new pointer at depth d
abbrev pub new_pointer : State → (ℕ → ℕ) → ℕ → Pointer
new_pointer s new d = record { block = new d; birth = s.group }

pub record Moved (s t : State) (n : ℕ) (r : Row) (p k : ℕ) (new : ℕ → ℕ) : Type 0 where
  -- the head, and the position
  pub found : Dataset s n r
  pub origin : Option ℕ
  pub head : r.kind ≡ Head origin
  pub position : p < fan ^ r.height
  -- the new blocks
  pub deep : k ≤ suc r.height
  pub free : (d : ℕ) → d < k → (new d < s.size) × (s.owns (new d) ≡ false)
  pub apart : (d e : ℕ) → d < e → e < k → new d ≡ new e → ⊥
  -- where the data is dropped, the last indirect block that stays leads elsewhere
  pub beside : 0 < k → k ≤ r.height → OtherChild s.memory (path_of s r p (k - 1)) (digit r.height p (k - 1))
  pub group : t.group ≡ s.group
  pub size : t.size ≡ s.size
  -- the rows
  pub row_after : (m : ℕ) (x : Row) → Dataset t m x → (y : Row) × Dataset s m y × Kin y x
  pub row_before : (m : ℕ) (y : Row) → Dataset s m y → (x : Row) × Dataset t m x × Kin y x
  pub row_same : (m : ℕ) (x : Row) → (m ≡ n → ⊥) → Dataset t m x → Dataset s m x
  pub row_new : Dataset t n (with_root r (new_at new s.group k 0) (r.born + taken s t - given s t))
  pub base_same : (x y : Row) → x.previous ≡ y.previous → base t x ≡ base s y
  -- the places
  pub after : (m d i : ℕ) (q : Pointer) → Has t m d i q
      → (On n r p m d i × (d < k) × (q ≡ new_pointer s new d)) ⊎ (Has s m d i q × (On n r p m d i → ⊥))
  pub kept : (m d i : ℕ) (q : Pointer) → Has s m d i q → (On n r p m d i → ⊥) → Has t m d i q
  pub made : (d : ℕ) → d < k → Has t n d (index_at r.height p d) (new_pointer s new d)
