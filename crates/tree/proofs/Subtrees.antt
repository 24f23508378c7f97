-- What a root leads to is a tree of its own, of one level less.
use Rattle.std.proofs.Common.{◌≡◌, ℕ, zero, suc, ◌+◌, ◌*◌, ◌/◌, ◌%◌, ◌^◌, ◌<◌, ◌≤◌, List, None, Option, sym, ap, ◌∙◌, ap₂, mul_assoc, mod-lt, div-lt_iff_lt-mul, pow-suc, arith}
use native.Mathlib.Nat.{div-add-mod', mul-le-mul_right}
use Rattle.std.proofs.lemmas.Nat.{div-mul-add}
use Rattle.records.specs.declared.rows.Pointer.{Pointer}
use Rattle.tree.specs.Trees.{fan, child, at, Holds}
use Rattle.tree.proofs.Places.{fan_pos, up_wide, hole_child, at_root, at_down}

-- k whole trees of depth d, one level down
scale : (k d : ℕ) → k * fan ^ suc d ≡ k * fan ^ d * fan
scale k d = ap (λ x. k * x) (pow-suc fan d) ∙ sym (mul_assoc k (fan ^ d) fan)

-- the places under index k of the root
pub at_under : (mem : List ℕ) (root : Option Pointer) (k d i : ℕ) → k < fan → i < fan ^ d → at mem root (suc d) (k * fan ^ d + i) ≡ at mem (child mem root k) d i
unfolding at
at_under mem root k zero i small wide =
    let low : (k * fan ^ zero + i) % fan ≡ k = omega arith in
    ap (λ j. child mem root j) low
at_under mem root k (suc d) i small wide =
    let s = scale k d in
    let up : (k * fan ^ suc d + i) / fan ≡ k * fan ^ d + i / fan = omega arith in
    let low : (k * fan ^ suc d + i) % fan ≡ i % fan = omega arith in
    ap₂ (λ x y. child mem (at mem root (suc d) x) y) up low
    ∙ ap (λ q. child mem q (i % fan)) (at_under mem root k d (i / fan) small (up_wide d i wide))

-- their indices are in range
pub under_wide : (k d i : ℕ) → k < fan → i < fan ^ d → k * fan ^ d + i < fan ^ suc d
under_wide k d i small wide = let most : k * fan ^ d ≤ 7 * fan ^ d = mul-le-mul_right (fan ^ d) (omega arith) in omega (arith, pow-suc fan d)

-- the index above is one under the same index of the root
pub under_up : (k d i : ℕ) → (k * fan ^ suc d + i) / fan ≡ k * fan ^ d + i / fan
under_up k d i = let s = scale k d in omega arith

-- a place under index k of the root is a place of the root's tree
pub holds_under : (mem : List ℕ) (root : Option Pointer) (h k d i : ℕ) (q : Pointer) → k < fan → Holds mem (child mem root k) h d i q
    → Holds mem root (suc h) (suc d) (k * fan ^ d + i) q
holds_under mem root h k d i q small holds = record {
  deep = omega (arith, holds.deep);
  wide = under_wide k d i small holds.wide;
  here = at_under mem root k d i small holds.wide ∙ holds.here;
}

-- each place below the root is under some index of it
pub holds_below : (mem : List ℕ) (root : Option Pointer) (h d i : ℕ) (q : Pointer) → Holds mem root (suc h) (suc d) i q
    → (k : ℕ) × (k < fan) × (j : ℕ) × Holds mem (child mem root k) h d j q
holds_below mem root h d i q holds =
    let w = fan_pos d in
    let whole : i / fan ^ d * fan ^ d + i % fan ^ d ≡ i = div-add-mod' i (fan ^ d) in
    let wide : i % fan ^ d < fan ^ d = mod-lt i w in
    let both : (i / fan ^ d < fan → i < fan * fan ^ d) × (i < fan * fan ^ d → i / fan ^ d < fan) = div-lt_iff_lt-mul w in
    let small : i / fan ^ d < fan = both.1 (omega (arith, holds.wide, pow-suc fan d)) in (
      i / fan ^ d,
      small,
      i % fan ^ d,
      record {
        deep = omega (arith, holds.deep);
        wide = wide;
        here = sym (at_under mem root (i / fan ^ d) d (i % fan ^ d) small wide) ∙ ap (λ j. at mem root (suc d) j) whole ∙ holds.here;
      },
    )

-- two indices of the root have no place in common
pub under_apart : (j k d i m : ℕ) → i < fan ^ d → m < fan ^ d → j * fan ^ d + i ≡ k * fan ^ d + m → j ≡ k
under_apart j k d i m wide wide' same = sym (div-mul-add j (fan ^ d) i wide) ∙ ap (λ n. n / fan ^ d) same ∙ div-mul-add k (fan ^ d) m wide'

-- below a hole there are holes
pub holes_below : (mem : List ℕ) (d i : ℕ) → at mem None d i ≡ None
holes_below mem zero i = at_root mem None i
holes_below mem (suc d) i = at_down mem None d i ∙ ap (λ q. child mem q (i % fan)) (holes_below mem d (i / fan)) ∙ hole_child mem (i % fan)
