-- The places of a tree: their indices, and what stands at and above them.
use Rattle.std.proofs.Common.{◌≡◌, ℕ, zero, suc, ◌+◌, ◌-◌, ◌*◌, ◌/◌, ◌%◌, ◌^◌, ◌<◌, ◌≤◌, List, Some, None, Option, sym, refl, ap, ◌∙◌, ap₂, div-lt_iff_lt-mul, pow-suc, arith, pow-add}
use native.Mathlib.Nat.{div-div-eq-div-mul, div-eq_of_lt}
use Rattle.records.specs.declared.rows.Pointer.{Pointer}
use Rattle.tree.specs.Trees.{fan, block, pointer_in, child, at, index_at, digit, on_path, Holds, Reaches}

-- a depth has a place
pub fan_pos : (d : ℕ) → 0 < fan ^ d
fan_pos zero = omega arith
fan_pos (suc d) = let more = fan_pos d in omega (arith, pow-suc fan d)

-- the index of the place above, of a place in range, is in range
pub up_wide : (d i : ℕ) → i < fan ^ suc d → i / fan < fan ^ d
up_wide d i wide = omega (arith, pow-suc fan d)

-- the index of a place below, of a place in range, is in range
pub down_wide : (d i k : ℕ) → i < fan ^ d → k < fan → i * fan + k < fan ^ suc d
down_wide d i k wide small = omega (arith, pow-suc fan d)

-- the path's index above is an eighth of the one below
pub index_up : (h p d : ℕ) → d < h → index_at h p (suc d) / fan ≡ index_at h p d
index_up h p d deep =
    let level : h - d ≡ suc (h - suc d) = omega arith in
    div-div-eq-div-mul p (fan ^ (h - suc d)) fan ∙ ap (λ (m : ℕ). p / m) (sym (ap (λ (j : ℕ). fan ^ j) level ∙ pow-suc fan (h - suc d)))

-- the path's index below is the one above, with the next digit
pub index_digit : (h p d : ℕ) → d < h → index_at h p (suc d) ≡ index_at h p d * fan + digit h p d
index_digit h p d deep = omega (arith, index_up h p d deep)

-- the path's indices are in range
pub index_wide : (h p d : ℕ) → p < fan ^ h → d ≤ h → index_at h p d < fan ^ d
index_wide h p d inside deep =
    let both : (p / fan ^ (h - d) < fan ^ d → p < fan ^ d * fan ^ (h - d)) × (p < fan ^ d * fan ^ (h - d) → p / fan ^ (h - d) < fan ^ d) = div-lt_iff_lt-mul (fan_pos (h - d)) in
    let levels : d + (h - d) ≡ h = omega arith in
    let whole : fan ^ d * fan ^ (h - d) ≡ fan ^ h = sym (pow-add fan d (h - d)) ∙ ap (λ (n : ℕ). fan ^ n) levels in
    both.1 (omega arith)

-- the path begins at index 0
pub index_root : (h p : ℕ) → p < fan ^ h → index_at h p 0 ≡ 0
index_root h p inside = let level : h - 0 ≡ h = omega arith in rw level (div-eq_of_lt inside)

-- a hole leads to holes
pub hole_child : (mem : List ℕ) (k : ℕ) → child mem None k ≡ None
unfolding child
hole_child mem k = refl

-- a pointer leads to what its block holds
pub some_child : (mem : List ℕ) (q : Pointer) (k : ℕ) → child mem (Some q) k ≡ pointer_in (block mem q.block) k
unfolding child
some_child mem q k = refl

-- what leads to a pointer is a pointer
pub leads : (mem : List ℕ) (o : Option Pointer) (k : ℕ) (q : Pointer) → child mem o k ≡ Some q → (q' : Pointer) × (o ≡ Some q')
unfolding child
leads mem None k q e = let no : ◌≡◌ {A = ℕ} 0 1 = cc in absurd (omega arith)
leads mem (Some q') k q e = (q', refl)

-- depth 0 has the root
pub at_root : (mem : List ℕ) (root : Option Pointer) (i : ℕ) → at mem root 0 i ≡ root
unfolding at
at_root mem root i = refl

-- a place has what the place above leads to
pub at_down : (mem : List ℕ) (root : Option Pointer) (d i : ℕ) → at mem root (suc d) i ≡ child mem (at mem root d (i / fan)) (i % fan)
unfolding at
at_down mem root d i = refl

-- what a place leads to, by the place below
pub at_child : (mem : List ℕ) (root : Option Pointer) (d i k : ℕ) → k < fan → at mem root (suc d) (i * fan + k) ≡ child mem (at mem root d i) k
at_child mem root d i k small =
    let up : (i * fan + k) / fan ≡ i = omega arith in
    let low : (i * fan + k) % fan ≡ k = omega arith in
    at_down mem root d (i * fan + k) ∙ ap₂ (λ (x y : ℕ). child mem (at mem root d x) y) up low

-- the path goes on to what it leads to
pub path_down : (mem : List ℕ) (root : Option Pointer) (h p d : ℕ) → d < h → on_path mem root h p (suc d) ≡ child mem (on_path mem root h p d) (digit h p d)
path_down mem root h p d deep =
    at_down mem root d (index_at h p (suc d)) ∙ ap (λ (i : ℕ). child mem (at mem root d i) (digit h p d)) (index_up h p d deep)

-- a place above a pointer has a pointer
pub above : (mem : List ℕ) (root : Option Pointer) (h d i : ℕ) (q : Pointer) → Holds mem root h (suc d) i q → (q' : Pointer) × Holds mem root h d (i / fan) q'
above mem root h d i q holds =
    let up = leads mem (at mem root d (i / fan)) (i % fan) q (sym (at_down mem root d i) ∙ holds.here) in
    (up.0, record { deep = omega arith; wide = up_wide d i holds.wide; here = up.1 })

-- a tree reaches the block of each pointer that it holds
pub reached : (mem : List ℕ) (root : Option Pointer) (h d i : ℕ) (q : Pointer) → d ≤ h → i < fan ^ d → at mem root d i ≡ Some q → Reaches mem root h q.block
reached mem root h d i q deep wide here = (d, i, q, record { deep = deep; wide = wide; here = here }, refl)
