-- Going down a tree by its code, where each call goes one place up first.
use Rattle.std.proofs.Common.{◌≡◌, ℕ, zero, suc, ◌+◌, ◌-◌, ◌*◌, ◌/◌, ◌%◌, ◌^◌, ◌<◌, ◌≤◌, List, Some, None, Option, sym, refl, ap, ◌∙◌, ap₂, mod-lt, pow-suc, arith}
use native.Mathlib.Nat.{pow-le-pow_right}
use lib.Arith.{mod-mul}
use Rattle.records.specs.declared.rows.Pointer.{Pointer}
use Rattle.tree.specs.Trees.{fan, pointer_in, child, at, Reaches, Lost}
use Rattle.tree.specs.Paths.{led}
use Rattle.tree.specs.Steps.{LeadsOut}
use Rattle.tree.proofs.Places.{fan_pos, up_wide, reached, at_down}
use Rattle.tree.proofs.Pointers.{led_child}

pub fan_small : (k : ℕ) → k ≤ 4 → fan ^ k ≤ 4096
fan_small k h = pow-le-pow_right {n = 8} (omega arith) {i = k} {j = 4} h

pub root_is : (mem : List ℕ) (root : Option Pointer) (d i : ℕ) → d ≡ 0 → root ≡ at mem root d i
unfolding at
root_is mem root zero i h = refl
root_is mem root (suc d) i h = absurd (omega arith)

-- one step down
step : (mem : List ℕ) (root : Option Pointer) (d i : ℕ) → 0 < d → at mem root d i ≡ child mem (at mem root (d - 1) (i / fan)) (i % fan)
step mem root zero i h = absurd (omega arith)
step mem root (suc d) i h = let e : suc d - 1 ≡ d = omega arith in rw e (at_down mem root d i)

pub below : (mem part : List ℕ) (root : Option Pointer) (d i k : ℕ) (up q : Option Pointer) → 0 < d → k ≡ i % fan
    → up ≡ at mem root (d - 1) (i / fan) → part ≡ led mem up → q ≡ pointer_in part k → q ≡ at mem root d i
below mem part root d i k up q h low e b r =
    r ∙ ap₂ (λ (x : List ℕ) (j : ℕ). pointer_in x j) b low ∙ led_child mem up (i % fan) (omega arith)
    ∙ ap (λ (q : Option Pointer). child mem q (i % fan)) e ∙ sym (step mem root d i h)

-- a hole leads to holes
pub below_hole : (mem : List ℕ) (root : Option Pointer) (d i : ℕ) → 0 < d → None ≡ at mem root (d - 1) (i / fan) → None ≡ at mem root d i
unfolding child
below_hole mem root d i h e = ap (λ (q : Option Pointer). child mem q (i % fan)) e ∙ sym (step mem root d i h)

-- a refusal above is one here
pub lost_up : (mem : List ℕ) (root : Option Pointer) (d i : ℕ) → 0 < d
    → (i / fan < fan ^ (d - 1) → Lost mem root (d - 1)) → i < fan ^ d → Lost mem root d
lost_up mem root zero i h f lt = absurd (omega arith)
lost_up mem root (suc d) i h f lt =
    let e : suc d - 1 ≡ d = omega arith in
    let l : Lost mem root (suc d - 1) = f (rw e (up_wide d i lt)) in
    let r = l.1 in
    let deep = r.3.deep in
    (l.0, (r.0, r.1, r.2, record { deep = omega arith; wide = r.3.wide; here = r.3.here }, r.4), l.2)

pub lost_here : (mem : List ℕ) (root : Option Pointer) (d i : ℕ) (up : Option Pointer) → 0 < d
    → up ≡ at mem root (d - 1) (i / fan) → LeadsOut mem up → i < fan ^ d → Lost mem root d
lost_here mem root zero i up h e o lt = absurd (omega arith)
lost_here mem root (suc d) i up h e o lt =
    let z : suc d - 1 ≡ d = omega arith in
    (o.0.block, reached mem root (suc d) d (i / fan) o.0 (omega arith) (up_wide d i lt) (sym (rw z at e) ∙ o.1), o.2)

-- an index past the last one wraps: only its last d digits are followed
wrapped : (mem : List ℕ) (root : Option Pointer) (d i : ℕ) → at mem root d (i % fan ^ d) ≡ at mem root d i
unfolding at
wrapped mem root zero i = refl
wrapped mem root (suc d) i =
    let e : i % fan ^ suc d ≡ (i / fan % fan ^ d) * fan + i % fan = ap (λ (n : ℕ). i % n) (pow-suc fan d) ∙ mod-mul i (fan_pos d) (omega arith) in
    let up : i % fan ^ suc d / fan ≡ i / fan % fan ^ d = omega (arith, e) in
    let low : i % fan ^ suc d % fan ≡ i % fan = omega (arith, e) in
    ap₂ (λ (j k : ℕ). child mem (at mem root d j) k) up low ∙ ap (λ (q : Option Pointer). child mem q (i % fan)) (wrapped mem root d (i / fan))

-- so the block of a pointer at any index is reached
pub reached_any : (mem : List ℕ) (root : Option Pointer) (h d i : ℕ) (q : Pointer) → d ≤ h → at mem root d i ≡ Some q → Reaches mem root h q.block
reached_any mem root h d i q deep e = reached mem root h d (i % fan ^ d) q deep (mod-lt i (fan_pos d)) (wrapped mem root d i ∙ e)

pub out_lost : (mem : List ℕ) (root : Option Pointer) (h d i : ℕ) (q : Option Pointer) → d ≤ h → q ≡ at mem root d i → LeadsOut mem q → Lost mem root h
out_lost mem root h d i q deep e a = (a.0.block, reached_any mem root h d i a.0 deep (sym e ∙ a.1), a.2)
