-- A tree whose blocks are unchanged is unchanged.
use Rattle.std.proofs.Common.{◌≡◌, ℕ, zero, suc, ◌/◌, ◌%◌, ◌^◌, ◌<◌, ◌≤◌, List, Some, None, Option, refl, ap, ◌∙◌, arith}
use Rattle.records.specs.declared.rows.Pointer.{Pointer}
use Rattle.tree.specs.Trees.{fan, block, pointer_in, child, at, Reaches}
use Rattle.tree.specs.Laws.{Frame}
use Rattle.tree.proofs.Places.{up_wide, reached}

-- a pointer whose block is unchanged leads to the same
pub child_same : (mem mem' : List ℕ) (o : Option Pointer) (k : ℕ)
    → ((q : Pointer) → o ≡ Some q → block mem' q.block ≡ block mem q.block)
    → child mem' o k ≡ child mem o k
unfolding child
child_same mem mem' None k same = refl
child_same mem mem' (Some q) k same = ap (λ b. pointer_in b k) (same q refl)

-- a place of a tree leads to the same where the reached blocks are unchanged
pub place_same : (mem mem' : List ℕ) (root : Option Pointer) (h : ℕ) → ((b : ℕ) → Reaches mem root h b → block mem' b ≡ block mem b)
    → (d i k : ℕ) → d ≤ h → i < fan ^ d → child mem' (at mem root d i) k ≡ child mem (at mem root d i) k
place_same mem mem' root h same d i k deep wide =
    child_same mem mem' (at mem root d i) k (λ q e. same q.block (reached mem root h d i q deep wide e))

-- where the reached blocks are unchanged, so is every place
pub frame : Frame
unfolding at
frame mem mem' root h same zero i deep wide = refl
frame mem mem' root h same (suc d) i deep wide =
    ap (λ (o : Option Pointer). child mem' o (i % fan)) (frame mem mem' root h same d (i / fan) (omega arith) (up_wide d i wide))
    ∙ place_same mem mem' root h same d (i / fan) (i % fan) (omega arith) (up_wide d i wide)
