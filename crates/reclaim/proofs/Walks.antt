-- The walk that gives back the young blocks of a tree.
use Rattle.std.proofs.Common.{◌≡◌, ℕ, zero, suc, ◌+◌, ◌-◌, ◌*◌, ◌/◌, ◌^◌, ◌<◌, ◌≤◌, false, ◌⊎◌, List, length, get_or, Some, None, Option, sym, refl, ap, ◌∙◌, subst, inl, inr, ⊎_elim, arith}
use Rattle.std.proofs.lemmas.Bool.{both_ways, cases_eq}
use Rattle.std.proofs.lemmas.Option.{none-some}
use Rattle.blocks.specs.Meanings.{Meaning}
use Rattle.records.specs.declared.rows.Pointer.{Pointer}
use Rattle.tree.specs.Calls.{Children}
use Rattle.tree.specs.Trees.{fan, child, at, Holds, Outside}
use Rattle.tree.proofs.Places.{at_root, above}
use Rattle.tree.proofs.Subtrees.{under_up, under_apart, holds_under, holds_below, holes_below}
use Rattle.reclaim.specs.Giving.{Gave, GivenBack}
use Rattle.reclaim.specs.Trees.{YoungIn, TreeReady}
use Rattle.reclaim.proofs.Sets.{back_one, back_both, back_like}

-- the root's block, or a young one under the first k indices of the root, in a tree of height h + 1
abbrev pub Above : List ℕ → Option Pointer → ℕ → ℕ → ℕ → ℕ → Type 0
Above mem root h stamp k b = ((q : Pointer) × (root ≡ Some q) × (q.block ≡ b)) ⊎ ((j : ℕ) × (j < k) × YoungIn mem (child mem root j) h stamp b)

-- the root is a place
root_place : (mem : List ℕ) (root : Option Pointer) (h : ℕ) (top : Pointer) → root ≡ Some top → Holds mem root h 0 0 top
root_place mem root h top is = record { deep = omega arith; wide = omega arith; here = at_root mem root 0 ∙ is }

one_pointer : (o : Option Pointer) (q x : Pointer) → o ≡ Some q → o ≡ Some x → q ≡ x
one_pointer o q x here there = cc

-- a hole has no young block
pub hole_none : (mem : List ℕ) (root : Option Pointer) (h stamp b : ℕ) → root ≡ None → YoungIn mem root h stamp b → ⊥
hole_none mem root h stamp b hole (d, i, q, holds, _, _) =
    none-some q (sym (ap (λ (o : Option Pointer). at mem o d i) hole ∙ holes_below mem d i) ∙ holds.here)

-- a tree with levels has one at the top
pub one_down : (m : Meaning) (mem : List ℕ) (root : Option Pointer) (h stamp : ℕ) → 0 < h → TreeReady m mem root h stamp → TreeReady m mem root (suc (h - 1)) stamp
one_down m mem root h stamp levels ready = let e : h ≡ suc (h - 1) = omega arith in subst (λ (n : ℕ). TreeReady m mem root n stamp) e ready

module _ (m : Meaning) (mem : List ℕ) (root : Option Pointer) (h stamp : ℕ) (top : Pointer) (is : root ≡ Some top) where
  -- no pointer is younger than the root
  births : TreeReady m mem root h stamp → (d i : ℕ) (q : Pointer) → Holds mem root h d i q → q.birth ≤ top.birth
  births ready zero i q holds =
      let e = ap (λ (x : Pointer). x.birth) (one_pointer root q top (sym (at_root mem root i) ∙ holds.here) is) in omega arith
  births ready (suc d) i q holds =
      let (up, there) = above mem root h d i q holds in
      omega (arith, births ready d (i / fan) up there, ready.falls d i q up holds there)

  -- a root that is not young has no young block
  pub old_none : TreeReady m mem root h stamp → top.birth ≤ stamp → (b : ℕ) → YoungIn mem root h stamp b → ⊥
  old_none ready old b (d, i, q, holds, young, _) = omega (arith, births ready d i q holds)

  -- the root's block lies in the memory
  pub root_inside : TreeReady m mem root h stamp → Outside mem top.block → ⊥
  root_inside ready out = ready.inside (top.block, (0, 0, top, root_place mem root h top is, refl), out)

  -- a tree with no levels has its root alone
  root_only : h ≡ 0 → (d i : ℕ) (q : Pointer) → Holds mem root h d i q → q ≡ top
  root_only flat zero i q holds = one_pointer root q top (sym (at_root mem root i) ∙ holds.here) is
  root_only flat (suc d) i q holds = absurd (omega (arith, holds.deep))

  module _ (young : stamp < top.birth) where
    root_young : YoungIn mem root h stamp top.block
    root_young = (0, 0, top, root_place mem root h top is, young, refl)

    -- the root's block is not refused
    pub root_owned : TreeReady m mem root h stamp → m.owns top.block ≡ false → ⊥
    root_owned ready free = both_ways (m.owns top.block) free (ready.owned top.block root_young)

    -- it is all that leaves of a tree with no levels
    pub back_leaf : (w : Meaning) → h ≡ 0 → Gave m top.block w → GivenBack m w (YoungIn mem root h stamp)
    back_leaf w flat gave =
        back_like m w (λ b. b ≡ top.block) (YoungIn mem root h stamp)
        (λ b e. subst (YoungIn mem root h stamp) (sym e) root_young)
        (λ b (d, i, q, holds, _, e). sym e ∙ ap (λ (x : Pointer). x.block) (root_only flat d i q holds))
        (back_one m w top.block gave)

    -- it leaves first
    pub back_root : (w : Meaning) → Gave m top.block w → GivenBack m w (Above mem root (h - 1) stamp 0)
    back_root w gave = back_like m w (λ b. b ≡ top.block) (Above mem root (h - 1) stamp 0) (λ b e. inl (top, is, sym e)) first (back_one m w top.block gave)
      where
        first : (b : ℕ) → Above mem root (h - 1) stamp 0 b → b ≡ top.block
        first b (inl (q, here, e)) = sym e ∙ ap (λ (x : Pointer). x.block) (one_pointer root q top here is)
        first b (inr (j, small, _)) = absurd (omega arith)

-- what leaves is all that is young
pub back_all : (m w : Meaning) (mem : List ℕ) (root : Option Pointer) (h stamp k : ℕ) (top : Pointer) → root ≡ Some top → stamp < top.birth → 0 < h → k ≡ fan
    → GivenBack m w (Above mem root (h - 1) stamp k) → GivenBack m w (YoungIn mem root h stamp)
back_all m w mem root h stamp k top is young levels all back =
    let e : suc (h - 1) ≡ h = omega arith in
    subst (λ (n : ℕ). GivenBack m w (YoungIn mem root n stamp)) e (back_like m w (Above mem root (h - 1) stamp k) (YoungIn mem root (suc (h - 1)) stamp) there here back)
  where
    there : (b : ℕ) → Above mem root (h - 1) stamp k b → YoungIn mem root (suc (h - 1)) stamp b
    there b (inl (q, at_top, e)) =
        let same = one_pointer root top q is at_top in
        (0, 0, q, root_place mem root (suc (h - 1)) q at_top, subst (λ (x : Pointer). stamp < x.birth) same young, e)
    there b (inr (j, small, (d, i, q, holds, late, e))) = (suc d, j * fan ^ d + i, q, holds_under mem root (h - 1) j d i q (omega arith) holds, late, e)

    here : (b : ℕ) → YoungIn mem root (suc (h - 1)) stamp b → Above mem root (h - 1) stamp k b
    here b (zero, i, q, holds, late, e) = inl (q, sym (at_root mem root i) ∙ holds.here, e)
    here b (suc d, i, q, holds, late, e) =
        let (j, small, n, under) = holds_below mem root (h - 1) d i q holds in
        inr (j, omega arith, (d, n, q, under, late, e))

module _ (m w : Meaning) (mem : List ℕ) (root : Option Pointer) (h stamp : ℕ) (top : Pointer) (is : root ≡ Some top) (below : List (Option Pointer)) (children : Children mem top below) (k : ℕ) (inside : k < length below) where
  small : k < fan
  small = omega (arith, children.long)

  next_is : get_or below k None ≡ child mem root k
  next_is = children.here k small ∙ ap (λ (o : Option Pointer). child mem o k) (sym is)

  -- the next tree has none of the blocks that have left
  apart : TreeReady m mem root (suc h) stamp → (b : ℕ) → YoungIn mem (child mem root k) h stamp b → Above mem root h stamp k b → ⊥
  apart ready b (d, i, q, holds, _, e) (inl (x, here, e')) =
      let (deep, _) = ready.apart 0 (suc d) 0 (k * fan ^ d + i) x q (root_place mem root (suc h) x here) (holds_under mem root h k d i q small holds) (e' ∙ sym e) in
      omega arith
  apart ready b (d, i, q, holds, _, e) (inr (j, before, (d', i', x, holds', _, e'))) =
      let (deep, wide) = ready.apart (suc d) (suc d') (k * fan ^ d + i) (j * fan ^ d' + i') q x
      (holds_under mem root h k d i q small holds) (holds_under mem root h j d' i' x (omega (arith, small)) holds') (e ∙ sym e') in
      let level : d' ≡ d = omega arith in
      let same = under_apart k j d i i' holds.wide (subst (λ (n : ℕ). i' < fan ^ n) level holds'.wide) (wide ∙ ap (λ (n : ℕ). j * fan ^ n + i') level) in
      omega arith

  -- the next tree can be given back
  pub ready_next : TreeReady m mem root (suc h) stamp → GivenBack m w (Above mem root h stamp k) → TreeReady w mem (get_or below k None) h stamp
  ready_next ready back = subst (λ (o : Option Pointer). TreeReady w mem o h stamp) (sym next_is) (record {
    low = omega (arith, ready.low);
    inside = λ (b, (d, i, q, holds, e), out). ready.inside (b, (suc d, k * fan ^ d + i, q, holds_under mem root h k d i q small holds, e), out);
    falls = λ d i q x low up.
        ready.falls (suc d) (k * fan ^ suc d + i) q x (holds_under mem root h k (suc d) i q small low)
        (subst (λ (j : ℕ). Holds mem root (suc h) (suc d) j x) (sym (under_up k d i)) (holds_under mem root h k d (i / fan) x small up));
    apart = λ d e i j q x here there same.
        let (deep, wide) = ready.apart (suc d) (suc e) (k * fan ^ d + i) (k * fan ^ e + j) q x (holds_under mem root h k d i q small here) (holds_under mem root h k e j x small there) same in
        let level : d ≡ e = omega arith in
        let first = ap (λ (n : ℕ). k * fan ^ n) level in
        (level, omega arith);
    owned = λ b (d, i, q, holds, late, e).
        back.others b (apart ready b (d, i, q, holds, late, e))
        ∙ ready.owned b (suc d, k * fan ^ d + i, q, holds_under mem root h k d i q small holds, late, e);
  })

  -- it leaves
  pub back_next : (v : Meaning) → GivenBack m w (Above mem root h stamp k) → GivenBack w v (YoungIn mem (get_or below k None) h stamp) → GivenBack m v (Above mem root h stamp (k + 1))
  back_next v back more =
      back_both m w v (Above mem root h stamp k) (YoungIn mem (child mem root k) h stamp) (Above mem root h stamp (k + 1)) wider (λ b y. inr (k, omega arith, y)) split
      back (subst (λ (o : Option Pointer). GivenBack w v (YoungIn mem o h stamp)) next_is more)
    where
      wider : (b : ℕ) → Above mem root h stamp k b → Above mem root h stamp (k + 1) b
      wider b (inl at_top) = inl at_top
      wider b (inr (j, before, y)) = inr (j, omega arith, y)

      split : (b : ℕ) → Above mem root h stamp (k + 1) b → Above mem root h stamp k b ⊎ YoungIn mem (child mem root k) h stamp b
      split b (inl at_top) = inl (inl at_top)
      split b (inr (j, before, y)) =
          ⊎_elim
          (λ (e : j ≡ k). inr (subst (λ (n : ℕ). YoungIn mem (child mem root n) h stamp b) e y))
          (λ (other : j ≡ k → ⊥). inl (inr (j, omega (arith, other), y)))
          (cases_eq j k)
