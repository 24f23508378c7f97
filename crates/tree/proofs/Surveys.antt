-- A survey of a path, one depth after the other.
use Rattle.std.proofs.Common.{zero-add, ◌≡◌, ℕ, zero, suc, ◌+◌, ◌-◌, ◌<◌, ◌≤◌, Bool, true, false, ◌⊎◌, List, length, get_or, set, replicate, None, Option, sym, refl, ap, ◌∙◌, subst, ap₂, ⊎_elim, add-one, arith, length-set, get_or-set_other, get_or-set_same}
use Rattle.std.proofs.lemmas.Bool.{cases_eq}
use Rattle.std.specs.Bool.{MatchBool}
use Rattle.std.specs.Option.{is_some}
use Rattle.std.specs.List.{range_with_len, AllWithin, HoldsAt}
use Rattle.std.proofs.lemmas.List.FromFn.{get_or-range_with_len}
use Rattle.records.specs.declared.rows.Pointer.{Pointer}
use Rattle.tree.specs.Trees.{pointer_in, child, at, digit, on_path}
use Rattle.tree.specs.Paths.{HolesBeside, PointerBeside, led, OnlyChild, OtherChild, Surveyed}
use Rattle.tree.proofs.Places.{path_down}
use Rattle.tree.proofs.Pointers.{led_child}

-- what a look at each of the eight pointers says
abbrev pub HereBeside : List ℕ → ℕ → ℕ → Type 0
HereBeside part k j = (j ≡ k → ⊥) × (is_some (pointer_in part j) ≡ true)

abbrev pub HoleUnless : List ℕ → ℕ → ℕ → Type 0
HoleUnless part k j = (j ≡ k → ⊥) → pointer_in part j ≡ None

pub holes_beside : (part : List ℕ) (k : ℕ) (r : Bool)
    → MatchBool r ((i : ℕ) × (i < length (range_with_len 0 8)) × HoldsAt (HereBeside part k) (range_with_len 0 8) i) (AllWithin (HoleUnless part k) (range_with_len 0 8) 0 (length (range_with_len 0 8)))
    → r ≡ false → HolesBeside (pointer_in part) k
holes_beside part k true m e = absurd cc
holes_beside part k false m e = λ j l n. (let at : get_or (range_with_len 0 8) j 0 ≡ 0 + j = get_or-range_with_len 0 8 j 0 l in subst (λ (i : ℕ). HoleUnless part k i) (at ∙ zero-add j) (m j 0 (omega arith) l) n)

-- what the bytes of a block say of what leads to it
pub only_beside : (mem part : List ℕ) (q : Option Pointer) (k : ℕ) → part ≡ led mem q → HolesBeside (pointer_in part) k → OnlyChild mem q k
only_beside mem part q k e holes = λ j l n. sym (led_child mem q j l) ∙ ap (λ (x : List ℕ). pointer_in x j) (sym e) ∙ holes j l n

pub other_beside : (mem part : List ℕ) (q : Option Pointer) (k : ℕ) → part ≡ led mem q → PointerBeside (pointer_in part) k → OtherChild mem q k
other_beside mem part q k e o = record {
  which = o.which;
  small = o.small;
  other = o.other;
  pointer = o.pointer;
  here = sym (led_child mem q o.which o.small) ∙ ap (λ (x : List ℕ). pointer_in x o.which) (sym e) ∙ o.here;
}

-- as `Surveyed`, down to depth d
pub record Surveying (mem : List ℕ) (root : Option Pointer) (h p : ℕ) (old : List (Option Pointer)) (k d : ℕ) : Type 0 where
  pub long : length old ≡ 5
  pub pointers : (e : ℕ) → e ≤ d → get_or old e None ≡ on_path mem root h p e
  pub past : (e : ℕ) → d < e → get_or old e None ≡ None
  pub within : k ≤ d
  pub only : (e : ℕ) → k ≤ e → e < d → OnlyChild mem (on_path mem root h p e) (digit h p e)
  pub other : 0 < k → OtherChild mem (on_path mem root h p (k - 1)) (digit h p (k - 1))

no_pointers : (n e : ℕ) → get_or (replicate {A = Option Pointer} n None) e None ≡ None
no_pointers zero e = refl
no_pointers (suc n) zero = refl
no_pointers (suc n) (suc e) = no_pointers n e

module _ (mem : List ℕ) (root : Option Pointer) (h p : ℕ) where
  pub survey_none : Surveying mem root h p (set (replicate 5 None) 0 root) 0 0
  unfolding at
  survey_none = record {
    long = refl;
    pointers = λ e l. (let z : e ≡ 0 = omega arith in rw z refl);
    past = λ e l. get_or-set_other (replicate 5 None) 0 e root None (λ z. omega arith) ∙ no_pointers 5 e;
    within = omega arith;
    only = λ e a b. absurd (omega arith);
    other = λ a. absurd (omega arith);
  }

  pub survey_more : (old : List (Option Pointer)) (part : List ℕ) (k k' d j : ℕ) (next : Option Pointer) (beside : Bool) → h ≤ 4 → d < h
      → Surveying mem root h p old k d → j ≡ digit h p d → part ≡ led mem (get_or old d None) → next ≡ pointer_in part j
      → (beside ≡ false → HolesBeside (pointer_in part) j) → (beside ≡ true → PointerBeside (pointer_in part) j)
      → ((beside ≡ true) × (k' ≡ d + 1)) ⊎ ((beside ≡ false) × (k' ≡ k))
      → Surveying mem root h p (set old (d + 1) next) k' (d + 1)
  survey_more old part k k' d j next beside h4 lt s ej ep en holes other way = ⊎_elim taken left way
    where
      here : get_or old d None ≡ on_path mem root h p d
      here = s.pointers d (omega arith)

      led_here : part ≡ led mem (on_path mem root h p d)
      led_here = ep ∙ ap (led mem) here

      np : next ≡ on_path mem root h p (d + 1)
      np = en ∙ ap₂ (λ (x : List ℕ) (i : ℕ). pointer_in x i) led_here ej ∙ led_child mem (on_path mem root h p d) (digit h p d) (omega arith)
          ∙ sym (path_down mem root h p d lt) ∙ ap (on_path mem root h p) (sym (add-one d))

      long' : length (set old (d + 1) next) ≡ 5
      long' = length-set old (d + 1) next ∙ s.long

      pointers' : (e : ℕ) → e ≤ d + 1 → get_or (set old (d + 1) next) e None ≡ on_path mem root h p e
      pointers' e l = ⊎_elim
          (λ (z : e ≡ d + 1). ap (λ (m : ℕ). get_or (set old (d + 1) next) m None) z ∙ get_or-set_same old (d + 1) next None (let x = s.long in omega arith) ∙ np ∙ ap (on_path mem root h p) (sym z))
          (λ (n : e ≡ d + 1 → ⊥). get_or-set_other old (d + 1) e next None n ∙ s.pointers e (omega (arith, n)))
          (cases_eq e (d + 1))

      past' : (e : ℕ) → d + 1 < e → get_or (set old (d + 1) next) e None ≡ None
      past' e l = get_or-set_other old (d + 1) e next None (λ z. omega arith) ∙ s.past e (omega arith)

      taken : (beside ≡ true) × (k' ≡ d + 1) → Surveying mem root h p (set old (d + 1) next) k' (d + 1)
      taken w =
          let z : k' - 1 ≡ d = (let y = w.1 in omega arith) in
          record {
            long = long';
            pointers = pointers';
            past = past';
            within = (let y = w.1 in omega arith);
            only = λ e a b. absurd (let y = w.1 in omega arith);
            other = λ a. subst (λ (m : ℕ). OtherChild mem (on_path mem root h p m) (digit h p m)) (sym z)
                (subst (λ (i : ℕ). OtherChild mem (on_path mem root h p d) i) ej (other_beside mem part (on_path mem root h p d) j led_here (other w.0)));
          }

      left : (beside ≡ false) × (k' ≡ k) → Surveying mem root h p (set old (d + 1) next) k' (d + 1)
      left w = subst (λ (m : ℕ). Surveying mem root h p (set old (d + 1) next) m (d + 1)) (sym w.1) (record {
        long = long';
        pointers = pointers';
        past = past';
        within = (let y = s.within in omega arith);
        only = λ e a b. ⊎_elim
            (λ (z : e ≡ d). subst (λ (m : ℕ). OnlyChild mem (on_path mem root h p m) (digit h p m)) (sym z)
            (subst (λ (i : ℕ). OnlyChild mem (on_path mem root h p d) i) ej (only_beside mem part (on_path mem root h p d) j led_here (holes w.0))))
            (λ (n : e ≡ d → ⊥). s.only e a (omega (arith, n)))
            (cases_eq e d);
        other = s.other;
      })

  -- below a hole there are holes
  pub survey_hole : (old : List (Option Pointer)) (k d : ℕ) → d < h → Surveying mem root h p old k d → get_or old d None ≡ None → Surveying mem root h p old k (d + 1)
  unfolding child
  survey_hole old k d lt s e = record {
    long = s.long;
    pointers = λ i l. ⊎_elim
        (λ (z : i ≡ d + 1). s.past i (omega arith) ∙ sym below ∙ ap (on_path mem root h p) (sym z))
        (λ (n : i ≡ d + 1 → ⊥). s.pointers i (omega (arith, n)))
        (cases_eq i (d + 1));
    past = λ i l. s.past i (omega arith);
    within = (let y = s.within in omega arith);
    only = λ i a b. ⊎_elim
        (λ (z : i ≡ d). subst (λ (q : Option Pointer). OnlyChild mem q (digit h p i)) (sym hole ∙ ap (on_path mem root h p) (sym z)) (λ j l n. refl))
        (λ (n : i ≡ d → ⊥). s.only i a (omega (arith, n)))
        (cases_eq i d);
    other = s.other;
  }
    where
      hole : on_path mem root h p d ≡ None
      hole = sym (s.pointers d (omega arith)) ∙ e

      below : on_path mem root h p (d + 1) ≡ None
      below = ap (on_path mem root h p) (add-one d) ∙ path_down mem root h p d lt ∙ ap (λ (q : Option Pointer). child mem q (digit h p d)) hole

  -- so that a survey is over there
  pub survey_rest : (n : ℕ) (old : List (Option Pointer)) (k d : ℕ) → d + n ≡ h → Surveying mem root h p old k d → get_or old d None ≡ None → Surveyed mem root h p old k
  survey_rest zero old k d e s none =
      let last : d ≡ h = omega arith in
      let t = subst (Surveying mem root h p old k) last s in
      record { long = t.long; pointers = t.pointers; past = t.past; stay = record { within = t.within; only = t.only; other = t.other } }
  survey_rest (suc n) old k d e s none = survey_rest n old k (d + 1) (omega arith) (survey_hole old k d (omega arith) s none) (s.past (d + 1) (omega arith))

  pub survey_there : (old : List (Option Pointer)) (k d : ℕ) (next : Option Pointer) → h ≤ 4 → d < h → Surveying mem root h p old k d → next ≡ get_or (set old (d + 1) next) (d + 1) None
  survey_there old k d next h4 lt s = sym (get_or-set_same old (d + 1) next None (let x = s.long in omega arith))
