-- Datasets of two states that are alike.
--     Like s t k j         dataset k of t has the places of dataset j of s
--     Same s t k j x y     and its previous and base too
--     like_rows            rows with one tree give one set of places
--     reach_like           like datasets reach the same blocks
--     young_same           the same datasets have the same young blocks
--     born_same            and as many
--     dead_same            and the same dead list, where their previous keeps its places
use Rattle.std.proofs.Common.{◌≡◌, ℕ, ◌↔◌, List, Some, Option, sym, ap, ◌∙◌, subst, ap₂, arith}
use Rattle.records.specs.declared.rows.Pointer.{Pointer}
use Rattle.records.specs.declared.rows.Row.{Row}
use Rattle.tree.specs.Trees.{at, Holds}
use Rattle.model.specs.Datasets.{State, Dataset, base, Has, Reaches, Young, Dead}
use Rattle.model.specs.Figures.{HowMany}
use Rattle.model.proofs.Sums.{alike}
use Rattle.model.proofs.Ancestors.{same_row}

-- the places of dataset k of t are those of dataset j of s
abbrev pub Like : State → State → ℕ → ℕ → Type 0
Like s t k j = (d i : ℕ) (q : Pointer) → Has t k d i q ↔ Has s j d i q

-- dataset k of t, with the row x, has the places, the previous and the base of dataset j of s, with the row y
pub record Same (s t : State) (k j : ℕ) (x y : Row) : Type 0 where
  pub now : Dataset t k x
  pub was : Dataset s j y
  pub like : Like s t k j
  pub previous : x.previous ≡ y.previous
  pub base : base t x ≡ base s y

-- a place of one row's tree is one of another's with the same root and height
same_holds : (mem other : List ℕ) (a b : Row) (d i : ℕ) (q : Pointer) → other ≡ mem → b.root ≡ a.root → b.height ≡ a.height
    → Holds mem a.root a.height d i q → Holds other b.root b.height d i q
same_holds mem other a b d i q memory root height holds = record {
  deep = omega (arith, holds.deep);
  wide = holds.wide;
  here = ap₂ (λ (l : List ℕ) (o : Option Pointer). at l o d i) memory root ∙ holds.here;
}

module _ (s t : State) (k j : ℕ) (x y : Row) where
  -- rows with one tree give one set of places
  pub like_rows : t.memory ≡ s.memory → Dataset t k x → Dataset s j y → x.root ≡ y.root → x.height ≡ y.height → Like s t k j
  like_rows memory now was root height d i q = (
    (λ has. record {
      row = y;
      found = was;
      holds =
          same_holds t.memory s.memory x y d i q (sym memory) (sym root) (sym height)
          (subst (λ (z : Row). Holds t.memory z.root z.height d i q) (same_row has.row x has.found now) has.holds);
    }),
    (λ has. record {
      row = x;
      found = now;
      holds =
          same_holds s.memory t.memory y x d i q memory root height
          (subst (λ (z : Row). Holds s.memory z.root z.height d i q) (same_row has.row y has.found was) has.holds);
    }),
  )

  -- like datasets reach the same blocks
  pub reach_like : (b : ℕ) → Like s t k j → Reaches t k b ↔ Reaches s j b
  reach_like b like = (
    (λ (q, (d, i, has), e). (q, (d, i, (like d i q).0 has), e)),
    (λ (q, (d, i, has), e). (q, (d, i, (like d i q).1 has), e)),
  )

  -- the same datasets have the same young blocks
  pub young_same : (b : ℕ) → Same s t k j x y → Young t k b ↔ Young s j b
  young_same b same = (
    (λ (z, q, there, (d, i, has), young, e).
        (y, q, same.was, (d, i, (same.like d i q).0 has), omega (arith, same.base, ap (base t) (same_row z x there same.now)), e)),
    (λ (z, q, there, (d, i, has), young, e).
        (x, q, same.now, (d, i, (same.like d i q).1 has), omega (arith, same.base, ap (base s) (same_row z y there same.was)), e)),
  )

  -- and as many
  pub born_same : (n c : ℕ) → Same s t k j x y → HowMany (Young s j) n c → HowMany (Young t k) n c
  born_same n c same = alike (Young s j) (Young t k) n c (λ b _. (let both = young_same b same in (both.1, both.0)))

  -- and the same dead list, where their previous keeps its places
  pub dead_same : (q : Pointer) → Same s t k j x y → ((l : ℕ) → y.previous ≡ Some l → Like s t l l) → Dead t k q ↔ Dead s j q
  dead_same q same kept = (
    (λ (l, (z, there, is), (d, i, has), gone).
        (let before : y.previous ≡ Some l = sym same.previous ∙ ap (λ (w : Row). w.previous) (same_row x z same.now there) ∙ is in
        (l, (y, same.was, before), (d, i, (kept l before d i q).0 has), λ reach. gone ((reach_like q.block same.like).1 reach)))),
    (λ (l, (z, there, is), (d, i, has), gone).
        (let before : y.previous ≡ Some l = ap (λ (w : Row). w.previous) (same_row y z same.was there) ∙ is in
        (l, (x, same.now, same.previous ∙ before), (d, i, (kept l before d i q).1 has), λ reach. gone ((reach_like q.block same.like).0 reach)))),
  )
