-- Blocks that are given back.
--     released          which blocks are owned then
--     released_number   how many there were
--     young_given       giving back the young blocks of a tree gives back those of its dataset
use Rattle.std.proofs.Common.{◌≡◌, ℕ, ◌+◌, Bool, true, false, not, ◌&&◌, ◌||◌, ◌⊎◌, sym, refl, ap, ◌∙◌, subst, inl, inr, arith}
use Rattle.std.proofs.lemmas.Bool.{both_ways}
use Rattle.blocks.specs.Meanings.{Meaning, owned}
use Rattle.blocks.specs.Sets.{count}
use Rattle.blocks.proofs.Counts.{count_same, count_sum}
use Rattle.records.specs.declared.rows.Row.{Row}
use Rattle.tree.specs.Trees.{Holds}
use Rattle.model.specs.Datasets.{State, Dataset, Young, base}
use Rattle.model.specs.Steps.{OwnedAfter, given}
use Rattle.reclaim.specs.Giving.{GivenBack}
use Rattle.reclaim.specs.Trees.{YoungIn}
use Rattle.pool.proofs.Trees.{one_row}

-- what is owned before is what is owned after, and what is not
before_is : (was is : Bool) → (is ≡ true → was ≡ true) → (is || (was && not is)) ≡ was
before_is true true still = refl
before_is true false still = refl
before_is false true still = sym (still refl)
before_is false false still = refl

-- what is owned is not given back
kept_apart : (was is : Bool) → is ≡ true → (was && not is) ≡ false
kept_apart true true e = refl
kept_apart false true e = refl
kept_apart was false e = absurd (both_ways false refl e)

module _ (m w : Meaning) (P : ℕ → Type 0) (gave : GivenBack m w P) where
  stays : (b : ℕ) → w.owns b ≡ true → P b → ⊥
  stays b is gone = both_ways (w.owns b) (gave.gone b gone) is

  was : (b : ℕ) → w.owns b ≡ true → m.owns b ≡ true
  was b is = sym (gave.others b (stays b is)) ∙ is

  abbrev returned : ℕ → Bool
  returned b = m.owns b && not (w.owns b)

  number : (n : ℕ) → owned w + n ≡ owned m → n ≡ count returned m.size
  number n counted =
      let sum = count_sum w.owns returned m.size (λ b _ is. kept_apart (m.owns b) (w.owns b) is) in
      let all = count_same m.owns (λ b. w.owns b || returned b) m.size (λ b _. before_is (m.owns b) (w.owns b) (was b)) in
      let size = ap (count w.owns) gave.size in
      omega arith

  module _ (s t : State) (before : m.owns ≡ s.owns) (after : w.owns ≡ t.owns) where
    -- the blocks owned then are those owned before that were not given back
    pub released : OwnedAfter s t (λ b. ⊥) P
    released b = (
      λ is. (let held = at_after ∙ is in inr (sym at_before ∙ was b held, stays b held)),
      back,
    )
      where
        at_before : m.owns b ≡ s.owns b
        at_before = ap (λ (f : ℕ → Bool). f b) before

        at_after : w.owns b ≡ t.owns b
        at_after = ap (λ (f : ℕ → Bool). f b) after

        back : ⊥ ⊎ ((s.owns b ≡ true) × (P b → ⊥)) → t.owns b ≡ true
        back (inl never) = absurd never
        back (inr (held, kept)) = sym at_after ∙ (gave.others b kept ∙ (at_before ∙ held))

    -- as many as were owned before and are not then
    pub released_number : (n : ℕ) → m.size ≡ s.size → owned w + n ≡ owned m → n ≡ given s t
    released_number n size counted =
        number n counted ∙ ap (count returned) size
        ∙ ap (λ (f : ℕ → Bool). count (λ b. f b && not (w.owns b)) s.size) before
        ∙ ap (λ (f : ℕ → Bool). count (λ b. s.owns b && not (f b)) s.size) after

-- the young blocks of a tree are those of its dataset
pub young_given : (s : State) (n stamp : ℕ) (r : Row) (m w : Meaning) → Dataset s n r → stamp ≡ base s r → GivenBack m w (YoungIn s.memory r.root r.height stamp) → GivenBack m w (Young s n)
young_given s n stamp r m w found is gave = record {
  size = gave.size;
  gone = λ b young. gave.gone b (inside b young);
  others = λ b old. gave.others b (λ (d, i, q, holds, young, e). old (r, q, found, (d, i, record { row = r; found = found; holds = holds }), omega arith, e));
}
  where
    inside : (b : ℕ) → Young s n b → YoungIn s.memory r.root r.height stamp b
    inside b (x, q, there, (d, i, has), young, e) =
        let row = one_row s n r x found there in
        let holds = subst (λ (y : Row). Holds s.memory y.root y.height d i q) (one_row s n r has.row found has.found) has.holds in
        (d, i, q, holds, omega (arith, is, ap (base s) row), e)
