-- What a total order says of `below`, `same` and `cmp`. Assumes nothing.
use Rattle.std.proofs.Common.{◌≡◌, Bool, true, false, Some, Option, sym, ap, ◌∙◌, arith}
use Rattle.std.specs.Ordering.{MatchOrdering, is_lt, is_some_and, partial_lt}
use Rattle.std.specs.declared.cmp.Ordering.{Ordering}
use Rattle.std.specs.declared.cmp.Ordering.TheVariants.{Less, Equal, Greater}
use Rattle.ordered.specs.Order.{ExactlyOne, Holds, IsStrictPart}
use Rattle.ordered.specs.Tables.{same}

module _ {K : Type 0} (below : K → K → Bool) (one : (a b : K) → ExactlyOne (Holds below a b) (a ≡ b) (Holds below b a)) where
  pub not_above : (a b : K) → Holds below a b → below b a ≡ false
  not_above a b h = grind (arith, one a b)

  pub not_itself : (a b : K) → a ≡ b → below a b ≡ false
  not_itself a b e = grind (arith, one a b)

  pub same_equal : (a b : K) → a ≡ b → same below a b ≡ true
  same_equal a b e = grind (arith, not_itself a b e, not_itself b a (sym e))

  pub same_below : (a b : K) → Holds below a b → same below a b ≡ false
  same_below a b h = grind arith

  pub same_above : (a b : K) → Holds below b a → same below a b ≡ false
  same_above a b h = grind arith

  pub equal_same : (a b : K) → same below a b ≡ true → a ≡ b
  equal_same a b e = grind (arith, one a b)

  pub above_other : (a b : K) → below a b ≡ false → same below a b ≡ false → Holds below b a
  above_other a b n s = grind (arith, one a b)

-- a test by `cmp` is that by `below`
pub less_below : {K : Type 0} (below : K → K → Bool) {cmp : K → K → Ordering} → IsStrictPart below cmp → (a b : K) → is_lt (cmp a b) ≡ below a b
less_below below {cmp} order a b = go (cmp a b) (order.tells a b)
  where
    go : (o : Ordering) → MatchOrdering o (Holds below a b) (a ≡ b) (Holds below b a) → is_lt o ≡ below a b
    go Less h = sym h
    go Equal h = sym (not_itself below order.one a b h)
    go Greater h = sym (not_above below order.one b a h)

-- and so is one by `partial_cmp`, where it answers what `cmp` does
pub lt_below : {K : Type 0} (below : K → K → Bool) {cmp : K → K → Ordering} (partial : K → K → Option Ordering) → IsStrictPart below cmp → ((a b : K) → partial a b ≡ Some (cmp a b))
    → (a b : K) → partial_lt partial a b ≡ below a b
lt_below below partial order agrees a b = ap (is_some_and is_lt) (agrees a b) ∙ less_below below order a b
