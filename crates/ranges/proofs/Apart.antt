-- Maximal ranges, by the first and the others. Assumes nothing.
use Rattle.std.proofs.Common.{◌≡◌, ℕ, zero, suc, ◌+◌, ◌*◌, ◌/◌, ◌<◌, ◌≤◌, true, false, List, [], ◌∷◌, length, get_or, refl, arith}
use Rattle.std.proofs.lemmas.Bool.{and_parts, and_from, or_from, ltb-true, leb-true, lt-ltb, le-leb}
use Rattle.std.proofs.lemmas.Bool.Decides.{nat_tests}
use Rattle.ordered.specs.Order.{Holds}
use Rattle.ordered.specs.Tables.{Ascending}
use Rattle.records.specs.Keys.{first_of, first_below}
use Rattle.records.specs.declared.ranges.FreeRange.{FreeRange}
use Rattle.ranges.specs.Ranges.{within, in_some, apart}

pub record Parts (lo n : ℕ) (r : FreeRange) (rs : List FreeRange) : Type 0 where
  pub low : lo ≤ r.first
  pub some : 0 < r.length
  pub high : r.first + r.length ≤ n
  pub rest : apart (r.first + r.length + 1) n rs ≡ true

pub parts : (lo n : ℕ) (r : FreeRange) (rs : List FreeRange) → apart lo n (r ∷ rs) ≡ true → Parts lo n r rs
parts lo n r rs e =
    let a = and_parts _ _ e in
    let b = and_parts _ _ a.1 in
    let c = and_parts _ _ b.1 in
    record { low = leb-true _ _ a.0; some = ltb-true _ _ b.0; high = leb-true _ _ c.0; rest = c.1 }

pub whole : (lo n : ℕ) (r : FreeRange) (rs : List FreeRange) → Parts lo n r rs → apart lo n (r ∷ rs) ≡ true
whole lo n r rs p = and_from _ _ (le-leb _ _ p.low) (and_from _ _ (lt-ltb _ _ p.some) (and_from _ _ (le-leb _ _ p.high) p.rest))

pub within_below : (r : FreeRange) (k : ℕ) → k < r.first → within r k ≡ false
within_below r k h = grind (arith, nat_tests)

pub within_above : (r : FreeRange) (k : ℕ) → r.first + r.length ≤ k → within r k ≡ false
within_above r k h = grind (arith, nat_tests)

-- no range holds a block below the least
pub below_none : (lo n : ℕ) (rs : List FreeRange) (k : ℕ) → apart lo n rs ≡ true → k < lo → in_some rs k ≡ false
below_none lo n [] k e h = refl
below_none lo n (r ∷ rs) k e h =
    let p = parts lo n r rs e in
    or_from _ _ (within_below r k (omega (arith, p.low))) (below_none (r.first + r.length + 1) n rs k p.rest (omega (arith, p.low)))

pub apart_lower : (lo lo' n : ℕ) (rs : List FreeRange) → lo' ≤ lo → apart lo n rs ≡ true → apart lo' n rs ≡ true
apart_lower lo lo' n [] h e = refl
apart_lower lo lo' n (r ∷ rs) h e = let p = parts lo n r rs e in whole lo' n r rs (record { low = omega (arith, p.low); some = p.some; high = p.high; rest = p.rest })

-- the number of maximal ranges
pub few_ranges : (lo n : ℕ) (xs : List FreeRange) → lo ≤ n + 1 → apart lo n xs ≡ true → lo + 2 * length xs ≤ n + 1
few_ranges lo n [] h e = omega arith
few_ranges lo n (x ∷ xs) h e =
    let p = parts lo n x xs e in
    let i = few_ranges (x.first + x.length + 1) n xs (omega (arith, p.high)) p.rest in
    omega (arith, p.low, p.some)

pub at_most_half : (n : ℕ) (xs : List FreeRange) → apart 0 n xs ≡ true → length xs ≤ (n + 1) / 2
at_most_half n xs e = let i = few_ranges 0 n xs (omega arith) e in omega arith

-- the ranges by their places
pub above_at : (lo n : ℕ) (xs : List FreeRange) (i : ℕ) (d : FreeRange) → apart lo n xs ≡ true → i < length xs → lo ≤ (get_or xs i d).first
above_at lo n [] i d e h = absurd (omega arith)
above_at lo n (x ∷ xs) zero d e h = (parts lo n x xs e).low
above_at lo n (x ∷ xs) (suc i) d e h = let p = parts lo n x xs e in omega (arith, p.low, above_at (x.first + x.length + 1) n xs i d p.rest (omega arith))

-- a block at least lies between the firsts of two
pub spaced : (lo n : ℕ) (xs : List FreeRange) (i j : ℕ) (d : FreeRange) → apart lo n xs ≡ true → i < j → j < length xs → (get_or xs i d).first + 1 < (get_or xs j d).first
spaced lo n [] i j d e lt h = absurd (omega arith)
spaced lo n (x ∷ xs) i zero d e lt h = absurd (omega arith)
spaced lo n (x ∷ xs) zero (suc j) d e lt h = let p = parts lo n x xs e in omega (arith, p.some, above_at (x.first + x.length + 1) n xs j d p.rest (omega arith))
spaced lo n (x ∷ xs) (suc i) (suc j) d e lt h = spaced (x.first + x.length + 1) n xs i j d (parts lo n x xs e).rest (omega arith) (omega arith)

pub rises : (lo n : ℕ) (xs : List FreeRange) → apart lo n xs ≡ true → Ascending first_of (Holds first_below) xs
rises lo n xs e i j d lt h = lt-ltb (get_or xs i d).first (get_or xs j d).first (omega (arith, spaced lo n xs i j d e lt h))
