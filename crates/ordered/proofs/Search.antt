-- A binary search in ascending records. Assumes nothing.
use Rattle.std.proofs.Common.{◌≡◌, ℕ, ◌+◌, ◌-◌, ◌/◌, ◌<◌, ◌≤◌, Bool, true, false, ◌⊎◌, List, length, get_or, Some, None, refl, sym, ap, ◌∙◌, subst, inl, inr, arith}
use Rattle.std.specs.Ordering.{MatchOrdering, is_eq, is_gt}
use Rattle.std.specs.declared.cmp.Ordering.{Ordering}
use Rattle.std.specs.declared.cmp.Ordering.TheVariants.{Less, Equal, Greater}
use Rattle.std.proofs.lemmas.Bool.{cases_eq, cases_lt, false≢true}
use Rattle.std.proofs.lemmas.List.{get_or_read}
use Rattle.ordered.specs.Order.{ExactlyOne, Holds, IsStrictPart}
use Rattle.ordered.specs.Tables.{Ascending, index_of, rank_of}
use Rattle.ordered.proofs.Lookups.{at_index, no_index, ranked}
use Rattle.ordered.proofs.Orders.{not_above, same_equal, same_below}

-- the records before `low` lie below k, and those from `high` on above
abbrev pub Narrowed : {R K : Type 0} → (R → K) → (K → K → Bool) → List R → K → ℕ → ℕ → Type 0
Narrowed {R} key below xs k low high =
    ((j : ℕ) (d : R) → j < low → Holds below (key (get_or xs j d)) k) × ((j : ℕ) (d : R) → high ≤ j → j < length xs → Holds below k (key (get_or xs j d)))

weaker : {R K : Type 0} (key : R → K) (below : K → K → Bool) (xs : List R) (k : K) (low low' high high' : ℕ) → low' ≤ low → high ≤ high' → Narrowed key below xs k low high → Narrowed key below xs k low' high'
weaker key below xs k low low' high high' l h n = (λ j d lt. n.0 j d (omega arith), λ j d le lt. n.1 j d (omega arith) lt)

-- those before i lie below k, and those from i on above
abbrev pub Parted : {R K : Type 0} → (R → K) → (K → K → Bool) → List R → K → ℕ → Type 0
Parted key below xs k i = Narrowed key below xs k i i

-- what an answer of `cmp` tells of two keys
pub told : {K : Type 0} {below : K → K → Bool} {cmp : K → K → Ordering} → IsStrictPart below cmp → (a b : K) {answer o : Ordering} → answer ≡ cmp a b → answer ≡ o
    → MatchOrdering o (Holds below a b) (a ≡ b) (Holds below b a)
told {below = below} order a b from is = subst (λ o. MatchOrdering o (Holds below a b) (a ≡ b) (Holds below b a)) (sym from ∙ is) (order.tells a b)

module _ {R K : Type 0} (key : R → K) (below : K → K → Bool) (one : (a b : K) → ExactlyOne (Holds below a b) (a ≡ b) (Holds below b a)) (xs : List R) (k : K) where
  -- the record at i has the key
  module _ (i : ℕ) (within : i < length xs) (has : (d : R) → key (get_or xs i d) ≡ k) (up : Ascending key (Holds below) xs) where
    under : (j : ℕ) (d : R) → j < i → Holds below (key (get_or xs j d)) k
    under j d lt = subst (Holds below (key (get_or xs j d))) (has d) (up j i d lt within)

    over : (j : ℕ) (d : R) → i ≤ j → j < length xs → below (key (get_or xs j d)) k ≡ false
    over j d le lt = grind (arith, cases_eq i j, has d, up i j d, one (key (get_or xs j d)) k)

    pub found_index : Some i ≡ index_of key below xs k
    found_index = sym (at_index key below xs k i within (λ j d lt. same_below below one _ _ (under j d lt)) (λ d. same_equal below one _ _ (has d)))

    pub found_rank : i ≡ rank_of key below xs k
    found_rank = sym (ranked key below xs k i (omega arith) under over)

  -- none has it
  module _ (i : ℕ) (within : i ≤ length xs) (p : Parted key below xs k i) where
    pub missed_index : None ≡ index_of key below xs k
    missed_index = sym (no_index key below xs k (λ j d lt. grind (arith, cases_lt j i, p.0 j d, p.1 j d, one (key (get_or xs j d)) k)))

    pub missed_rank : i ≡ rank_of key below xs k
    missed_rank = sym (ranked key below xs k i within p.0 (λ j d le lt. not_above below one k _ (p.1 j d le lt)))

-- a look at the record at i: it is x, and has the key a
pub key_read : {R K : Type 0} (key : R → K) (xs : List R) (i : ℕ) → i < length xs → {x : R} → x ≡ get_or xs i x → {a : K} → a ≡ key x → (d : R) → key (get_or xs i d) ≡ a
key_read key xs i within {x} read has d = sym (has ∙ ap key (get_or_read xs i x within read d))

-- and by what `cmp` answers of it, less is left to search
module _ {R K : Type 0} (key : R → K) (below : K → K → Bool) {cmp : K → K → Ordering} (order : IsStrictPart below cmp) (xs : List R) (k : K)
    (i : ℕ) (within : i < length xs) (a : K) (has : (d : R) → key (get_or xs i d) ≡ a) (up : Ascending key (Holds below) xs) where
  pub narrowed_up : {answer : Ordering} → answer ≡ cmp a k → answer ≡ Less → (low high : ℕ) → Narrowed key below xs k low high → Narrowed key below xs k (i + 1) high
  narrowed_up from less low high n = (λ j d lt. grind (arith, cases_eq j i, has d, up j i d, told order a k from less, order.chain (key (get_or xs j d)) a k), n.1)

  pub narrowed_down : {answer : Ordering} → answer ≡ cmp a k → answer ≡ Greater → (low high : ℕ) → Narrowed key below xs k low high → Narrowed key below xs k low i
  narrowed_down from more low high n = (n.0, λ j d le lt. grind (arith, cases_eq i j, has d, up i j d, told order a k from more, order.chain k a (key (get_or xs j d))))

  -- half of it, where the record is the one in the middle
  pub halved : (answer : Ordering) → answer ≡ cmp a k → is_eq answer ≡ false → (base size next : ℕ) → i ≡ base + size / 2
      → ((is_gt answer ≡ true) × (next ≡ base)) ⊎ ((is_gt answer ≡ false) × (next ≡ i))
      → Narrowed key below xs k base (base + size) → Narrowed key below xs k next (next + (size - size / 2))
  halved Less from other base size next at (inl (wrong, e)) n = absurd (false≢true wrong)
  halved Less from other base size next at (inr (not, e)) n = weaker key below xs k (i + 1) next (base + size) (next + (size - size / 2)) (omega arith) (omega arith) (narrowed_up from refl base (base + size) n)
  halved Equal from other base size next at side n = absurd (false≢true (sym other))
  halved Greater from other base size next at (inl (gt, e)) n = weaker key below xs k base next i (next + (size - size / 2)) (omega arith) (omega arith) (narrowed_down from refl base (base + size) n)
  halved Greater from other base size next at (inr (wrong, e)) n = absurd (false≢true (sym wrong))

-- where it says yes, the keys are equal
pub is_met : (answer : Ordering) → is_eq answer ≡ true → answer ≡ Equal
is_met Less e = absurd (false≢true e)
is_met Equal e = refl
is_met Greater e = absurd (false≢true e)
