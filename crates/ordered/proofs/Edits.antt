-- Ascending records with one more, one less or one exchanged: still ascending, and changed at one key alone. Assumes nothing.
use Rattle.std.proofs.Common.{◌≡◌, zero, suc, Bool, false, cond, List, [], ◌∷◌, is_some, Some, None, refl, ◌∙◌, subst, arith}
use Rattle.std.specs.List.{insert, AllByRecursion as All}
use Rattle.std.proofs.ByRecursion.{All-get_or, All-from_get_or, All-weaker}
use Rattle.std.proofs.lemmas.Bool.{cond-false, cond_both}
use Rattle.ordered.specs.Order.{ExactlyOne, Holds}
use Rattle.ordered.specs.Tables.{Ascending, Alone, same, index_of, record_of, rank_of, with_record, without_key, replaced}
use Rattle.ordered.proofs.Lookups.{missing_parts}
use Rattle.ordered.proofs.Orders.{same_above, equal_same, above_other}

module _ {R K : Type 0} (key : R → K) (below : K → K → Bool) (one : (a b : K) → ExactlyOne (Holds below a b) (a ≡ b) (Holds below b a))
    (chain : (a b c : K) → Holds below a b → Holds below b c → Holds below a c) where
  -- ascending records, by the first and the others
  pub first : (x : R) (xs : List R) → Ascending key (Holds below) (x ∷ xs) → All (λ y. Holds below (key x) (key y)) xs
  first x xs up = All-from_get_or _ xs x (λ i lt. up 0 (suc i) x (omega arith) (omega arith))

  pub others : (x : R) (xs : List R) → Ascending key (Holds below) (x ∷ xs) → Ascending key (Holds below) xs
  others x xs up i j d lt w = up (suc i) (suc j) d (omega arith) (omega arith)

  joins : (x : R) (xs : List R) → All (λ y. Holds below (key x) (key y)) xs → Ascending key (Holds below) xs → Ascending key (Holds below) (x ∷ xs)
  joins x xs high up i zero d lt w = absurd (omega arith)
  joins x xs high up zero (suc j) d lt w = All-get_or (λ y. Holds below (key x) (key y)) xs j d (omega arith) high
  joins x xs high up (suc i) (suc j) d lt w = up i j d (omega arith) (omega arith)

  -- what holds of every key holds after the change
  module _ (P : K → Type 0) where
    all_with : (xs : List R) (r : R) → P (key r) → All (λ y. P (key y)) xs → All (λ y. P (key y)) (with_record key below xs r)
    all_with [] r p a = (p, tt)
    all_with (x ∷ xs) r p a = cond_both (below (key x) (key r)) (x ∷ with_record key below xs r) (r ∷ (x ∷ xs)) (All (λ y. P (key y))) (λ _. (a.0, all_with xs r p a.1)) (λ _. (p, a))

    all_without : (xs : List R) (k : K) → All (λ y. P (key y)) xs → All (λ y. P (key y)) (without_key key below xs k)
    all_without [] k a = tt
    all_without (x ∷ xs) k a = cond_both (same below (key x) k) xs (x ∷ without_key key below xs k) (All (λ y. P (key y))) (λ _. a.1) (λ _. (a.0, all_without xs k a.1))

    all_replaced : (xs : List R) (r : R) → All (λ y. P (key y)) xs → All (λ y. P (key y)) (replaced key below xs r)
    all_replaced [] r a = tt
    all_replaced (x ∷ xs) r a =
        cond_both (same below (key x) (key r)) (r ∷ xs) (x ∷ replaced key below xs r) (All (λ y. P (key y)))
        (λ is. (subst P (equal_same below one _ _ is) a.0, a.1)) (λ _. (a.0, all_replaced xs r a.1))

  pub ascending_with : (xs : List R) (r : R) → index_of key below xs (key r) ≡ None → Ascending key (Holds below) xs → Ascending key (Holds below) (with_record key below xs r)
  ascending_with [] r absent up = λ i j d lt w. absurd (omega arith)
  ascending_with (x ∷ xs) r absent up =
      let parts = missing_parts key below x xs (key r) absent in
      cond_both (below (key x) (key r)) (x ∷ with_record key below xs r) (r ∷ (x ∷ xs)) (Ascending key (Holds below))
      (λ less. joins x (with_record key below xs r) (all_with (Holds below (key x)) xs r less (first x xs up)) (ascending_with xs r parts.1 (others x xs up)))
      (λ more.
      let under = above_other below one (key x) (key r) more parts.0 in
      joins r (x ∷ xs) (under, All-weaker _ _ (λ y h. chain _ _ _ under h) xs (first x xs up)) up)

  pub ascending_without : (xs : List R) (k : K) → Ascending key (Holds below) xs → Ascending key (Holds below) (without_key key below xs k)
  ascending_without [] k up = up
  ascending_without (x ∷ xs) k up =
      cond_both (same below (key x) k) xs (x ∷ without_key key below xs k) (Ascending key (Holds below)) (λ _. others x xs up)
      (λ _. joins x (without_key key below xs k) (all_without (Holds below (key x)) xs k (first x xs up)) (ascending_without xs k (others x xs up)))

  pub ascending_replaced : (xs : List R) (r : R) → Ascending key (Holds below) xs → Ascending key (Holds below) (replaced key below xs r)
  ascending_replaced [] r up = up
  ascending_replaced (x ∷ xs) r up =
      cond_both (same below (key x) (key r)) (r ∷ xs) (x ∷ replaced key below xs r) (Ascending key (Holds below))
      (λ is. joins r xs (subst (λ a. All (λ y. Holds below a (key y)) xs) (equal_same below one _ _ is) (first x xs up)) (others x xs up))
      (λ _. joins x (replaced key below xs r) (all_replaced (Holds below (key x)) xs r (first x xs up)) (ascending_replaced xs r (others x xs up)))

  -- no record past x is below a key that x is not below
  pub none_below : (x : R) (xs : List R) (k : K) → below (key x) k ≡ false → All (λ y. Holds below (key x) (key y)) xs → rank_of key below xs k ≡ 0
  none_below x [] k over high = refl
  none_below x (y ∷ ys) k over high = grind (arith, chain (key x) (key y) k, high.0, none_below x ys k over high.1)

  pub with_at_rank : (xs : List R) (r : R) → Ascending key (Holds below) xs → insert xs (rank_of key below xs (key r)) r ≡ with_record key below xs r
  with_at_rank [] r up = refl
  with_at_rank (x ∷ xs) r up =
      let none = λ (over : below (key x) (key r) ≡ false). none_below x xs (key r) over (first x xs up) in
      grind (arith, none, with_at_rank xs r (others x xs up))

  -- one key alone
  pub alone_with : (xs : List R) (r : R) → index_of key below xs (key r) ≡ None → Alone key below xs (with_record key below xs r) (key r) (Some r)
  alone_with [] r absent q = refl
  alone_with (x ∷ xs) r absent q =
      grind (arith, equal_same below one (key x) q, same_above below one (key r) q, alone_with xs r (missing_parts key below x xs (key r) absent).1 q)

  -- no record past the first has its key
  pub none_later : (xs : List R) (a : K) → All (λ y. Holds below a (key y)) xs → record_of key below xs a ≡ None
  none_later [] a high = refl
  none_later (x ∷ xs) a high = cond-false _ _ _ (same_above below one (key x) a high.0) ∙ none_later xs a high.1

  pub alone_without : (xs : List R) (k : K) → Ascending key (Holds below) xs → Alone key below xs (without_key key below xs k) k None
  alone_without [] k up q = grind arith
  alone_without (x ∷ xs) k up q =
      let later = λ (e : key x ≡ q). subst (λ a. record_of key below xs a ≡ None) e (none_later xs (key x) (first x xs up)) in
      grind (arith, later, equal_same below one (key x) k, equal_same below one (key x) q, equal_same below one k q, alone_without xs k (others x xs up) q)

  pub alone_replaced : (xs : List R) (r : R) → Alone key below xs (replaced key below xs r) (key r) (cond (is_some (index_of key below xs (key r))) (Some r) None)
  alone_replaced [] r q = grind arith
  alone_replaced (x ∷ xs) r q = grind (arith, one (key x) q, one (key r) q, one (key x) (key r), alone_replaced xs r q)
