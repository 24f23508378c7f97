-- Records in order are determined by what each key finds. Assumes nothing.
use Rattle.std.proofs.Common.{◌≡◌, Bool, true, false, ◌⊎◌, List, [], ◌∷◌, Some, None, sym, refl, ap, ◌∙◌, subst, ap₂, inl, inr}
use Rattle.std.proofs.ByRecursion.{All-weaker}
use Rattle.std.proofs.lemmas.Bool.{cases_Bool, cond-true, cond-false}
use Rattle.std.proofs.lemmas.Option.{none-some}
use Rattle.ordered.specs.Order.{ExactlyOne, Holds}
use Rattle.ordered.specs.Tables.{Ascending, same, record_of}
use Rattle.ordered.proofs.Edits.{first, others, none_later}
use Rattle.ordered.proofs.Orders.{same_equal, equal_same}

module _ {R K : Type 0} (key : R → K) (below : K → K → Bool) (one : (a b : K) → ExactlyOne (Holds below a b) (a ≡ b) (Holds below b a))
    (chain : (a b c : K) → Holds below a b → Holds below b c → Holds below a c) where
  -- the key of the first finds it
  finds_first : (x : R) (xs : List R) → record_of key below (x ∷ xs) (key x) ≡ Some x
  finds_first x xs = cond-true _ _ _ (same_equal below one (key x) (key x) refl)

  -- a key below that of the first finds nothing
  lower_none : (x : R) (xs : List R) (a : K) → Ascending key (Holds below) (x ∷ xs) → Holds below a (key x) → record_of key below (x ∷ xs) a ≡ None
  lower_none x xs a up low =
      none_later key below one chain (x ∷ xs) a (low, All-weaker _ _ (λ y high. chain a (key x) (key y) low high) xs (first key below one chain x xs up))

  -- nor does the key of the first among the others
  later_none : (x : R) (xs : List R) → Ascending key (Holds below) (x ∷ xs) → record_of key below xs (key x) ≡ None
  later_none x xs up = none_later key below one chain xs (key x) (first key below one chain x xs up)

  pub equal_tables : (xs ys : List R) → Ascending key (Holds below) xs → Ascending key (Holds below) ys
      → ((k : K) → record_of key below xs k ≡ record_of key below ys k) → xs ≡ ys
  equal_tables [] [] up rising each = refl
  equal_tables [] (y ∷ ys) up rising each = absurd (none-some y (each (key y) ∙ finds_first y ys))
  equal_tables (x ∷ xs) [] up rising each = absurd (none-some x (sym (each (key x)) ∙ finds_first x xs))
  equal_tables (x ∷ xs) (y ∷ ys) up rising each =
      go (equal_tables xs ys (others key below one chain x xs up) (others key below one chain y ys rising)) (one (key x) (key y))
    where
      -- where the first have one key, every key finds the same among the others
      rest : key x ≡ key y → (k : K) → record_of key below xs k ≡ record_of key below ys k
      rest e k = choose (cases_Bool (same below (key x) k))
        where
          choose : (same below (key x) k ≡ true) ⊎ (same below (key x) k ≡ false) → record_of key below xs k ≡ record_of key below ys k
          choose (inl is) =
              let here = equal_same below one (key x) k is in
              subst (λ a. record_of key below xs a ≡ record_of key below ys a) here
              (later_none x xs up ∙ sym (subst (λ a. record_of key below ys a ≡ None) (sym e) (later_none y ys rising)))
          choose (inr apart) =
              sym (cond-false _ _ _ apart) ∙ each k ∙ cond-false _ _ _ (ap (λ a. same below a k) (sym e) ∙ apart)

      go : (((k : K) → record_of key below xs k ≡ record_of key below ys k) → xs ≡ ys)
          → ExactlyOne (Holds below (key x) (key y)) (key x ≡ key y) (Holds below (key y) (key x)) → x ∷ xs ≡ y ∷ ys
      go later (inl (less, _, _)) = absurd (none-some x (sym (lower_none y ys (key x) rising less) ∙ sym (each (key x)) ∙ finds_first x xs))
      go later (inr (inr (_, _, more))) = absurd (none-some y (sym (lower_none x xs (key y) up more) ∙ each (key y) ∙ finds_first y ys))
      go later (inr (inl (_, e, _))) =
          let found : Some x ≡ Some y = sym (finds_first x xs) ∙ each (key x) ∙ ap (record_of key below (y ∷ ys)) e ∙ finds_first y ys in
          let same : x ≡ y = cc in
          ap₂ (λ z zs. z ∷ zs) same (later (rest e))
