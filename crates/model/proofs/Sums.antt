-- How many numbers have a property that is put together from others.
--     alike          equal properties
--     one_count      a property has one count
--     none, single   no number, and one
--     both           one of two properties that no number has both of
--     several        some numbers, no two the same
--     sum_passing    the property of one of the records that pass a test
use Rattle.std.proofs.Common.{◌≡◌, ℕ, zero, suc, ◌+◌, ◌<◌, Bool, true, false, ◌||◌, eqb, ◌⊎◌, List, [], ◌∷◌, Some, None, Option, sym, refl, ap, ◌∙◌, subst, inl, inr, true≢false, arith}
use Rattle.std.specs.Prelude.{◌↔◌, filter}
use Rattle.std.specs.List.{sum_by}
use Rattle.std.proofs.lemmas.Bool.{cases_eq, cases_Bool, both_ways, cond-true, cond-false, eqb-true, eq-eqb, or_cases, or_left, or_right}
use Rattle.std.proofs.lemmas.List.Sums.{sum_by-cons}
use Rattle.blocks.specs.Sets.{Joins, union}
use Rattle.blocks.proofs.Counts.{count_same, count_more, count_empty, count_sum}
use Rattle.ordered.specs.Order.{ExactlyOne, Holds}
use Rattle.ordered.specs.Tables.{Ascending, same, index_of, record_of}
use Rattle.ordered.proofs.Lookups.{found, missing}
use Rattle.ordered.proofs.Orders.{same_equal, same_below, equal_same}
use Rattle.model.specs.Figures.{HowMany}
use Rattle.model.proofs.Rows.{some_none}

-- equal properties have equal counts
pub alike : (P Q : ℕ → Type 0) (n k : ℕ) → ((b : ℕ) → b < n → P b ↔ Q b) → HowMany P n k → HowMany Q n k
alike P Q n k equal x = record {
  test = x.test;
  tells = λ b low. ((λ is. (equal b low).0 ((x.tells b low).0 is)), (λ q. (x.tells b low).1 ((equal b low).1 q)));
  counted = x.counted;
}

-- two answers that are yes at the same time are the same
same_answer : (a b : Bool) → (a ≡ true → b ≡ true) → (b ≡ true → a ≡ true) → a ≡ b
same_answer true b there back = sym (there refl)
same_answer false true there back = back refl
same_answer false false there back = refl

-- a property has one count
pub one_count : (P : ℕ → Type 0) (n j k : ℕ) → HowMany P n j → HowMany P n k → j ≡ k
one_count P n j k x y = x.counted ∙ count_same y.test x.test n each ∙ sym y.counted
  where
    each : (b : ℕ) → b < n → x.test b ≡ y.test b
    each b low =
        same_answer (x.test b) (y.test b) (λ is. (y.tells b low).1 ((x.tells b low).0 is)) (λ is. (x.tells b low).1 ((y.tells b low).0 is))

-- no number
pub none : (P : ℕ → Type 0) (n : ℕ) → ((b : ℕ) → P b → ⊥) → HowMany P n 0
none P n never = record {
  test = λ b. false;
  tells = λ b low. ((λ is. absurd (true≢false (sym is))), (λ p. absurd (never b p)));
  counted = sym (count_empty (λ b. false) n (λ b low. refl));
}

-- one number
pub single : (c n : ℕ) → c < n → HowMany (λ b. c ≡ b) n 1
single c n low = record {
  test = eqb c;
  tells = λ b _. (eqb-true c b, eq-eqb c b);
  counted = (let no = count_empty (λ b. false) n (λ b _. refl) in omega (arith, count_more (λ b. false) (eqb c) c n joins low));
}
  where
    other : (b : ℕ) → (b ≡ c → ⊥) → eqb c b ≡ false
    other b apart = go (cases_Bool (eqb c b))
      where
        go : (eqb c b ≡ true) ⊎ (eqb c b ≡ false) → eqb c b ≡ false
        go (inl is) = absurd (apart (sym (eqb-true c b is)))
        go (inr not) = not

    joins : Joins (λ b. false) c (eqb c)
    joins = record { was = refl; is = eq-eqb c c refl; others = other }

-- one of two properties that no number has both of
pub both : (P Q : ℕ → Type 0) (n j k : ℕ) → ((b : ℕ) → P b → Q b → ⊥) → HowMany P n j → HowMany Q n k → HowMany (λ b. P b ⊎ Q b) n (j + k)
both P Q n j k apart x y = record {
  test = union x.test y.test;
  tells = λ b low. ((λ is. there b low (or_cases (x.test b) (y.test b) is)), back b low);
  counted = (let sum = count_sum x.test y.test n alone in omega (arith, x.counted, y.counted));
}
  where
    there : (b : ℕ) → b < n → (x.test b ≡ true) ⊎ (y.test b ≡ true) → P b ⊎ Q b
    there b low (inl is) = inl ((x.tells b low).0 is)
    there b low (inr is) = inr ((y.tells b low).0 is)

    back : (b : ℕ) → b < n → P b ⊎ Q b → (x.test b || y.test b) ≡ true
    back b low (inl p) = or_left (x.test b) (y.test b) ((x.tells b low).1 p)
    back b low (inr q) = or_right (x.test b) (y.test b) ((y.tells b low).1 q)

    alone : (b : ℕ) → b < n → x.test b ≡ true → y.test b ≡ false
    alone b low is = go (cases_Bool (y.test b))
      where
        go : (y.test b ≡ true) ⊎ (y.test b ≡ false) → y.test b ≡ false
        go (inl also) = absurd (apart b ((x.tells b low).0 is) ((y.tells b low).0 also))
        go (inr not) = not

-- k numbers of which no two are the same
pub several : (number : ℕ → ℕ) (n k : ℕ) → ((d : ℕ) → d < k → number d < n) → ((d e : ℕ) → d < e → e < k → number d ≡ number e → ⊥)
    → HowMany (λ b. (d : ℕ) × (d < k) × (number d ≡ b)) n k
several number n zero low apart = none (λ b. (d : ℕ) × (d < 0) × (number d ≡ b)) n (λ b is. omega (arith, is.1))
several number n (suc k) low apart =
    let rest = several number n k (λ d less. low d (omega arith)) (λ d e less small. apart d e less (omega arith)) in
    let sum : k + 1 ≡ suc k = omega arith in
    subst (HowMany _ n) sum (alike _ _ n (k + 1) (λ b _. (there b, back b)) (both _ _ n k 1 alone rest (single (number k) n (low k (omega arith)))))
  where
    alone : (b : ℕ) → (d : ℕ) × (d < k) × (number d ≡ b) → number k ≡ b → ⊥
    alone b (d, less, is) last = apart d k less (omega arith) (is ∙ sym last)

    there : (b : ℕ) → ((d : ℕ) × (d < k) × (number d ≡ b)) ⊎ (number k ≡ b) → (d : ℕ) × (d < suc k) × (number d ≡ b)
    there b (inl (d, less, is)) = (d, omega arith, is)
    there b (inr is) = (k, omega arith, is)

    back : (b : ℕ) → (d : ℕ) × (d < suc k) × (number d ≡ b) → ((d : ℕ) × (d < k) × (number d ≡ b)) ⊎ (number k ≡ b)
    back b (d, less, is) = go (cases_eq d k)
      where
        go : (d ≡ k) ⊎ (d ≡ k → ⊥) → ((d : ℕ) × (d < k) × (number d ≡ b)) ⊎ (number k ≡ b)
        go (inl last) = inr (ap number (sym last) ∙ is)
        go (inr other) = inl (d, omega arith, is)

-- Records in the order of their keys, where each key has a property of numbers, and no number has the properties of two keys.
module _ {R K : Type 0} (key : R → K) (below : K → K → Bool) (one : (a b : K) → ExactlyOne (Holds below a b) (a ≡ b) (Holds below b a))
    (size : ℕ) (P : K → ℕ → Type 0) (alone : (k j : K) (b : ℕ) → P k b → P j b → k ≡ j) (f : R → ℕ) (test : R → Bool) where
  -- b has the property of the key of a record that passes the test
  abbrev pub Passes : List R → ℕ → Type 0
  Passes xs b = (k : K) × (x : R) × (record_of key below xs k ≡ Some x) × (test x ≡ true) × P k b

  -- the counts of the records that pass add up
  pub sum_passing : (xs : List R) → Ascending key (Holds below) xs
      → ((k : K) (x : R) → record_of key below xs k ≡ Some x → test x ≡ true → HowMany (P k) size (f x)) → HowMany (Passes xs) size (sum_by f (filter test xs))
  sum_passing [] up each = none (Passes []) size (λ b (k, x, at, _, _). some_none None x at refl)
  sum_passing (x ∷ xs) up each =
      go (sum_passing xs (λ i j d less low. up (suc i) (suc j) d (omega arith) (omega arith)) (λ k y at pass. each k y (older k y at) pass)) (cases_Bool (test x))
    where
      -- the first record has none of the later keys
      past : (k : K) (y : R) → record_of key below xs k ≡ Some y → same below (key x) k ≡ false
      past k y at = find (index_of key below xs k) refl
        where
          find : (o : Option ℕ) → index_of key below xs k ≡ o → same below (key x) k ≡ false
          find None e = absurd (some_none _ y at (missing key below xs k e).entry)
          find (Some i) e =
              let there = found key below xs k i e in
              same_below below one (key x) k
              (subst (Holds below (key x)) (equal_same below one _ k (there.here y)) (up 0 (suc i) y (omega arith) (omega (arith, there.within))))

      older : (k : K) (y : R) → record_of key below xs k ≡ Some y → record_of key below (x ∷ xs) k ≡ Some y
      older k y at = cond-false _ _ _ (past k y at) ∙ at

      first : record_of key below (x ∷ xs) (key x) ≡ Some x
      first = cond-true _ _ _ (same_equal below one (key x) (key x) refl)

      split : (b : ℕ) → Passes (x ∷ xs) b → ((test x ≡ true) × P (key x) b) ⊎ Passes xs b
      split b (k, y, at, pass, p) = choose (cases_Bool (same below (key x) k))
        where
          choose : (same below (key x) k ≡ true) ⊎ (same below (key x) k ≡ false) → ((test x ≡ true) × P (key x) b) ⊎ Passes xs b
          choose (inl here) =
              let e : Some x ≡ Some y = sym (cond-true _ _ _ here) ∙ at in
              let is : y ≡ x = cc in
              inl (ap test (sym is) ∙ pass, subst (λ (j : K). P j b) (sym (equal_same below one (key x) k here)) p)
          choose (inr later) = inr (k, y, sym (cond-false _ _ _ later) ∙ at, pass, p)

      join : (b : ℕ) → Passes xs b → Passes (x ∷ xs) b
      join b (k, y, at, pass, p) = (k, y, older k y at, pass, p)

      apart : (b : ℕ) → P (key x) b → Passes xs b → ⊥
      apart b p (k, y, at, _, q) = both_ways (same below (key x) k) (past k y at) (same_equal below one (key x) k (alone (key x) k b p q))

      go : HowMany (Passes xs) size (sum_by f (filter test xs)) → (test x ≡ true) ⊎ (test x ≡ false)
          → HowMany (Passes (x ∷ xs)) size (sum_by f (filter test (x ∷ xs)))
      go rest (inl pass) =
          subst (HowMany (Passes (x ∷ xs)) size) (sym (ap (sum_by f) (cond-true _ _ _ pass) ∙ sum_by-cons f x (filter test xs)))
          (alike (λ b. P (key x) b ⊎ Passes xs b) (Passes (x ∷ xs)) size _ equal (both (P (key x)) (Passes xs) size _ _ apart (each (key x) x first pass) rest))
        where
          equal : (b : ℕ) → b < size → (P (key x) b ⊎ Passes xs b) ↔ Passes (x ∷ xs) b
          equal b _ = (there, (λ passes. back (split b passes)))
            where
              there : P (key x) b ⊎ Passes xs b → Passes (x ∷ xs) b
              there (inl p) = (key x, x, first, pass, p)
              there (inr later) = join b later

              back : ((test x ≡ true) × P (key x) b) ⊎ Passes xs b → P (key x) b ⊎ Passes xs b
              back (inl (_, p)) = inl p
              back (inr later) = inr later
      go rest (inr fails) =
          subst (HowMany (Passes (x ∷ xs)) size) (sym (ap (sum_by f) (cond-false _ _ _ fails))) (alike (Passes xs) (Passes (x ∷ xs)) size _ equal rest)
        where
          equal : (b : ℕ) → b < size → Passes xs b ↔ Passes (x ∷ xs) b
          equal b _ = (join b, (λ passes. back (split b passes)))
            where
              back : ((test x ≡ true) × P (key x) b) ⊎ Passes xs b → Passes xs b
              back (inl (pass, _)) = absurd (both_ways (test x) fails pass)
              back (inr later) = later
