-- The first pointers of an old path that go to the dead list, and the dead records with them.
use Rattle.std.specs.List.{count_by}
use Rattle.std.proofs.lemmas.List.Sums.{count_by_more_yes, count_by_more_no}
use Rattle.std.proofs.Common.{take, ◌≡◌, ℕ, zero, suc, ◌+◌, ◌<◌, ◌≤◌, Bool, true, false, cond, ltb, leb, ◌⊎◌, List, [], ◌∷◌, ◌++◌, length, get_or, Some, None, filter, Option, sym, refl, ap, ◌∙◌, subst, inl, inr, ⊎_elim, add-one, arith, length-append}
use Rattle.std.proofs.lemmas.List.Elements.{filter-append}
use Rattle.std.proofs.lemmas.List.{append-nil, take_all}
use Rattle.std.proofs.lemmas.Bool.{cases_Bool, cases_eq, cases_order, cond-true, cond-false, cond_both, le-leb, lt-leb, lt-ltb, eq-eqb, and_from, and_left, and_right, or_left, or_right, not_from_true}
use Rattle.ordered.specs.Tables.{same, record_of, with_record}
use Rattle.records.specs.Keys.{dead_key, dead_below}
use Rattle.records.specs.declared.dead.DeadRecord.{DeadRecord}
use Rattle.records.specs.declared.rows.Pointer.{Pointer}
use Rattle.model.specs.Datasets.{dead_of}
use Rattle.model.specs.Paths.{pointers, listed}
use Rattle.model.specs.Steps.{buried}
use Rattle.reclaim.specs.Leavers.{is_sunk}

-- the old ones among the first k pointers
abbrev pub sunk_below : List (Option Pointer) → ℕ → ℕ → List Pointer
sunk_below old stamp k = filter (λ q. leb q.birth stamp) (pointers (λ d. get_or old d None) k)

module _ (old : List (Option Pointer)) (stamp : ℕ) where
  pub sunk_none : sunk_below old stamp 0 ≡ []
  unfolding pointers
  sunk_none = refl

  sunk_step : (k : ℕ) → sunk_below old stamp (k + 1) ≡ sunk_below old stamp k ++ filter (λ q. leb q.birth stamp) (listed (get_or old k None))
  unfolding pointers
  sunk_step k = ap (sunk_below old stamp) (add-one k) ∙ filter-append (λ (q : Pointer). leb q.birth stamp) (pointers (λ d. get_or old d None) k) (listed (get_or old k None))

  pub sunk_hole : (k : ℕ) → get_or old k None ≡ None → sunk_below old stamp (k + 1) ≡ sunk_below old stamp k
  sunk_hole k e =
      sunk_step k
      ∙ ap (λ (o : Option Pointer). sunk_below old stamp k ++ filter (λ q. leb q.birth stamp) (listed o)) e
      ∙ append-nil (sunk_below old stamp k)

  at_pointer : (k : ℕ) (q : Pointer) → get_or old k None ≡ Some q → sunk_below old stamp (k + 1) ≡ sunk_below old stamp k ++ cond (leb q.birth stamp) (q ∷ []) []
  at_pointer k q e = sunk_step k ∙ ap (λ (o : Option Pointer). sunk_below old stamp k ++ filter (λ q. leb q.birth stamp) (listed o)) e

  pub sunk_young : (k : ℕ) (q : Pointer) → get_or old k None ≡ Some q → stamp < q.birth → sunk_below old stamp (k + 1) ≡ sunk_below old stamp k
  sunk_young k q e l =
      at_pointer k q e ∙ ap (λ (xs : List Pointer). sunk_below old stamp k ++ xs) (cond-false _ _ _ (lt-leb q.birth stamp l)) ∙ append-nil (sunk_below old stamp k)

  pub sunk_old : (k : ℕ) (q : Pointer) → get_or old k None ≡ Some q → q.birth ≤ stamp → sunk_below old stamp (k + 1) ≡ sunk_below old stamp k ++ q ∷ []
  sunk_old k q e l = at_pointer k q e ∙ ap (λ (xs : List Pointer). sunk_below old stamp k ++ xs) (cond-true _ _ _ (le-leb q.birth stamp l))

  pub sunk_length : (k : ℕ) → length (sunk_below old stamp (k + 1)) ≡ length (sunk_below old stamp k) + cond (is_sunk (get_or old k None) stamp) 1 0
  sunk_length k =
      let e = ap length (sunk_step k) in
      let a = length-append (sunk_below old stamp k) (filter (λ q. leb q.birth stamp) (listed (get_or old k None))) in
      let o = one (get_or old k None) in
      omega arith
    where
      one : (o : Option Pointer) → length (filter (λ q. leb q.birth stamp) (listed o)) ≡ cond (is_sunk o stamp) 1 0
      one None = refl
      one (Some q) = elim (leb q.birth stamp) as (λ b. length (cond b (q ∷ []) []) ≡ cond b 1 0) [ true ↦ refl | false ↦ refl ]

  sunk_counted : (k : ℕ) → k ≤ length old → count_by (λ o. is_sunk o stamp) (take k old) ≡ length (sunk_below old stamp k)
  sunk_counted zero l = let e = ap length sunk_none in omega arith
  sunk_counted (suc k) l =
      subst (λ n. count_by (λ o. is_sunk o stamp) (take n old) ≡ length (sunk_below old stamp n)) (add-one k)
      (go (sunk_counted k (omega arith)) (sunk_length k) (cases_Bool (is_sunk (get_or old k None) stamp)))
    where
      go : count_by (λ o. is_sunk o stamp) (take k old) ≡ length (sunk_below old stamp k)
          → length (sunk_below old stamp (k + 1)) ≡ length (sunk_below old stamp k) + cond (is_sunk (get_or old k None) stamp) 1 0
          → (is_sunk (get_or old k None) stamp ≡ true) ⊎ (is_sunk (get_or old k None) stamp ≡ false)
          → count_by (λ o. is_sunk o stamp) (take (k + 1) old) ≡ length (sunk_below old stamp (k + 1))
      go before more (inl aged) = let e = count_by_more_yes (λ o. is_sunk o stamp) old k None (omega arith) aged in let m = rw aged at more in omega arith
      go before more (inr young) = let e = count_by_more_no (λ o. is_sunk o stamp) old k None (omega arith) young in let m = rw young at more in omega arith

  -- by a test of each pointer
  pub sunk_count : count_by (λ o. is_sunk o stamp) old ≡ length (sunk_below old stamp (length old))
  sunk_count = ap (count_by (λ o. is_sunk o stamp)) (sym (take_all (length old) old (omega arith))) ∙ sunk_counted (length old) (omega arith)

  pub sunk_grows : (k n : ℕ) → k ≤ n → length (sunk_below old stamp k) ≤ length (sunk_below old stamp n)
  sunk_grows k zero l = let e : k ≡ 0 = omega arith in rw e (omega arith)
  sunk_grows k (suc n) l =
      ⊎_elim
      (λ (y : k ≡ suc n). rw y (omega arith))
      (λ (y : k ≡ suc n → ⊥). omega (arith, sunk_grows k n (omega (arith, y)), rw add-one at (sunk_length n)))
      (cases_eq k (suc n))

-- one more record
pub buried_more : (n : ℕ) (dead : List DeadRecord) (qs : List Pointer) (q : Pointer)
    → buried n dead (qs ++ q ∷ []) ≡ with_record dead_key dead_below (buried n dead qs) (dead_of n q)
unfolding buried
buried_more n dead [] q = refl
buried_more n dead (x ∷ qs) q = buried_more n (with_record dead_key dead_below dead (dead_of n x)) qs q

pub buried_none : (n : ℕ) (dead : List DeadRecord) → buried n dead [] ≡ dead
unfolding buried
buried_none n dead = refl

-- a record does not hide those with other keys
pub record_past : {R K : Type 0} (key : R → K) (below : K → K → Bool) (xs : List R) (r : R) (k : K) → same below (key r) k ≡ false
    → record_of key below (with_record key below xs r) k ≡ record_of key below xs k
record_past key below [] r k other = cond-false _ _ _ other
record_past {R} key below (x ∷ xs) r k other =
    let rest = record_past key below xs r k other in
    cond_both (below (key x) (key r)) (x ∷ with_record key below xs r) (r ∷ (x ∷ xs)) (λ (ys : List R). record_of key below ys k ≡ record_of key below (x ∷ xs) k)
    (λ _. ap (cond (same below (key x) k) (Some x)) rest)
    (λ _. cond-false _ _ _ other)

below_is : (n : ℕ) (x q : Pointer) → (x.birth < q.birth) ⊎ ((x.birth ≡ q.birth) × (x.block < q.block)) → dead_below (dead_key (dead_of n x)) (dead_key (dead_of n q)) ≡ true
below_is n x q (inl l) = or_right (ltb n n) _ (and_from _ _ (eq-eqb n n refl) (or_left _ _ (lt-ltb _ _ l)))
below_is n x q (inr (e, l)) = or_right (ltb n n) _ (and_from _ _ (eq-eqb n n refl) (or_right (ltb x.birth q.birth) _ (and_from _ _ (eq-eqb _ _ e) (lt-ltb _ _ l))))

-- dead records of two blocks have two keys
pub blocks_apart : (n : ℕ) (x q : Pointer) → (x.block ≡ q.block → ⊥) → same dead_below (dead_key (dead_of n x)) (dead_key (dead_of n q)) ≡ false
blocks_apart n x q apart = go (cases_order x.birth q.birth) (cases_order x.block q.block)
  where
    up : (x.birth < q.birth) ⊎ ((x.birth ≡ q.birth) × (x.block < q.block)) → same dead_below (dead_key (dead_of n x)) (dead_key (dead_of n q)) ≡ false
    up l = and_left _ _ (not_from_true _ (below_is n x q l))

    down : (q.birth < x.birth) ⊎ ((q.birth ≡ x.birth) × (q.block < x.block)) → same dead_below (dead_key (dead_of n x)) (dead_key (dead_of n q)) ≡ false
    down l = and_right _ _ (not_from_true _ (below_is n q x l))

    go : (x.birth ≡ q.birth) ⊎ ((x.birth < q.birth) ⊎ (q.birth < x.birth)) → (x.block ≡ q.block) ⊎ ((x.block < q.block) ⊎ (q.block < x.block))
        → same dead_below (dead_key (dead_of n x)) (dead_key (dead_of n q)) ≡ false
    go (inr (inl l)) _ = up (inl l)
    go (inr (inr l)) _ = down (inl l)
    go (inl e) (inl b) = absurd (apart b)
    go (inl e) (inr (inl l)) = up (inr (e, l))
    go (inl e) (inr (inr l)) = down (inr (sym e, l))
