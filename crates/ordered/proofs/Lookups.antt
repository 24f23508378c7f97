-- What follows from where a key is found, in any records. Assumes nothing.
use Rattle.std.proofs.Common.{◌≡◌, ℕ, zero, suc, ◌<◌, ◌≤◌, Bool, true, false, cond, List, [], ◌∷◌, length, get_or, set, Some, None, Option, refl, ap, ◌∙◌, arith}
use Rattle.std.specs.List.{remove}
use Rattle.std.specs.Option.{option_map}
use Rattle.std.proofs.lemmas.Bool.{cond-true, cond-false}
use Rattle.ordered.specs.Tables.{same, index_of, record_of, rank_of, without_key, replaced}

-- an index in a list, by that in the list without its first element
at_first : (here : Bool) (o : Option ℕ) → cond here (Some 0) (option_map suc o) ≡ Some 0 → here ≡ true
at_first true o e = refl
at_first false None e = cc
at_first false (Some i) e = let z : suc i ≡ 0 = cc in absurd (omega arith)

at_later : (here : Bool) (o : Option ℕ) (i : ℕ) → cond here (Some 0) (option_map suc o) ≡ Some (suc i) → (here ≡ false) × (o ≡ Some i)
at_later true o i e = let z : 0 ≡ suc i = cc in absurd (omega arith)
at_later false None i e = cc
at_later false (Some j) i e = let z : suc j ≡ suc i = cc in let same : j ≡ i = omega arith in (refl, ap Some same)

at_none : (here : Bool) (o : Option ℕ) → cond here (Some 0) (option_map suc o) ≡ None → (here ≡ false) × (o ≡ None)
at_none true o e = cc
at_none false None e = (refl, refl)
at_none false (Some i) e = cc

module _ {R K : Type 0} (key : R → K) (below : K → K → Bool) where
  -- the record at i is the first with key k
  pub at_index : (xs : List R) (k : K) (i : ℕ) → i < length xs → ((j : ℕ) (d : R) → j < i → same below (key (get_or xs j d)) k ≡ false)
      → ((d : R) → same below (key (get_or xs i d)) k ≡ true) → index_of key below xs k ≡ Some i
  at_index [] k i lt apart here = absurd (omega arith)
  at_index (x ∷ xs) k zero lt apart here = cond-true _ _ _ (here x)
  at_index (x ∷ xs) k (suc i) lt apart here =
      cond-false _ _ _ (apart 0 x (omega arith)) ∙ ap (option_map suc) (at_index xs k i (omega arith) (λ j d h. apart (suc j) d (omega arith)) here)

  -- no record has key k
  pub no_index : (xs : List R) (k : K) → ((j : ℕ) (d : R) → j < length xs → same below (key (get_or xs j d)) k ≡ false) → index_of key below xs k ≡ None
  no_index [] k apart = refl
  no_index (x ∷ xs) k apart = cond-false _ _ _ (apart 0 x (omega arith)) ∙ ap (option_map suc) (no_index xs k (λ j d lt. apart (suc j) d (omega arith)))

  -- the first i records lie below k and the others do not
  pub ranked : (xs : List R) (k : K) (i : ℕ) → i ≤ length xs → ((j : ℕ) (d : R) → j < i → below (key (get_or xs j d)) k ≡ true)
      → ((j : ℕ) (d : R) → i ≤ j → j < length xs → below (key (get_or xs j d)) k ≡ false) → rank_of key below xs k ≡ i
  ranked [] k i le under over = omega arith
  ranked (x ∷ xs) k zero le under over =
      cond-false _ _ _ (over 0 x (omega arith) (omega arith)) ∙ ranked xs k zero (omega arith) (λ j d lt. absurd (omega arith)) (λ j d le lt. over (suc j) d (omega arith) (omega arith))
  ranked (x ∷ xs) k (suc i) le under over =
      cond-true _ _ _ (under 0 x (omega arith)) ∙ ap suc (ranked xs k i (omega arith) (λ j d lt. under (suc j) d (omega arith)) (λ j d le lt. over (suc j) d (omega arith) (omega arith)))

  -- key k is found at i
  pub record Found (xs : List R) (k : K) (i : ℕ) : Type 0 where
    pub within : i < length xs
    pub here : (d : R) → same below (key (get_or xs i d)) k ≡ true
    pub entry : (d : R) → record_of key below xs k ≡ Some (get_or xs i d)
    pub less : without_key key below xs k ≡ remove xs i
    pub over : (r : R) → key r ≡ k → replaced key below xs r ≡ set xs i r

  pub found : (xs : List R) (k : K) (i : ℕ) → index_of key below xs k ≡ Some i → Found xs k i
  found [] k i e = cc
  found (x ∷ xs) k zero e =
      let here = at_first _ _ e in
      record {
        within = omega arith;
        here = λ d. here;
        entry = λ d. cond-true _ _ _ here;
        less = cond-true _ _ _ here;
        over = λ r is. grind (arith, here, is);
      }
  found (x ∷ xs) k (suc i) e =
      let past = at_later _ _ i e in
      let f = found xs k i past.1 in
      record {
        within = omega (arith, f.within);
        here = f.here;
        entry = λ d. cond-false _ _ _ past.0 ∙ f.entry d;
        less = cond-false _ _ _ past.0 ∙ ap (λ ys. x ∷ ys) f.less;
        over = λ r is. grind (arith, past.0, is, f.over r is);
      }

  -- key k is not found
  pub record Missing (xs : List R) (k : K) : Type 0 where
    pub entry : record_of key below xs k ≡ None
    pub less : without_key key below xs k ≡ xs
    pub over : (r : R) → key r ≡ k → replaced key below xs r ≡ xs

  pub missing_parts : (x : R) (xs : List R) (k : K) → index_of key below (x ∷ xs) k ≡ None → (same below (key x) k ≡ false) × (index_of key below xs k ≡ None)
  missing_parts x xs k e = at_none _ _ e

  pub missing : (xs : List R) (k : K) → index_of key below xs k ≡ None → Missing xs k
  missing [] k e = record { entry = refl; less = refl; over = λ r is. refl }
  missing (x ∷ xs) k e =
      let parts = missing_parts x xs k e in
      let f = missing xs k parts.1 in
      record {
        entry = cond-false _ _ _ parts.0 ∙ f.entry;
        less = cond-false _ _ _ parts.0 ∙ ap (λ ys. x ∷ ys) f.less;
        over = λ r is. grind (arith, parts.0, is, f.over r is);
      }
