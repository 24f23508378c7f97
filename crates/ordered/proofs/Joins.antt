-- Records of which one list has joined another: they ascend, and just those of the definition stand. Assumes nothing.
use Rattle.std.proofs.Common.{◌≡◌, ◌≢◌, ℕ, suc, ◌<◌, ◌≤◌, Bool, true, not, ◌&&◌, nat_eq, nat_lt, List, [], ◌∷◌, ◌++◌, get_or, map, Some, inl, inr, ⊎_elim, ◌↔◌, sym, ap, ◌∙◌, subst, arith}
use Rattle.std.specs.Cmp.{IsTotalOrder}
use Rattle.std.specs.List.{All, AllPairs, Contains, filter}
use Rattle.std.specs.List.Sorted.{IsPermutation, IsSortedByKey}
use Rattle.std.specs.Ordering.{is_lt}
use Rattle.std.specs.declared.cmp.Ordering.{Ordering}
use Rattle.std.proofs.lemmas.Bool.{cases_eq, cases_lt, cond_both}
use Rattle.std.proofs.lemmas.Bool.Decides.{nat_tests}
use Rattle.std.proofs.lemmas.List.{get_or-map, get_or_default, length-map}
use Rattle.std.proofs.lemmas.List.Elements.{All-append, All-contains_itself, All-map, All-weaker, Contains-append_cases, Contains-append_left, Contains-append_right, filter_passes}
use Rattle.std.proofs.lemmas.List.Sorted.{All-permutation, Contains-permutation, IsPermutation-map, IsPermutation-sym, ranks_by, sorted_far}
use Rattle.std.proofs.lemmas.Map.Keys.{IsDistinct-IsPermutation}
use Rattle.std.proofs.lemmas.Map.Made.{AllPairs-from_IsDistinct, IsDistinct-from_AllPairs}
use Rattle.std.specs.Bool.{Decides}
use Rattle.ordered.specs.Lists.{Apart, IsListing, Joined, Stands, list_of}
use Rattle.ordered.specs.Order.{Holds, IsStrictPart}
use Rattle.ordered.specs.Tables.{Ascending, record_of, same}
use Rattle.ordered.proofs.Filters.{ascending_filter}
use Rattle.ordered.proofs.Lookups.{found}
use Rattle.ordered.proofs.Orders.{equal_same, less_below, not_itself, same_equal}
use Rattle.ordered.proofs.Pairs.{contains_filter, contains_later, contains_map, filter_contains, map_contains, pairs_append, pairs_map}
use Rattle.ordered.proofs.Search.{found_index}

-- the records below list `to` and in neither list, and those above it
abbrev pub lower : {R : Type 0} → (R → ℕ) → List R → ℕ → ℕ → List R
lower list xs from to = filter (λ x. not (nat_eq (list x) from) && nat_lt (list x) to) xs

abbrev pub higher : {R : Type 0} → (R → ℕ) → List R → ℕ → ℕ → List R
higher list xs from to = filter (λ x. not (nat_eq (list x) from) && nat_lt to (list x)) xs

-- the records of list `to`, and those that come to it
abbrev pub joining : {R : Type 0} → (R → ℕ) → (R → ℕ → R) → List R → ℕ → ℕ → List R
joining list moved xs from to = list_of list xs to ++ map (λ x. moved x to) (list_of list xs from)

-- a record that is found by a key is there
record_there : {R K : Type 0} (key : R → K) (below : K → K → Bool) (xs : List R) (k : K) (r : R) → record_of key below xs k ≡ Some r → Contains xs r
record_there key below [] k r e = cc
record_there key below (x ∷ xs) k r e =
    cond_both (same below (key x) k) (Some x) (record_of key below xs k) (λ o. o ≡ Some r → Contains (x ∷ xs) r)
    (λ _ is. let here : x ≡ r = cc in (0, omega arith, here)) (λ _ is. contains_later x r xs (record_there key below xs k r is)) e

module _ {R K : Type 0} (key : R → K) (below : K → K → Bool) {cmp : K → K → Ordering} (order : IsStrictPart below cmp) where
  -- in ascending records, what is found by its key is what is there
  stands : (xs : List R) (up : Ascending key (Holds below) xs) (r : R) → Contains xs r → Stands key below xs r
  stands xs up r c =
      let has = λ (d : R). ap key (get_or_default xs c.0 d r c.1 ∙ c.2) in
      (found key below xs (key r) c.0 (sym (found_index key below order.one xs (key r) c.0 c.1 has up))).entry r ∙ ap Some c.2

  -- records whose keys differ are still such in another order
  keys_differ : (xs ys : List R) → IsPermutation xs ys → AllPairs (λ x y. key x ≢ key y) xs → AllPairs (λ x y. key x ≢ key y) ys
  keys_differ xs ys moves apart i j d lt w =
      let decides : (a b : K) → Decides (same below a b) (a ≡ b) = λ a b. (equal_same below order.one a b, same_equal below order.one a b) in
      let flips : (a b : K) → same below a b ≡ same below b a = λ a b. grind arith in
      let before = IsDistinct-from_AllPairs decides (map key xs) (pairs_map (λ a b. a ≢ b) key xs apart) in
      let after = AllPairs-from_IsDistinct decides (map key ys) (IsDistinct-IsPermutation (same below) flips (map key xs) (map key ys) (IsPermutation-map key xs ys moves) before) in
      let differ = after i j (key d) lt (omega (arith, length-map ys key)) in
      λ e. differ (get_or-map key ys i d (key d) (omega arith) ∙ e ∙ sym (get_or-map key ys j d (key d) w))

  -- sorted records whose keys differ ascend
  ascends : IsTotalOrder cmp → (ys : List R) → IsSortedByKey key cmp ys → AllPairs (λ x y. key x ≢ key y) ys → Ascending key (Holds below) ys
  ascends total ys sorted differ i j d lt w =
      let x = get_or ys i d in
      let y = get_or ys j d in
      let later = sorted_far (λ x y. is_lt (cmp (key x) (key y))) (ranks_by total key) ys sorted i j d (omega arith) w in
      grind (arith, later, less_below below order (key y) (key x), order.one (key x) (key y), differ i j d lt w)

  module _ (total : IsTotalOrder cmp) (list : R → ℕ) (moved : R → ℕ → R) (listing : IsListing key below list moved) (xs : List R) (up : Ascending key (Holds below) xs) (from to : ℕ) where
    -- what list a has
    of_list : (a : ℕ) (r : R) → Contains (list_of list xs a) r → Contains xs r × (list r ≡ a)
    of_list a r c = let h = contains_filter (λ x. nat_eq (list x) a) xs r c in (h.0, grind (arith, nat_tests, h.1))

    list_has : (a : ℕ) (r : R) → Contains xs r → list r ≡ a → Contains (list_of list xs a) r
    list_has a r c e = filter_contains (λ x. nat_eq (list x) a) xs r c (grind (arith, nat_tests, e))

    abbrev Of : ℕ → R → Type 0
    Of a x = Stands key below xs x × (list x ≡ a)

    all_of : (a : ℕ) → All (Of a) (list_of list xs a)
    all_of a =
        let zs = list_of list xs a in
        All-weaker (Contains zs) (Of a) (λ x c. let h = of_list a x c in (stands xs up x h.0, h.1)) zs (All-contains_itself zs)

    -- nothing moves where both lists are one, or the first has no records
    pub same_list : from ≡ to → (r : R) → Stands key below xs r ↔ Joined key below list moved xs from to r
    same_list e r =
        let kept : (x : R) → list x ≡ from → x ≡ moved x to = λ x is. sym (ap (moved x) (sym (is ∙ e)) ∙ listing.stays x) in (
          λ s. ⊎_elim (λ is. inl (r, s, is, kept r is)) (λ other. inr (s, other)) (cases_eq (list r) from),
          λ j. ⊎_elim (λ h. let back : r ≡ h.0 = h.3 ∙ sym (kept h.0 h.2) in subst (Stands key below xs) (sym back) h.1) (λ h. h.0) j,
        )

    pub no_records : list_of list xs from ≡ [] → (r : R) → Stands key below xs r ↔ Joined key below list moved xs from to r
    no_records e r =
        let none : (x : R) → Stands key below xs x → list x ≡ from → ⊥ =
        λ x s is. let c = subst (λ zs. Contains zs x) e (list_has from x (record_there key below xs (key x) x s) is) in absurd (omega (arith, c.1)) in
        (λ s. inr (s, none r s), λ j. ⊎_elim (λ h. absurd (none h.0 h.1 h.2)) (λ h. h.0) j)

    abbrev lows : List R
    lows = lower list xs from to

    abbrev highs : List R
    highs = higher list xs from to

    abbrev there : List R
    there = list_of list xs to

    abbrev coming : List R
    coming = map (λ x. moved x to) (list_of list xs from)

    abbrev joiners : List R
    joiners = joining list moved xs from to

    abbrev Differ : R → R → Type 0
    Differ x y = key x ≢ key y

    module _ (js : List R) (moves : IsPermutation joiners js) (apart : Apart key below list moved xs from to) where
      differ : AllPairs Differ joiners
      differ =
          pairs_append Differ there coming
          (λ i j d lt w e. cc (not_itself below order.one _ _ e, ascending_filter key (Holds below) _ xs up i j d lt w))
          (pairs_map Differ (λ x. moved x to) leaving
          (λ i j d lt w e. still_below (get_or leaving i d) (get_or leaving j d) (all_of from i d (omega arith)) (all_of from j d w) (ascending_filter key (Holds below) _ xs up i j d lt w) e))
          (All-weaker (Of to) (λ x. All (Differ x) coming)
          (λ x h. All-map (Differ x) (λ x. moved x to) leaving (All-weaker (Of from) (λ y. Differ x (moved y to)) (λ y k e. apart y x k.0 h.0 k.1 h.1 (sym e)) leaving (all_of from))) there (all_of to))
        where
          leaving : List R
          leaving = list_of list xs from

          still_below : (x y : R) → Of from x → Of from y → Holds below (key x) (key y) → Differ (moved x to) (moved y to)
          still_below x y h k lt e = cc (not_itself below order.one _ _ e, listing.keeps x y to (h.1 ∙ sym k.1), lt)

      -- the others lie on either side of the list
      below_all : (l : ℕ) (zs ws : List R) → All (λ x. list x < l) zs → All (λ y. l ≤ list y) ws → All (λ x. All (λ y. Holds below (key x) (key y)) ws) zs
      below_all l zs ws under over =
          All-weaker (λ x. list x < l) (λ x. All (λ y. Holds below (key x) (key y)) ws)
          (λ x h. All-weaker (λ y. l ≤ list y) (λ y. Holds below (key x) (key y)) (λ y k. listing.runs x y (omega arith)) ws over) zs under

      all_lower : All (λ x. list x < to) lows
      all_lower = All-weaker (λ x. (not (nat_eq (list x) from) && nat_lt (list x) to) ≡ true) (λ x. list x < to) (λ x h. grind (arith, nat_tests, h)) lows (filter_passes _ xs)

      all_higher : All (λ x. suc to ≤ list x) highs
      all_higher = All-weaker (λ x. (not (nat_eq (list x) from) && nat_lt to (list x)) ≡ true) (λ x. suc to ≤ list x) (λ x h. grind (arith, nat_tests, h)) highs (filter_passes _ xs)

      all_joined : All (λ x. list x ≡ to) js
      all_joined =
          All-permutation (λ x. list x ≡ to) joiners js moves
          (All-append (λ x. list x ≡ to) there coming
          (All-weaker (Of to) (λ x. list x ≡ to) (λ x h. h.1) there (all_of to))
          (All-map (λ x. list x ≡ to) (λ x. moved x to) (list_of list xs from) (λ k d lt. listing.moves (get_or (list_of list xs from) k d) to)))

      pub joined_ascend : IsSortedByKey key cmp js → Ascending key (Holds below) (lows ++ (js ++ highs))
      joined_ascend sorted =
          let Up = λ (x y : R). Holds below (key x) (key y) in
          pairs_append Up lows (js ++ highs) (ascending_filter key (Holds below) _ xs up)
          (pairs_append Up js highs (ascends total js sorted (keys_differ joiners js moves differ)) (ascending_filter key (Holds below) _ xs up)
          (below_all (suc to) js highs (All-weaker (λ x. list x ≡ to) (λ x. list x < suc to) (λ x e. omega arith) js all_joined) all_higher))
          (below_all to lows (js ++ highs) all_lower
          (All-append (λ y. to ≤ list y) js highs (All-weaker (λ x. list x ≡ to) (λ x. to ≤ list x) (λ x e. omega arith) js all_joined)
          (All-weaker (λ x. suc to ≤ list x) (λ x. to ≤ list x) (λ x h. omega arith) highs all_higher)))

      pub joined_stand : from ≢ to → IsSortedByKey key cmp js → (r : R) → Stands key below (lows ++ (js ++ highs)) r ↔ Joined key below list moved xs from to r
      joined_stand ne sorted r =
          let ys = lows ++ (js ++ highs) in
          (λ s. from_there (record_there key below ys (key r) r s), λ j. stands ys (joined_ascend sorted) r (to_there j))
        where
          other : (p : R → Bool) → ((x : R) → p x ≡ true → list x ≢ from) → Contains (filter p xs) r → Joined key below list moved xs from to r
          other p apart c = let h = contains_filter p xs r c in inr (stands xs up r h.0, apart r h.1)

          joined : Contains joiners r → Joined key below list moved xs from to r
          joined c =
              ⊎_elim (other (λ x. nat_eq (list x) to) (λ x h e. grind (arith, nat_tests, h, e, ne)))
              (λ m. let h = contains_map (λ x. moved x to) (list_of list xs from) r m in
              let k = of_list from h.0 h.1 in
              inl (h.0, stands xs up h.0 k.0, k.1, h.2))
              (Contains-append_cases there coming r c)

          from_there : Contains (lows ++ (js ++ highs)) r → Joined key below list moved xs from to r
          from_there c =
              ⊎_elim (other _ (λ x h e. grind (arith, nat_tests, h, e)))
              (λ m. ⊎_elim (λ j. joined (Contains-permutation js joiners r (IsPermutation-sym joiners js moves) j)) (other _ (λ x h e. grind (arith, nat_tests, h, e))) (Contains-append_cases js highs r m))
              (Contains-append_cases lows (js ++ highs) r c)

          is_in : (x : R) → Stands key below xs x → Contains xs x
          is_in x s = record_there key below xs (key x) x s

          middle : Contains joiners r → Contains (lows ++ (js ++ highs)) r
          middle c = Contains-append_right lows (js ++ highs) r (Contains-append_left js highs r (Contains-permutation joiners js r moves c))

          among : Contains xs r → list r ≢ from → Contains (lows ++ (js ++ highs)) r
          among c off =
              ⊎_elim (λ is. middle (Contains-append_left there coming r (list_has to r c is)))
              (λ other. ⊎_elim (λ lt. Contains-append_left lows (js ++ highs) r (filter_contains _ xs r c (grind (arith, nat_tests, off, lt))))
              (λ le. Contains-append_right lows (js ++ highs) r (Contains-append_right js highs r (filter_contains _ xs r c (grind (arith, nat_tests, off, other, le)))))
              (cases_lt (list r) to)) (cases_eq (list r) to)

          to_there : Joined key below list moved xs from to r → Contains (lows ++ (js ++ highs)) r
          to_there =
              ⊎_elim
              (λ h. middle (Contains-append_right there coming r (subst (Contains coming) (sym h.3) (map_contains (λ x. moved x to) (list_of list xs from) h.0 (list_has from h.0 (is_in h.0 h.1) h.2)))))
              (λ h. among (is_in r h.0) h.1)
