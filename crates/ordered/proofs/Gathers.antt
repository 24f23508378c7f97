-- The records of one list, moved to another and carried behind its records. Assumes nothing.
use Rattle.std.proofs.Common.{◌≡◌, ◌≢◌, ℕ, ◌+◌, ◌-◌, ◌<◌, ◌≤◌, max, Bool, true, false, not, ◌&&◌, nat_eq, nat_le, nat_lt, List, [], ◌∷◌, ◌++◌, length, take, drop, map, ⊎_elim, if◌then◌else◌, ◌↔◌, refl, sym, ap, ◌∙◌, subst, arith, length-append}
use Rattle.std.specs.Cmp.{IsTotalOrder}
use Rattle.std.specs.List.{between, filter}
use Rattle.std.specs.List.Sorted.{IsPermutation, IsSortedByKey}
use Rattle.std.specs.declared.cmp.Ordering.{Ordering}
use Rattle.std.proofs.lemmas.Bool.{cases_lt}
use Rattle.std.proofs.lemmas.Bool.Decides.{nat_tests}
use Rattle.std.proofs.lemmas.List.{append_assoc, drop_at, length-map, nil_from_length, take_at}
use Rattle.std.proofs.lemmas.List.Edits.{length-between}
use Rattle.std.proofs.lemmas.List.Sums.{count_by-le-length, length-filter}
use Rattle.std.proofs.lemmas.Slice.{between-put_mid, drop-put_mid, take-put_mid_below}
use borrow.Rule.Slice.PartMut.{mid_of, put_mid}
use Rattle.ordered.specs.Lists.{Apart, IsListing, Joined, Stands, list_of}
use Rattle.ordered.specs.Order.{Holds, IsStrictPart}
use Rattle.ordered.specs.Tables.{Ascending}
use Rattle.ordered.proofs.Filters.{ascending_filter, back_fails, fewer_pass, filter_filter, front_and_back, front_passes}
use Rattle.ordered.proofs.Joins.{higher, joined_ascend, joined_stand, joining, lower}
use Rattle.ordered.proofs.Runs.{lower_first, run_is, up_to_first}

-- a part with the lists before it and after it
part_between : {R : Type 0} (os bs cs ds : List R) (low many : ℕ) → low ≡ length os → many ≡ length bs + length cs
    → (mid_of low many ((os ++ bs) ++ (cs ++ ds)) ≡ bs ++ cs) × ((ys : List R) → put_mid low many ((os ++ bs) ++ (cs ++ ds)) ys ≡ os ++ (ys ++ ds))
part_between {R} os bs cs ds low many is_low is_many = (
  ap (take many) past ∙ take_at (bs ++ cs) ds many whole,
  λ ys. ap (λ zs. zs ++ (ys ++ drop many (drop low all))) (ap (take low) grouped ∙ take_at os ((bs ++ cs) ++ ds) low (sym is_low))
      ∙ ap (λ zs. os ++ (ys ++ zs)) (ap (drop many) past ∙ drop_at (bs ++ cs) ds many whole),
)
  where
    all : List R
    all = (os ++ bs) ++ (cs ++ ds)

    grouped : all ≡ os ++ ((bs ++ cs) ++ ds)
    grouped = append_assoc os bs (cs ++ ds) ∙ ap (λ zs. os ++ zs) (sym (append_assoc bs cs ds))

    past : drop low all ≡ (bs ++ cs) ++ ds
    past = ap (drop low) grouped ∙ drop_at os ((bs ++ cs) ++ ds) low (sym is_low)

    whole : length (bs ++ cs) ≡ many
    whole = length-append bs cs ∙ sym is_many

-- p passes what q and r pass, and nothing passes both of these
counted_apart : {R : Type 0} (p q r : R → Bool) → ((x : R) → (r x ≡ true → ⊥) → (p x ≡ q x)) → ((x : R) → r x ≡ true → (p x ≡ true) × (q x ≡ false)) → (xs : List R)
    → length (filter p xs) ≡ length (filter q xs) + length (filter r xs)
counted_apart p q r off on [] = omega arith
counted_apart p q r off on (x ∷ xs) = grind (arith, off x, on x, counted_apart p q r off on xs)

module _ {R K : Type 0} (key : R → K) (below : K → K → Bool) {cmp : K → K → Ordering} (order : IsStrictPart below cmp) (list : R → ℕ) (moved : R → ℕ → R)
    (listing : IsListing key below list moved) (xs : List R) (up : Ascending key (Holds below) xs) where
  -- where a list begins, and where it ends
  abbrev pub begins : ℕ → ℕ
  begins l = length (filter (λ x. nat_lt (list x) l) xs)

  abbrev pub ends : ℕ → ℕ
  ends l = length (filter (λ x. nat_le (list x) l) xs)

  pub many : (l : ℕ) → ends l ≡ begins l + length (list_of list xs l)
  many l = counted_apart _ _ _ (λ x off. grind (arith, nat_tests, off)) (λ x on. grind (arith, nat_tests, on)) xs

  -- a list has no records where it ends as it begins
  pub no_run : (l i j : ℕ) → i ≡ begins l → j ≡ ends l → (i ≡ j) ↔ (list_of list xs l ≡ [])
  no_run l i j is_begin is_end =
      (λ e. nil_from_length (list_of list xs l) (omega (arith, many l, is_begin, is_end)), λ none. omega (arith, many l, is_begin, is_end, ap length none))

  module _ (from to : ℕ) where
    -- the records of the other lists
    abbrev other : R → Bool
    other x = not (nat_eq (list x) from)

    abbrev others : List R
    others = filter other xs

    others_up : Ascending key (Holds below) others
    others_up = ascending_filter key (Holds below) other xs up

    others_are : take (begins from) xs ++ drop (ends from) xs ≡ others
    others_are =
        let before = λ (x : R). nat_lt (list x) from in
        let up_to = λ (x : R). nat_le (list x) from in
        ap (λ zs. zs ++ drop (ends from) xs) (front_passes before xs (lower_first key below order list moved listing xs up from) ∙ sym (filter_filter before other before (λ x. grind (arith, nat_tests)) xs))
        ∙ ap (λ zs. filter before others ++ zs)
        (back_fails up_to xs (up_to_first key below order list moved listing xs up from) ∙ sym (filter_filter (λ x. not (before x)) other (λ x. not (up_to x)) (λ x. grind (arith, nat_tests)) xs))
        ∙ front_and_back before others (lower_first key below order list moved listing others others_up from)

    abbrev front : List R
    front = filter (λ x. nat_le (list x) to) others

    -- those up to list `to` are the lower ones and those of that list
    front_is : from ≢ to → front ≡ lower list xs from to ++ list_of list xs to
    front_is ne =
        let before = λ (x : R). nat_lt (list x) to in
        let up_to = λ (x : R). nat_le (list x) to in
        let in_list = λ (x : R). nat_eq (list x) to in
        sym (front_and_back before front (lower_first key below order list moved listing front (ascending_filter key (Holds below) up_to others others_up) to))
        ∙ ap (λ zs. zs ++ filter (λ x. not (before x)) front) (filter_filter before up_to before (λ x. grind (arith, nat_tests)) others ∙ filter_filter before other _ (λ x. refl) xs)
        ∙ ap (λ zs. lower list xs from to ++ zs)
        (filter_filter (λ x. not (before x)) up_to in_list (λ x. grind (arith, nat_tests)) others ∙ filter_filter in_list other in_list (λ x. grind (arith, nat_tests, ne)) xs)

    front_first : take (length front) others ≡ front
    front_first = front_passes (λ x. nat_le (list x) to) others (up_to_first key below order list moved listing others others_up to)

    back_is : drop (length front) others ≡ higher list xs from to
    back_is =
        back_fails (λ x. nat_le (list x) to) others (up_to_first key below order list moved listing others others_up to)
        ∙ filter_filter (λ x. not (nat_le (list x) to)) other (λ x. other x && nat_lt to (list x)) (λ x. grind (arith, nat_tests)) xs

    -- where the list `to` ends among the others
    front_ends : from ≢ to → length front ≡ (if nat_le (ends to) (begins from) then ends to else max (ends to) (ends from) - (ends from - begins from))
    front_ends ne = ⊎_elim past before (cases_lt from to)
      where
        up_to : R → Bool
        up_to x = nat_le (list x) to

        past : from < to → length front ≡ (if nat_le (ends to) (begins from) then ends to else max (ends to) (ends from) - (ends from - begins from))
        past lt =
            let kept : length front ≡ length (filter (λ x. other x && up_to x) xs) = ap length (filter_filter up_to other _ (λ x. refl) xs) in
            let more : ends to ≡ length (filter (λ x. other x && up_to x) xs) + length (list_of list xs from) =
            counted_apart up_to (λ x. other x && up_to x) (λ x. nat_eq (list x) from) (λ x off. grind (arith, nat_tests, off)) (λ x on. grind (arith, nat_tests, on)) xs in
            let later : ends from ≤ ends to = fewer_pass (λ x. nat_le (list x) from) up_to (λ x. grind (arith, nat_tests)) xs in
            grind (arith, nat_tests, kept, more, later, many from)

        before : to ≤ from → length front ≡ (if nat_le (ends to) (begins from) then ends to else max (ends to) (ends from) - (ends from - begins from))
        before le =
            let kept : length front ≡ ends to = ap length (filter_filter up_to other up_to (λ x. grind (arith, nat_tests, ne)) xs) in
            let earlier : ends to ≤ begins from = fewer_pass up_to (λ x. nat_lt (list x) from) (λ x. grind (arith, nat_tests, ne)) xs in
            grind (arith, nat_tests, kept, earlier)

    -- what moving the records of list `from` leaves, carrying them behind those of list `to`, and sorting both
    module _ (ne : from ≢ to) (zs vs : List R) (first end home past at low : ℕ) (is_first : first ≡ begins from) (is_end : end ≡ ends from) (is_home : home ≡ begins to) (is_past : past ≡ ends to)
        (moves : zs ≡ put_mid first (end - first) xs (map (λ x. moved x to) (between first end xs)))
        (place : at ≡ (if nat_le past first then past else max past end - (end - first)))
        (carries : let rest = take first zs ++ drop end zs in vs ≡ take at rest ++ (between first end zs ++ drop at rest))
        (lowest : low ≡ at - (past - home)) where
      abbrev coming : List R
      coming = map (λ x. moved x to) (list_of list xs from)

      within : end ≤ length xs
      within = omega (arith, is_end, length-filter (λ x. nat_le (list x) from) xs, count_by-le-length (λ x. nat_le (list x) from) xs)

      run_many : end ≡ first + length (list_of list xs from)
      run_many = omega (arith, is_first, is_end, many from)

      in_order : first ≤ end
      in_order = omega (arith, run_many)

      inside : first ≤ length xs
      inside = omega (arith, in_order, within)

      abbrev changed : List R
      changed = map (λ x. moved x to) (between first end xs)

      same_many : length changed ≡ end - first
      same_many = length-map (between first end xs) _ ∙ length-between xs first end within

      rest_is : take first zs ++ drop end zs ≡ others
      rest_is =
          ap (λ ws. take first ws ++ drop end ws) moves
          ∙ ap (λ ws. ws ++ drop end (put_mid first (end - first) xs changed)) (take-put_mid_below first (end - first) xs changed first (omega arith) inside ∙ ap (λ n. take n xs) is_first)
          ∙ ap (λ ws. take (begins from) xs ++ ws) (drop-put_mid first (end - first) xs changed end (omega (arith, in_order)) inside same_many ∙ ap (λ n. drop n xs) is_end)
          ∙ others_are

      run_moved : between first end zs ≡ coming
      run_moved =
          ap (between first end) moves ∙ between-put_mid first (end - first) xs changed end inside same_many
          ∙ ap (map (λ x. moved x to)) (run_is key below order list moved listing xs from first end is_first is_end up)

      place_is : at ≡ length front
      place_is = let there = rw (is_past, is_end, is_first) at place in there ∙ sym (front_ends ne)

      gathered : vs ≡ (lower list xs from to ++ list_of list xs to) ++ (coming ++ higher list xs from to)
      gathered =
          carries ∙ ap (λ ws. take at ws ++ (between first end zs ++ drop at ws)) rest_is ∙ ap (λ ws. take at others ++ (ws ++ drop at others)) run_moved
          ∙ ap (λ n. take n others ++ (coming ++ drop n others)) place_is ∙ ap (λ ws. ws ++ (coming ++ drop (length front) others)) (front_first ∙ front_is ne)
          ∙ ap (λ ws. (lower list xs from to ++ list_of list xs to) ++ (coming ++ ws)) back_is

      front_many : length front ≡ length (lower list xs from to) + length (list_of list xs to)
      front_many = ap length (front_is ne) ∙ length-append (lower list xs from to) (list_of list xs to)

      lowest_is : low ≡ length (lower list xs from to)
      lowest_is = omega (arith, lowest, place_is, front_many, is_home, is_past, many to)

      part_many : at + (end - first) - low ≡ length (list_of list xs to) + length coming
      part_many = omega (arith, lowest_is, place_is, front_many, run_many, length-map (list_of list xs from) (λ x. moved x to))

      pub part_is : mid_of low (at + (end - first) - low) vs ≡ joining list moved xs from to
      part_is =
          ap (mid_of low (at + (end - first) - low)) gathered
          ∙ (part_between (lower list xs from to) (list_of list xs to) coming (higher list xs from to) low (at + (end - first) - low) lowest_is part_many).0

      pub whole_is : (js : List R) → put_mid low (at + (end - first) - low) vs js ≡ lower list xs from to ++ (js ++ higher list xs from to)
      whole_is js =
          ap (λ ws. put_mid low (at + (end - first) - low) ws js) gathered
          ∙ (part_between (lower list xs from to) (list_of list xs to) coming (higher list xs from to) low (at + (end - first) - low) lowest_is part_many).1 js

      -- and so they stand once that part is sorted
      module _ (total : IsTotalOrder cmp) (js : List R) (moves_only : IsPermutation (mid_of low (at + (end - first) - low) vs) js) (sorted : IsSortedByKey key cmp js)
          (apart : Apart key below list moved xs from to) where
        joins : IsPermutation (joining list moved xs from to) js
        joins = subst (λ ws. IsPermutation ws js) part_is moves_only

        pub ascend_after : Ascending key (Holds below) (put_mid low (at + (end - first) - low) vs js)
        ascend_after = subst (Ascending key (Holds below)) (sym (whole_is js)) (joined_ascend key below order total list moved listing xs up from to js joins apart sorted)

        pub stand_after : (r : R) → Stands key below (put_mid low (at + (end - first) - low) vs js) r ↔ Joined key below list moved xs from to r
        stand_after r = subst (λ ys. Stands key below ys r ↔ Joined key below list moved xs from to r) (sym (whole_is js)) (joined_stand key below order total list moved listing xs up from to js joins apart ne sorted r)
