-- The part of the dead table that is a bucket.
--     bucket_part    the records between the two keys are the bucket
--     no_bucket      where the count of ancestors is no more than its number, there is no such bucket
--     bound_found    where it is more, the ancestor that bounds the bucket is found
use Rattle.std.proofs.Common.{◌≡◌, ℕ, ◌+◌, ◌-◌, ◌^◌, ◌<◌, ◌≤◌, Bool, true, suc, drop, min, ◌&&◌, ◌==◌, nat_le, nat_lt, ◌↔◌, List, [], ◌∷◌, length, get_or, Some, Option, filter, sym, refl, ap, ap₂, ◌∙◌, subst, arith, length-take, length-drop}
use Rattle.std.specs.List.{between}
use Rattle.std.proofs.lemmas.Bool.Decides.{nat_tests}
use Rattle.std.proofs.lemmas.List.Elements.{filter_agree}
use Rattle.std.proofs.lemmas.List.Sums.{count_by-le-length, length-filter}
use Rattle.ordered.specs.Lists.{Stands}
use Rattle.ordered.specs.Tables.{part_of, rank_of}
use Rattle.records.specs.Keys.{dead_key, dead_below}
use Rattle.records.specs.declared.dead.DeadRecord.{DeadRecord}
use Rattle.records.specs.declared.rows.Row.{Row}
use Rattle.model.specs.Buckets.{BucketIs, InBucket, bucket_key, lower}
use Rattle.model.specs.Datasets.{State, Dataset, kind_stamp, row_stamp, stamp}
use Rattle.model.specs.Families.{Ancestors}
use Rattle.model.specs.Soundness.{Sound}
use Rattle.model.proofs.Buckets.{bucket_row, in_bucket, one_line, small_key}
use Rattle.model.proofs.Rows.{row_of, row_number, same_row}
use Rattle.pool.proofs.Lists.{found_kept}
use Rattle.pool.proofs.Youngs.{young_first}

-- the lowest record of dataset n born after the stamp t
abbrev after_stamp : ℕ → ℕ → DeadRecord
after_stamp n t = record { dataset = n; birth = t + 1; block = 0 }

-- the test whether a record of n was born after the stamp a and not after b
abbrev born_between : ℕ → ℕ → ℕ → DeadRecord → Bool
born_between n a b x = x.dataset == n && (nat_lt a x.birth && nat_le x.birth b)

-- from the one to the other stand the records that pass
part_test : (n a b : ℕ) (xs : List DeadRecord) → part_of dead_key dead_below xs (after_stamp n a) (after_stamp n b) ≡ filter (born_between n a b) xs
part_test n a b = filter_agree _ _ (λ x. grind (arith, nat_tests))

-- and before the one those that are lower than the bucket
rank_test : (s : State) (n : ℕ) (ms : List ℕ) (k : ℕ) (xs : List DeadRecord) → rank_of dead_key dead_below xs (after_stamp n (bucket_key s ms k)) ≡ length (filter (lower s n ms k) xs)
rank_test s n ms k [] = refl
rank_test s n ms k (x ∷ xs) = grind (arith, nat_tests, rank_test s n ms k xs)

-- what the test tells
tells : (n a b : ℕ) (x : DeadRecord) → (born_between n a b x ≡ true) ↔ ((x.dataset ≡ n) × (a < x.birth) × (x.birth ≤ b))
tells n a b x = (λ passes. (grind (arith, nat_tests), grind (arith, nat_tests), grind (arith, nat_tests)), λ (of, above, under). grind (arith, nat_tests))

-- a cut that is as long as it says ends inside
cut_within : {A : Type 0} (xs ys : List A) (i : ℕ) → i ≤ length xs → ys ≡ between i (i + length ys) xs → i + length ys ≤ length xs
cut_within xs ys i start cut = omega (arith, ap length cut, length-take (i + length ys - i) (drop i xs), length-drop i xs)

-- a bucket between two of the keys, of which the row x of an ancestor has one and its previous the other
module _ (s : State) (n k : ℕ) (ms : List ℕ) (x : Row) (sound : Sound s) (line : Ancestors s n ms) (within : k < length ms) (found : Some x ≡ row_of s.rows (get_or ms k 0)) where
  lower_key : stamp s x.previous ≡ bucket_key s ms k
  lower_key =
      let (y, there, e) = bucket_row s line k within in
      ap (λ (z : Row). stamp s z.previous) (same_row s.rows (get_or ms k 0) x y (sym found) there) ∙ e

  upper_key : kind_stamp s.group x.kind ≡ bucket_key s ms (suc k)
  upper_key = ap (row_stamp s.group) found

  -- a birth after a key fits
  starts : (j t : ℕ) → j ≤ length ms → t ≡ bucket_key s ms j → young_first n t ≡ after_stamp n (bucket_key s ms j)
  starts j t le is =
      let fits : min (t + 1) (2 ^ 32 - 1) ≡ bucket_key s ms j + 1 = omega (arith, small_key s sound n ms line j le, sound.shape.group) in
      ap (λ (b : ℕ). record { dataset = n; birth = b; block = 0 }) fits

  -- the records between the two ends are the bucket
  pub bucket_part : (low high place : ℕ) (first end : DeadRecord) (part : List DeadRecord) → low ≡ stamp s x.previous → high ≡ kind_stamp s.group x.kind
      → first ≡ young_first n low → end ≡ young_first n high → part ≡ between place (place + length part) s.dead → part ≡ part_of dead_key dead_below s.dead first end → place ≡ rank_of dead_key dead_below s.dead first
      → BucketIs s n k place (length part)
  bucket_part low high place first end part is_low is_high is_first is_end cut is rank = record {
    ancestors = ms;
    are = line;
    within = cut_within s.dead part place (omega (arith, before, length-filter (lower s n ms k) s.dead, count_by-le-length (lower s n ms k) s.dead)) cut;
    holds = holds;
    before = before;
  }
    where
      begins : first ≡ after_stamp n (bucket_key s ms k)
      begins = is_first ∙ starts k low (omega arith) (is_low ∙ lower_key)

      ends : end ≡ after_stamp n (bucket_key s ms (suc k))
      ends = is_end ∙ starts (suc k) high (omega arith) (is_high ∙ upper_key)

      before : place ≡ length (filter (lower s n ms k) s.dead)
      before = rank ∙ ap (rank_of dead_key dead_below s.dead) begins ∙ rank_test s n ms k s.dead

      passing : between place (place + length part) s.dead ≡ filter (born_between n (bucket_key s ms k) (bucket_key s ms (suc k))) s.dead
      passing = sym cut ∙ is ∙ ap₂ (part_of dead_key dead_below s.dead) begins ends ∙ part_test n _ _ s.dead

      holds : (y : DeadRecord) → Stands dead_key dead_below (between place (place + length part) s.dead) y ↔ (Stands dead_key dead_below s.dead y × InBucket s n ms k y)
      holds y =
          let stand = found_kept (born_between n (bucket_key s ms k) (bucket_key s ms (suc k))) s.dead y in
          let test = tells n (bucket_key s ms k) (bucket_key s ms (suc k)) y in (
            λ here.
                let (stands, passes) = stand.0 (subst (λ (ys : List DeadRecord). Stands dead_key dead_below ys y) passing here) in
                let (of, above, under) = test.0 passes in
                (stands, (in_bucket s sound n ms line y stands of k within).1 (above, under)),
            λ (stands, inside).
                let (above, under) = (in_bucket s sound n ms line y stands inside.0 k within).0 inside in
                subst (λ (ys : List DeadRecord). Stands dead_key dead_below ys y) (sym passing) (stand.1 (stands, test.1 (inside.0, above, under))),
          )

-- what is known of dataset n, with the row r, once its ancestors are counted
module _ (s : State) (n count k : ℕ) (r : Row) (sound : Sound s) (found : Dataset s n r)
    (counted : Sound s → Dataset s r.number r → (ms : List ℕ) × Ancestors s r.number ms × (count ≡ length ms)) where
  own : Dataset s r.number r
  own = subst (λ (j : ℕ). Dataset s j r) (sym (row_number s.rows n r found)) found

  line : (ms : List ℕ) × Ancestors s n ms × (count ≡ length ms)
  line =
      let (ms, above, e) = counted sound own in
      (ms, subst (λ (j : ℕ). Ancestors s j ms) (row_number s.rows n r found) above, e)

  -- there is no such bucket
  pub no_bucket : (k < count → ⊥) → (ms : List ℕ) × Ancestors s n ms × (k < length ms) → ⊥
  no_bucket none (ms, above, lt) =
      let (ks, counts, e) = line in
      none (omega (arith, ap length (one_line above counts), e))

  -- there is, and the ancestor that bounds it is found
  pub bound_found : k < count → (o : Option Row)
      → ((ms : List ℕ) → Sound s → Dataset s r.number r → Ancestors s r.number ms → 1 ≤ count - k → count - k ≤ length ms → o ≡ row_of s.rows (get_or ms (length ms - (count - k)) 0))
      → (ms : List ℕ) × (x : Row) × Ancestors s n ms × (k < length ms) × (o ≡ Some x) × (row_of s.rows (get_or ms k 0) ≡ Some x)
  bound_found lt o finds =
      let (ms, above, e) = counted sound own in
      let (x, there, _) = bucket_row s above k (omega (arith, e)) in
      let at : length ms - (count - k) ≡ k = omega (arith, e) in
      let is = finds ms sound own above (omega arith) (omega (arith, e)) ∙ ap (λ (j : ℕ). row_of s.rows (get_or ms j 0)) at in
      (ms, x, subst (λ (j : ℕ). Ancestors s j ms) (row_number s.rows n r found) above, omega (arith, e), is ∙ there, there)
