-- What a filter keeps of records: in ascending records, and where those that pass come first. Assumes nothing.
use Rattle.std.proofs.Common.{◌≡◌, ℕ, zero, suc, ◌≤◌, Bool, true, false, not, ◌&&◌, List, [], ◌∷◌, ◌++◌, length, take, drop, refl, arith}
use Rattle.std.specs.List.{filter, AllByRecursion as All}
use Rattle.std.specs.List.Sorted.{IsPartitionedBy, IsPartitionPoint}
use Rattle.std.proofs.ByRecursion.{All-from_get_or}
use Rattle.std.proofs.lemmas.List.{take-append-drop}
use Rattle.std.proofs.lemmas.List.Kept.{AllPairs-filter}
use Rattle.ordered.specs.Tables.{Ascending}

pub ascending_filter : {R K : Type 0} (key : R → K) (below : K → K → Type 0) (p : R → Bool) (xs : List R) → Ascending key below xs → Ascending key below (filter p xs)
ascending_filter key below p xs up = AllPairs-filter (λ x y. below (key x) (key y)) p xs up

-- what passes q, and of that what passes p
pub filter_filter : {R : Type 0} (p q r : R → Bool) → ((x : R) → r x ≡ q x && p x) → (xs : List R) → filter p (filter q xs) ≡ filter r xs
filter_filter p q r both [] = refl
filter_filter p q r both (x ∷ xs) = grind (arith, both x, filter_filter p q r both xs)

-- fewer pass what is harder to pass
pub fewer_pass : {R : Type 0} (p q : R → Bool) → ((x : R) → p x ≡ true → q x ≡ true) → (xs : List R) → length (filter p xs) ≤ length (filter q xs)
fewer_pass p q harder [] = omega arith
fewer_pass p q harder (x ∷ xs) = grind (arith, harder x, fewer_pass p q harder xs)

module _ {R : Type 0} (p : R → Bool) where
  none_pass : (xs : List R) → All (λ x. p x ≡ false) xs → filter p xs ≡ []
  none_pass [] a = refl
  none_pass (x ∷ xs) a = grind (arith, a.0, none_pass xs a.1)

  after_none : (x : R) (xs : List R) → IsPartitionedBy p (x ∷ xs) → p x ≡ false → filter p xs ≡ []
  after_none x xs front fails = none_pass xs (All-from_get_or _ xs x (λ i lt. grind (arith, fails, front 0 (suc i) x (omega arith) (omega arith))))

  -- those that pass come first, and the others after them
  pub front_passes : (xs : List R) → IsPartitionedBy p xs → take (length (filter p xs)) xs ≡ filter p xs
  front_passes [] front = refl
  front_passes (x ∷ xs) front =
      grind (arith, after_none x xs front, front_passes xs (λ i j d le lt. front (suc i) (suc j) d (omega arith) (omega arith)))

  pub back_fails : (xs : List R) → IsPartitionedBy p xs → drop (length (filter p xs)) xs ≡ filter (λ x. not (p x)) xs
  back_fails [] front = refl
  back_fails (x ∷ xs) front =
      grind (arith, after_none x xs front, back_fails xs (λ i j d le lt. front (suc i) (suc j) d (omega arith) (omega arith)))

  pub front_and_back : (xs : List R) → IsPartitionedBy p xs → filter p xs ++ filter (λ x. not (p x)) xs ≡ xs
  front_and_back xs front = rw (← front_passes xs front, ← back_fails xs front) (take-append-drop (length (filter p xs)) xs)

  -- where the search for the first that fails ends
  pub point_counts : (xs : List R) (i : ℕ) → i ≤ length xs → IsPartitionPoint (λ x. p x ≡ true) (λ x. p x ≡ false) xs i → i ≡ length (filter p xs)
  point_counts [] i le parts = omega arith
  point_counts (x ∷ xs) zero le parts =
      grind (arith, parts.1 0 x (omega arith) (omega arith), point_counts xs zero (omega arith) (λ k d lo hi. absurd (omega arith), λ k d lo hi. parts.1 (suc k) d (omega arith) (omega arith)))
  point_counts (x ∷ xs) (suc i) le parts =
      grind (arith, parts.0 0 x (omega arith) (omega arith), point_counts xs i (omega arith) (λ k d lo hi. parts.0 (suc k) d (omega arith) (omega arith), λ k d lo hi. parts.1 (suc k) d (omega arith) (omega arith)))
