-- The lists of ascending records, each a run of them. Assumes nothing.
use Rattle.std.proofs.Common.{◌≡◌, ℕ, Bool, not, nat_le, nat_lt, nat_eq, List, length, get_or, take, drop, sym, ap, ◌∙◌, arith}
use Rattle.std.specs.List.{between, filter}
use Rattle.std.specs.List.Sorted.{IsNonDecreasingBy, IsPartitionedBy}
use Rattle.std.specs.declared.cmp.Ordering.{Ordering}
use Rattle.std.proofs.lemmas.Bool.{cases_eq, cases_lt}
use Rattle.std.proofs.lemmas.Bool.Decides.{nat_tests}
use Rattle.std.proofs.lemmas.List.Sorted.{IsPartitionedBy-leb, IsPartitionedBy-ltb}
use Rattle.std.proofs.lemmas.Slice.{between_is}
use Rattle.ordered.specs.Lists.{IsListing, list_of}
use Rattle.ordered.specs.Order.{Holds, IsStrictPart}
use Rattle.ordered.specs.Tables.{Ascending}
use Rattle.ordered.proofs.Filters.{ascending_filter, back_fails, filter_filter, front_passes}
use Rattle.ordered.proofs.Orders.{not_above}

module _ {R K : Type 0} (key : R → K) (below : K → K → Bool) {cmp : K → K → Ordering} (order : IsStrictPart below cmp) (list : R → ℕ) (moved : R → ℕ → R)
    (listing : IsListing key below list moved) where
  -- the number of the list does not fall
  rises : (xs : List R) → Ascending key (Holds below) xs → IsNonDecreasingBy list xs
  rises xs up i j d le lt =
      let x = get_or xs i d in
      let y = get_or xs j d in
      grind (arith, cases_eq i j, cases_lt (list y) (list x), up i j d, listing.runs y x, not_above below order.one (key x) (key y))

  module _ (xs : List R) (up : Ascending key (Holds below) xs) (l : ℕ) where
    pub lower_first : IsPartitionedBy (λ x. nat_lt (list x) l) xs
    lower_first = IsPartitionedBy-ltb list xs l (rises xs up)

    pub up_to_first : IsPartitionedBy (λ x. nat_le (list x) l) xs
    up_to_first = IsPartitionedBy-leb list xs l (rises xs up)

  -- a list is what stands between the lower ones and the higher ones
  pub run_is : (xs : List R) (l i j : ℕ) → i ≡ length (filter (λ x. nat_lt (list x) l) xs) → j ≡ length (filter (λ x. nat_le (list x) l) xs) → Ascending key (Holds below) xs
      → between i j xs ≡ list_of list xs l
  run_is xs l i j from to up =
      let lower = λ (x : R). nat_lt (list x) l in
      let up_to = λ (x : R). nat_le (list x) l in
      let zs = filter up_to xs in
      between_is xs i j ∙ ap (drop i) (ap (λ n. take n xs) to ∙ front_passes up_to xs (up_to_first xs up l))
      ∙ ap (λ n. drop n zs) (from ∙ ap length (sym (filter_filter lower up_to lower (λ x. grind (arith, nat_tests)) xs)))
      ∙ back_fails lower zs (lower_first zs (ascending_filter key (Holds below) up_to xs up) l)
      ∙ filter_filter (λ x. not (lower x)) up_to (λ x. nat_eq (list x) l) (λ x. grind (arith, nat_tests)) xs
