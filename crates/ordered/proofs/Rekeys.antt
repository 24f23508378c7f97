-- A record put in the place of one with another key: the keys of its neighbours say that the order is kept. Assumes nothing.
use Rattle.std.proofs.Common.{◌≡◌, ℕ, zero, suc, ◌+◌, ◌-◌, ◌<◌, ◌≤◌, Bool, true, List, [], ◌∷◌, length, get_or, set, Some, sym, refl, ap, ◌∙◌, subst, arith}
use Rattle.std.specs.List.{insert, remove}
use Rattle.std.proofs.lemmas.List.Edits.{length-remove, get_or-remove_below, get_or-remove_above}
use Rattle.std.proofs.lemmas.Bool.Decides.{nat_tests}
use Rattle.std.proofs.lemmas.Bool.{cases_eq}
use Rattle.std.specs.declared.cmp.Ordering.{Ordering}
use Rattle.ordered.specs.Order.{Holds, IsStrictPart}
use Rattle.ordered.specs.Tables.{Ascending, index_of, with_record, without_key, fits_at}
use Rattle.ordered.proofs.Calls.{put_in}
use Rattle.ordered.proofs.Edits.{ascending_without}
use Rattle.ordered.proofs.Lookups.{found}
use Rattle.ordered.proofs.Search.{Parted, missed_index, missed_rank}

-- an exchange, as a step out and a step in
pub set_inserted : {R : Type 0} (xs : List R) (i : ℕ) (r : R) → i < length xs → set xs i r ≡ insert (remove xs i) i r
set_inserted [] i r lt = absurd (omega arith)
set_inserted (x ∷ xs) zero r lt = refl
set_inserted (x ∷ xs) (suc i) r lt = ap (λ ys. x ∷ ys) (set_inserted xs i r (omega arith))

module _ {R K : Type 0} (key : R → K) (below : K → K → Bool) {cmp : K → K → Ordering} (order : IsStrictPart below cmp) (xs : List R) (up : Ascending key (Holds below) xs) (k : K) (new : R) (i : ℕ)
    (at : Some i ≡ index_of key below xs k) (within : i < length xs) {q : K} (is : q ≡ key new) (told : (d : R) → true ≡ fits_at key below xs d q i) where
  fits : (d : R) → fits_at key below xs d (key new) i ≡ true
  fits d = ap (λ q. fits_at key below xs d q i) (sym is) ∙ sym (told d)

  before : (j : ℕ) (d : R) → j < i → Holds below (key (get_or xs j d)) (key new)
  before j d lt = grind (arith, nat_tests, fits d, cases_eq j (i - 1), up j (i - 1) d, order.chain (key (get_or xs j d)) (key (get_or xs (i - 1) d)) (key new))

  behind : (j : ℕ) (d : R) → i < j → j < length xs → Holds below (key new) (key (get_or xs j d))
  behind j d gt lt = grind (arith, nat_tests, fits d, cases_eq (i + 1) j, up (i + 1) j d, order.chain (key new) (key (get_or xs (i + 1) d)) (key (get_or xs j d)))

  long : length (remove xs i) + 1 ≡ length xs
  long = length-remove xs i within

  -- the others, by the new key
  parted : Parted key below (remove xs i) (key new) i
  parted = (
    λ j d lt. subst (λ x. Holds below (key x) (key new)) (sym (get_or-remove_below xs i d j lt within)) (before j d lt),
    λ j d le lt. subst (λ x. Holds below (key new) (key x)) (sym (get_or-remove_above xs i d j le within)) (behind (j + 1) d (omega arith) (omega (arith, long))),
  )

  less : without_key key below xs k ≡ remove xs i
  less = (found key below xs k i (sym at)).less

  pub rekeyed : (ys : List R) → ys ≡ set xs i new → (ys ≡ with_record key below (without_key key below xs k) new) × Ascending key (Holds below) ys
  rekeyed ys e =
      let le : i ≤ length (remove xs i) = omega (arith, long) in
      let rest = subst (Ascending key (Holds below)) less (ascending_without key below order.one order.chain xs k up) in
      let c = put_in key below order (remove xs i) ys rest new refl (missed_index key below order.one (remove xs i) (key new) i le parted)
      (missed_rank key below order.one (remove xs i) (key new) i le parted) (e ∙ set_inserted xs i new within) in
      (c.items ∙ ap (λ vs. with_record key below vs new) (sym less), c.ascending)
