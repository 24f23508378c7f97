-- What a call that changes a table leaves, from where its key was found. Assumes nothing.
use Rattle.std.proofs.Common.{◌≡◌, ℕ, Bool, true, false, cond, List, get_or, set, is_some, Some, None, Option, sym, ap, ◌∙◌, subst}
use Rattle.std.specs.List.{insert, remove}
use Rattle.std.specs.declared.cmp.Ordering.{Ordering}
use Rattle.ordered.specs.Order.{Holds, IsStrictPart}
use Rattle.ordered.specs.Tables.{Ascending, Alone, index_of, rank_of, record_of, with_record, without_key, replaced}
use Rattle.ordered.proofs.Edits.{with_at_rank, ascending_with, ascending_without, ascending_replaced, alone_with, alone_without, alone_replaced}
use Rattle.ordered.proofs.Lookups.{found, missing}

module _ {R K : Type 0} (key : R → K) (below : K → K → Bool) (xs : List R) (k : K) where
  -- the record at the index that was found
  pub looked_up : {i : ℕ} {r : R} → Some i ≡ index_of key below xs k → ((d : R) → r ≡ get_or xs i d) → Some r ≡ record_of key below xs k
  looked_up {i} {r} at read = ap Some (read r) ∙ sym ((found key below xs k i (sym at)).entry r)

  -- and where none was
  pub not_there : {o : Option R} → None ≡ index_of key below xs k → o ≡ None → o ≡ record_of key below xs k
  not_there off e = e ∙ sym (missing key below xs k (sym off)).entry

module _ {R K : Type 0} (key : R → K) (below : K → K → Bool) {cmp : K → K → Ordering} (order : IsStrictPart below cmp) (xs ys : List R) (up : Ascending key (Holds below) xs) where
  -- xs became ys, which is zs, and only key k finds another record
  pub record Changed (zs : List R) (k : K) (w : Option R) : Type 0 where
    pub items : ys ≡ zs
    pub ascending : Ascending key (Holds below) ys
    pub alone : Alone key below xs ys k w

  changed : (zs : List R) (k : K) (w : Option R) → ys ≡ zs → Ascending key (Holds below) zs → Alone key below xs zs k w → Changed zs k w
  changed zs k w e a l = record { items = e; ascending = subst (Ascending key (Holds below)) (sym e) a; alone = subst (λ vs. Alone key below xs vs k w) (sym e) l }

  -- r was put in where its key belongs
  pub put_in : {i : ℕ} {k : K} (r : R) → k ≡ key r → None ≡ index_of key below xs k → i ≡ rank_of key below xs k → ys ≡ insert xs i r → Changed (with_record key below xs r) (key r) (Some r)
  put_in r is off rank e =
      let absent = sym (off ∙ ap (index_of key below xs) is) in
      changed _ _ _ (e ∙ ap (λ n. insert xs n r) (rank ∙ ap (rank_of key below xs) is) ∙ with_at_rank key below order.one order.chain xs r up)
      (ascending_with key below order.one order.chain xs r absent up) (alone_with key below order.one order.chain xs r absent)

  -- the record with key k was taken out, if any
  taken : (k : K) → ys ≡ without_key key below xs k → Changed (without_key key below xs k) k None
  taken k e = changed _ _ _ e (ascending_without key below order.one order.chain xs k up) (alone_without key below order.one order.chain xs k up)

  pub taken_out : {i : ℕ} (k : K) → Some i ≡ index_of key below xs k → ys ≡ remove xs i → Changed (without_key key below xs k) k None
  taken_out {i} k at e = taken k (e ∙ sym (found key below xs k i (sym at)).less)

  pub none_taken : (k : K) → None ≡ index_of key below xs k → ys ≡ xs → Changed (without_key key below xs k) k None
  none_taken k off e = taken k (e ∙ sym (missing key below xs k (sym off)).less)

  -- r was put in the place of the record with its key, if any
  swapped : (r : R) (b : Bool) → b ≡ is_some (index_of key below xs (key r)) → ys ≡ replaced key below xs r → Changed (replaced key below xs r) (key r) (cond b (Some r) None)
  swapped r b there e =
      changed _ _ _ e (ascending_replaced key below order.one order.chain xs r up)
      (subst (λ v. Alone key below xs (replaced key below xs r) (key r) (cond v (Some r) None)) (sym there) (alone_replaced key below order.one order.chain xs r))

  pub put_over : {i : ℕ} {k : K} (r : R) → k ≡ key r → Some i ≡ index_of key below xs k → ys ≡ set xs i r → Changed (replaced key below xs r) (key r) (Some r)
  put_over {i} {k} r is at e = swapped r true (ap is_some (at ∙ ap (index_of key below xs) is)) (e ∙ sym ((found key below xs k i (sym at)).over r (sym is)))

  pub none_over : {k : K} (r : R) → k ≡ key r → None ≡ index_of key below xs k → ys ≡ xs → Changed (replaced key below xs r) (key r) None
  none_over {k} r is off e = swapped r false (ap is_some (off ∙ ap (index_of key below xs) is)) (e ∙ sym ((missing key below xs k (sym off)).over r (sym is)))
