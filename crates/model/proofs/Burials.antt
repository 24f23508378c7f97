-- Dead records that join a table one after another: what is found then, and in which order the records stand.
use Rattle.std.proofs.Common.{◌≡◌, ℕ, ◌+◌, Bool, true, false, ◌⊎◌, List, [], ◌∷◌, length, Some, None, sym, refl, ap, ◌∙◌, subst, inl, inr, arith, rules}
use Rattle.std.proofs.lemmas.Bool.{cases_Bool, cond-true, cond-false}
use Rattle.std.proofs.lemmas.Bool.Decides.{nat_tests}
use Rattle.ordered.specs.Order.{ExactlyOne, Holds}
use Rattle.ordered.specs.Tables.{Ascending, same, record_of, with_record}
use Rattle.ordered.proofs.Additions.{no_index_of, length_with}
use Rattle.ordered.proofs.Edits.{ascending_with, alone_with}
use Rattle.ordered.proofs.Orders.{same_equal, equal_same}
use Rattle.records.specs.Keys.{dead_key, dead_below}
use Rattle.records.specs.declared.dead.DeadRecord.{DeadRecord}
use Rattle.records.specs.declared.rows.Pointer.{Pointer}
use Rattle.model.specs.Datasets.{dead_of}
use Rattle.model.specs.Steps.{buried}
use Rattle.model.proofs.Members.{In, Distinct}

-- what is found has the key
module _ {R K : Type 0} (key : R → K) (below : K → K → Bool) (one : (a b : K) → ExactlyOne (Holds below a b) (a ≡ b) (Holds below b a)) where
  pub found_key : (xs : List R) (k : K) (x : R) → record_of key below xs k ≡ Some x → key x ≡ k
  found_key [] k x e = absurd (let z : ◌≡◌ {A = ℕ} 0 1 = cc in omega arith)
  found_key (y ∷ ys) k x e = go (found_key ys k x) (cases_Bool (same below (key y) k))
    where
      go : (record_of key below ys k ≡ Some x → key x ≡ k) → (same below (key y) k ≡ true) ⊎ (same below (key y) k ≡ false) → key x ≡ k
      go later (inl here) = let is : Some y ≡ Some x = sym (cond-true _ _ _ here) ∙ e in let same : y ≡ x = cc in ap key (sym same) ∙ equal_same below one (key y) k here
      go later (inr past) = later (sym (cond-false _ _ _ past) ∙ e)

-- what a key finds beside one more record r, whose key found none
module _ {R K : Type 0} (key : R → K) (below : K → K → Bool) (one : (a b : K) → ExactlyOne (Holds below a b) (a ≡ b) (Holds below b a))
    (chain : (a b c : K) → Holds below a b → Holds below b c → Holds below a c) (xs : List R) (r : R) (absent : record_of key below xs (key r) ≡ None) where
  -- its own key finds r
  with_here : (k : K) → key r ≡ k → record_of key below (with_record key below xs r) k ≡ Some r
  with_here k e = alone_with key below one chain xs r (no_index_of key below xs (key r) absent) k ∙ cond-true _ _ _ (same_equal below one (key r) k e)

  -- another key finds what it found
  with_past : (k : K) → same below (key r) k ≡ false → record_of key below (with_record key below xs r) k ≡ record_of key below xs k
  with_past k e = alone_with key below one chain xs r (no_index_of key below xs (key r) absent) k ∙ cond-false _ _ _ e

  -- what is found is r, or was found
  pub with_found : (k : K) (x : R) → record_of key below (with_record key below xs r) k ≡ Some x → (x ≡ r) ⊎ (record_of key below xs k ≡ Some x)
  with_found k x found = go (cases_Bool (same below (key r) k))
    where
      go : (same below (key r) k ≡ true) ⊎ (same below (key r) k ≡ false) → (x ≡ r) ⊎ (record_of key below xs k ≡ Some x)
      go (inl here) = let is : Some x ≡ Some r = sym found ∙ with_here k (equal_same below one (key r) k here) in inl (cc)
      go (inr past) = inr (sym (with_past k past) ∙ found)

  -- what was found is found
  pub with_old : (k : K) (x : R) → record_of key below xs k ≡ Some x → record_of key below (with_record key below xs r) k ≡ Some x
  with_old k x found = go (cases_Bool (same below (key r) k))
    where
      go : (same below (key r) k ≡ true) ⊎ (same below (key r) k ≡ false) → record_of key below (with_record key below xs r) k ≡ Some x
      go (inl here) =
          let none : record_of key below xs k ≡ None = subst (λ (j : K). record_of key below xs j ≡ None) (equal_same below one (key r) k here) absent in
          let z : ◌≡◌ {A = ℕ} 0 1 = cc in absurd (omega arith)
      go (inr past) = with_past k past ∙ found

  -- another key that found none finds none
  pub with_none : (k : K) → (key r ≡ k → ⊥) → record_of key below xs k ≡ None → record_of key below (with_record key below xs r) k ≡ None
  with_none k apart none = go (cases_Bool (same below (key r) k))
    where
      go : (same below (key r) k ≡ true) ⊎ (same below (key r) k ≡ false) → record_of key below (with_record key below xs r) k ≡ None
      go (inl here) = absurd (apart (equal_same below one (key r) k here))
      go (inr past) = with_past k past ∙ none

-- the order of dead records is total
pub dead_one : (a b : DeadRecord) → ExactlyOne (Holds dead_below a b) (a ≡ b) (Holds dead_below b a)
dead_one a b = search rules

-- and transitive
pub dead_chain : (a b c : DeadRecord) → Holds dead_below a b → Holds dead_below b c → Holds dead_below a c
dead_chain a b c p q = grind (arith, nat_tests)

-- the record of another block is another record
apart_keys : (n : ℕ) (q x : Pointer) → (q.block ≡ x.block → ⊥) → dead_key (dead_of n q) ≡ dead_key (dead_of n x) → ⊥
apart_keys n q x apart e = apart (ap (λ (k : DeadRecord). k.block) e)

-- no pointer of the list has a record for n
abbrev pub Absent : ℕ → List DeadRecord → List Pointer → Type 0
Absent n dead qs = (q : Pointer) → In q qs → record_of dead_key dead_below dead (dead_key (dead_of n q)) ≡ None

-- the others have none either once the first has one
absent_rest : (n : ℕ) (dead : List DeadRecord) (q : Pointer) (qs : List Pointer) → Absent n dead (q ∷ qs) → Distinct (q ∷ qs)
    → Absent n (with_record dead_key dead_below dead (dead_of n q)) qs
absent_rest n dead q qs absent (apart, _) x i =
    with_none dead_key dead_below dead_one dead_chain dead (dead_of n q) (absent q (inl refl)) (dead_key (dead_of n x)) (apart_keys n q x (apart x i)) (absent x (inr i))

-- one record for each pointer
pub buried_length : (n : ℕ) (dead : List DeadRecord) (qs : List Pointer) → length (buried n dead qs) ≡ length dead + length qs
unfolding buried
buried_length n dead [] = omega arith
buried_length n dead (q ∷ qs) =
    let here = length_with dead_key dead_below dead (dead_of n q) in
    let rest = buried_length n (with_record dead_key dead_below dead (dead_of n q)) qs in
    omega arith

-- the records stay in order
pub buried_ascending : (n : ℕ) (dead : List DeadRecord) (qs : List Pointer) → Absent n dead qs → Distinct qs
    → Ascending dead_key (Holds dead_below) dead → Ascending dead_key (Holds dead_below) (buried n dead qs)
unfolding buried
buried_ascending n dead [] absent distinct up = up
buried_ascending n dead (q ∷ qs) absent distinct up =
    buried_ascending n (with_record dead_key dead_below dead (dead_of n q)) qs (absent_rest n dead q qs absent distinct) distinct.1
    (ascending_with dead_key dead_below dead_one dead_chain dead (dead_of n q) (no_index_of dead_key dead_below dead (dead_key (dead_of n q)) (absent q (inl refl))) up)

-- what is found was found before, or is new
pub buried_found : (n : ℕ) (dead : List DeadRecord) (qs : List Pointer) → Absent n dead qs → Distinct qs
    → (k : DeadRecord) (x : DeadRecord) → record_of dead_key dead_below (buried n dead qs) k ≡ Some x
    → (record_of dead_key dead_below dead k ≡ Some x) ⊎ ((q : Pointer) × In q qs × (x ≡ dead_of n q))
unfolding buried
buried_found n dead [] absent distinct k x found = inl found
buried_found n dead (q ∷ qs) absent distinct k x found =
    go (buried_found n (with_record dead_key dead_below dead (dead_of n q)) qs (absent_rest n dead q qs absent distinct) distinct.1 k x found)
  where
    here : (x ≡ dead_of n q) ⊎ (record_of dead_key dead_below dead k ≡ Some x)
        → (record_of dead_key dead_below dead k ≡ Some x) ⊎ ((y : Pointer) × In y (q ∷ qs) × (x ≡ dead_of n y))
    here (inl e) = inr (q, inl refl, e)
    here (inr old) = inl old

    go : (record_of dead_key dead_below (with_record dead_key dead_below dead (dead_of n q)) k ≡ Some x) ⊎ ((y : Pointer) × In y qs × (x ≡ dead_of n y))
        → (record_of dead_key dead_below dead k ≡ Some x) ⊎ ((y : Pointer) × In y (q ∷ qs) × (x ≡ dead_of n y))
    go (inl e) = here (with_found dead_key dead_below dead_one dead_chain dead (dead_of n q) (absent q (inl refl)) k x e)
    go (inr (y, i, e)) = inr (y, inr i, e)

-- what was found is still found
pub buried_old : (n : ℕ) (dead : List DeadRecord) (qs : List Pointer) → Absent n dead qs → Distinct qs
    → (k : DeadRecord) (x : DeadRecord) → record_of dead_key dead_below dead k ≡ Some x → record_of dead_key dead_below (buried n dead qs) k ≡ Some x
unfolding buried
buried_old n dead [] absent distinct k x found = found
buried_old n dead (q ∷ qs) absent distinct k x found =
    buried_old n (with_record dead_key dead_below dead (dead_of n q)) qs (absent_rest n dead q qs absent distinct) distinct.1 k x
    (with_old dead_key dead_below dead_one dead_chain dead (dead_of n q) (absent q (inl refl)) k x found)

-- what is new is found
pub buried_new : (n : ℕ) (dead : List DeadRecord) (qs : List Pointer) → Absent n dead qs → Distinct qs
    → (q : Pointer) → In q qs → record_of dead_key dead_below (buried n dead qs) (dead_key (dead_of n q)) ≡ Some (dead_of n q)
unfolding buried
buried_new n dead [] absent distinct x i = absurd i
buried_new n dead (q ∷ qs) absent distinct x (inl e) =
    buried_old n (with_record dead_key dead_below dead (dead_of n q)) qs (absent_rest n dead q qs absent distinct) distinct.1 (dead_key (dead_of n x)) (dead_of n x)
    (subst (λ (y : Pointer). record_of dead_key dead_below (with_record dead_key dead_below dead (dead_of n q)) (dead_key (dead_of n y)) ≡ Some (dead_of n y)) e
    (with_here dead_key dead_below dead_one dead_chain dead (dead_of n q) (absent q (inl refl)) (dead_key (dead_of n q)) refl))
buried_new n dead (q ∷ qs) absent distinct x (inr i) =
    buried_new n (with_record dead_key dead_below dead (dead_of n q)) qs (absent_rest n dead q qs absent distinct) distinct.1 x i
