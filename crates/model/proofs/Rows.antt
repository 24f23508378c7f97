-- Look-ups in rows, with one row exchanged, one more or one less.
use Rattle.std.proofs.Common.{◌≡◌, ℕ, true, false, ltb, ◌⊎◌, List, [], ◌∷◌, length, is_some, Some, None, Option, sym, refl, ap, ◌∙◌, subst, inl, inr, arith, rules, ◌≤◌}
use Rattle.std.proofs.lemmas.Bool.{cases_Bool, cond-true, cond-false, cond_both, ltb-true, lt-ltb}
use Rattle.std.specs.List.{AllByRecursion}
use Rattle.ordered.specs.Order.{ExactlyOne, Holds}
use Rattle.ordered.specs.Tables.{Ascending, same, index_of, record_of, with_record, without_key, replaced}
use Rattle.ordered.proofs.Additions.{no_index_of}
use Rattle.ordered.proofs.Edits.{ascending_without, ascending_replaced, alone_with, alone_without, alone_replaced}
use Rattle.ordered.proofs.Lookups.{missing}
use Rattle.ordered.proofs.Orders.{same_equal, equal_same}
use Rattle.records.specs.Keys.{number_of}
use Rattle.records.specs.declared.rows.Row.{Row}

-- numbers are in a total order
pub chain : (a b c : ℕ) → Holds ltb a b → Holds ltb b c → Holds ltb a c
chain a b c p q = lt-ltb a c (omega (arith, ltb-true a b p, ltb-true b c q))

pub one : (a b : ℕ) → ExactlyOne (Holds ltb a b) (a ≡ b) (Holds ltb b a)
one a b = search rules

-- something is not nothing
pub some_none : {A : Type 0} (o : Option A) (x : A) → o ≡ Some x → o ≡ None → ⊥
some_none o x a b = let z : ◌≡◌ {A = ℕ} 0 1 = cc in omega arith

-- other numbers are not the same
pub same_other : (a b : ℕ) → (b ≡ a → ⊥) → same ltb a b ≡ false
same_other a b other = go (cases_Bool (same ltb a b))
  where
    go : (same ltb a b ≡ true) ⊎ (same ltb a b ≡ false) → same ltb a b ≡ false
    go (inl is) = absurd (other (sym (equal_same ltb one a b is)))
    go (inr apart) = apart

-- the row that dataset n has in some rows, or nothing
abbrev pub row_of : List Row → ℕ → Option Row
row_of xs n = record_of number_of ltb xs n

-- a row is found by its number
pub row_number : (xs : List Row) (n : ℕ) (r : Row) → row_of xs n ≡ Some r → r.number ≡ n
row_number [] n r found = absurd (some_none None r found refl)
row_number (x ∷ xs) n r found = go (cases_Bool (same ltb x.number n)) (row_number xs n r)
  where
    go : (same ltb x.number n ≡ true) ⊎ (same ltb x.number n ≡ false) → (row_of xs n ≡ Some r → r.number ≡ n) → r.number ≡ n
    go (inl is) later =
        let e : Some x ≡ Some r = sym (cond-true _ _ _ is) ∙ found in
        let z : r ≡ x = cc in
        ap number_of z ∙ equal_same ltb one x.number n is
    go (inr apart) later = later (sym (cond-false _ _ _ apart) ∙ found)

-- one dataset has one row
pub same_row : (xs : List Row) (n : ℕ) (x y : Row) → row_of xs n ≡ Some x → row_of xs n ≡ Some y → x ≡ y
same_row xs n x y a b = cc

-- the row of a number that is found has an index
indexed : (xs : List Row) (n : ℕ) (y : Row) → row_of xs n ≡ Some y → is_some (index_of number_of ltb xs n) ≡ true
indexed xs n y found = go (index_of number_of ltb xs n) refl
  where
    go : (o : Option ℕ) → index_of number_of ltb xs n ≡ o → is_some o ≡ true
    go None e = absurd (some_none _ y found (missing number_of ltb xs n e).entry)
    go (Some i) e = refl

-- the exchanged row is found
pub replaced_here : (xs : List Row) (x y : Row) (n : ℕ) → x.number ≡ n → row_of xs n ≡ Some y → row_of (replaced number_of ltb xs x) n ≡ Some x
replaced_here xs x y n is found =
    alone_replaced number_of ltb one chain xs x n
    ∙ cond-true _ _ _ (same_equal ltb one x.number n is)
    ∙ cond-true (is_some (index_of number_of ltb xs x.number)) (Some x) None (indexed xs x.number y (ap (row_of xs) is ∙ found))

-- other rows are found as before
pub replaced_other : (xs : List Row) (x : Row) (m : ℕ) → (m ≡ x.number → ⊥) → row_of (replaced number_of ltb xs x) m ≡ row_of xs m
replaced_other xs x m other =
    alone_replaced number_of ltb one chain xs x m ∙ cond-false _ _ _ (same_other x.number m other)

-- there are as many rows as before, in their order
pub length_replaced : (xs : List Row) (x : Row) → length (replaced number_of ltb xs x) ≡ length xs
length_replaced [] x = refl
length_replaced (y ∷ xs) x =
    let more = length_replaced xs x in
    cond_both (same ltb y.number x.number) _ _ (λ ys. length ys ≡ length (y ∷ xs)) (λ is. refl) (λ apart. omega arith)

pub order_replaced : (xs : List Row) (x : Row) → Ascending number_of (Holds ltb) xs → Ascending number_of (Holds ltb) (replaced number_of ltb xs x)
order_replaced = ascending_replaced number_of ltb one chain

-- a row more is found, and other rows are found as before
pub added_here : (xs : List Row) (x : Row) (n : ℕ) → x.number ≡ n → row_of xs x.number ≡ None → row_of (with_record number_of ltb xs x) n ≡ Some x
added_here xs x n is new =
    alone_with number_of ltb one chain xs x (no_index_of number_of ltb xs x.number new) n
    ∙ cond-true (same ltb x.number n) (Some x) (row_of xs n) (same_equal ltb one x.number n is)

pub added_other : (xs : List Row) (x : Row) (m : ℕ) → row_of xs x.number ≡ None → (m ≡ x.number → ⊥) → row_of (with_record number_of ltb xs x) m ≡ row_of xs m
added_other xs x m new other =
    alone_with number_of ltb one chain xs x (no_index_of number_of ltb xs x.number new) m
    ∙ cond-false (same ltb x.number m) (Some x) (row_of xs m) (same_other x.number m other)

-- a row less is found no more, and other rows are found as before
pub removed_here : (xs : List Row) (n : ℕ) → Ascending number_of (Holds ltb) xs → row_of (without_key number_of ltb xs n) n ≡ None
removed_here xs n up =
    alone_without number_of ltb one chain xs n up n
    ∙ cond-true (same ltb n n) None (row_of xs n) (same_equal ltb one n n refl)

pub removed_other : (xs : List Row) (n m : ℕ) → Ascending number_of (Holds ltb) xs → (m ≡ n → ⊥) → row_of (without_key number_of ltb xs n) m ≡ row_of xs m
removed_other xs n m up other =
    alone_without number_of ltb one chain xs n up m
    ∙ cond-false (same ltb n m) None (row_of xs m) (same_other n m other)

-- there are no more rows than before, in their order
pub length_removed : (xs : List Row) (n : ℕ) → length (without_key number_of ltb xs n) ≤ length xs
length_removed [] n = omega arith
length_removed (x ∷ xs) n =
    let more = length_removed xs n in
    cond_both (same ltb x.number n) xs (x ∷ without_key number_of ltb xs n) (λ ys. length ys ≤ length (x ∷ xs)) (λ is. omega arith) (λ apart. omega arith)

pub order_removed : (xs : List Row) (n : ℕ) → Ascending number_of (Holds ltb) xs → Ascending number_of (Holds ltb) (without_key number_of ltb xs n)
order_removed = ascending_without number_of ltb one chain

-- what holds of the row of n holds of the row of m, where m is n
pub at_number : (xs : List Row) (P : ℕ → Row → Type 0) (n : ℕ) (y : Row) → row_of xs n ≡ Some y → P n y → (m : ℕ) (x : Row) → row_of xs m ≡ Some x → m ≡ n → P m x
at_number xs P n y here holds m x there e =
    subst (λ j. P j x) (sym e) (subst (P n) (same_row xs n y x here (subst (λ j. row_of xs j ≡ Some x) e there)) holds)

-- what is so of all rows is so of the one that is found
pub of_all : (P : Row → Type 0) (xs : List Row) (n : ℕ) (r : Row) → AllByRecursion P xs → row_of xs n ≡ Some r → P r
of_all P [] n r all found = absurd (some_none None r found refl)
of_all P (x ∷ xs) n r all found =
    cond_both (same ltb x.number n) (Some x) (row_of xs n) (λ (o : Option Row). o ≡ Some r → P r)
    (λ _ is. (let e : x ≡ r = cc in subst P e all.0)) (λ _. of_all P xs n r all.1) found
