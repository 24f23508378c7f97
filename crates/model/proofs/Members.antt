-- The pointers of a path as a list: which they are, and that no two have one block.
--     In q qs            the pointer q stands in the list qs
--     Distinct qs        no two pointers of the list have one block
use Rattle.std.proofs.Common.{◌≡◌, ℕ, zero, suc, ◌<◌, Bool, true, false, ◌⊎◌, List, [], ◌∷◌, ◌++◌, Some, None, filter, Option, sym, refl, ap, ◌∙◌, subst, inl, inr, arith}
use Rattle.std.proofs.lemmas.Bool.{cases_Bool, cases_eq, cond-true, cond-false}
use Rattle.records.specs.declared.rows.Pointer.{Pointer}
use Rattle.model.specs.Paths.{listed, pointers}

-- q stands in the list
abbrev pub In : Pointer → List Pointer → Type 0
In q [] = ⊥
In q (x ∷ xs) = (x ≡ q) ⊎ In q xs

-- no two pointers of the list have one block
abbrev pub Distinct : List Pointer → Type 0
Distinct [] = Unit {0}
Distinct (q ∷ qs) = ((x : Pointer) → In x qs → q.block ≡ x.block → ⊥) × Distinct qs

-- what stands in two lists one after the other
in_front : (q : Pointer) (xs ys : List Pointer) → In q xs → In q (xs ++ ys)
in_front q [] ys i = absurd i
in_front q (x ∷ xs) ys (inl e) = inl e
in_front q (x ∷ xs) ys (inr i) = inr (in_front q xs ys i)

in_back : (q : Pointer) (xs ys : List Pointer) → In q ys → In q (xs ++ ys)
in_back q [] ys i = i
in_back q (x ∷ xs) ys i = inr (in_back q xs ys i)

in_either : (q : Pointer) (xs ys : List Pointer) → In q (xs ++ ys) → In q xs ⊎ In q ys
in_either q [] ys i = inr i
in_either q (x ∷ xs) ys (inl e) = inl (inl e)
in_either q (x ∷ xs) ys (inr i) = go (in_either q xs ys i)
  where
    go : In q xs ⊎ In q ys → In q (x ∷ xs) ⊎ In q ys
    go (inl j) = inl (inr j)
    go (inr j) = inr j

-- what a filter keeps: what passes
pub kept_in : (test : Pointer → Bool) (q : Pointer) (xs : List Pointer) → In q (filter test xs) → In q xs × (test q ≡ true)
kept_in test q [] i = absurd i
kept_in test q (x ∷ xs) i = go (kept_in test q xs) (cases_Bool (test x))
  where
    go : (In q (filter test xs) → In q xs × (test q ≡ true)) → (test x ≡ true) ⊎ (test x ≡ false) → In q (x ∷ xs) × (test q ≡ true)
    go later (inl passes) = now (subst (In q) (cond-true _ _ _ passes) i)
      where
        now : In q (x ∷ filter test xs) → In q (x ∷ xs) × (test q ≡ true)
        now (inl e) = (inl e, subst (λ (y : Pointer). test y ≡ true) e passes)
        now (inr j) = (inr (later j).0, (later j).1)
    go later (inr fails) = let rest = later (subst (In q) (cond-false _ _ _ fails) i) in (inr rest.0, rest.1)

-- what passes is kept
pub in_kept : (test : Pointer → Bool) (q : Pointer) (xs : List Pointer) → In q xs → test q ≡ true → In q (filter test xs)
in_kept test q [] i pass = absurd i
in_kept test q (x ∷ xs) (inl e) pass = subst (In q) (sym (cond-true (test x) (x ∷ filter test xs) (filter test xs) (subst (λ (y : Pointer). test y ≡ true) (sym e) pass))) (inl e)
in_kept test q (x ∷ xs) (inr i) pass = go (in_kept test q xs i pass) (cases_Bool (test x))
  where
    go : In q (filter test xs) → (test x ≡ true) ⊎ (test x ≡ false) → In q (filter test (x ∷ xs))
    go j (inl passes) = subst (In q) (sym (cond-true _ _ _ passes)) (inr j)
    go j (inr fails) = subst (In q) (sym (cond-false _ _ _ fails)) j

-- a filter keeps blocks apart
pub distinct_kept : (test : Pointer → Bool) (xs : List Pointer) → Distinct xs → Distinct (filter test xs)
distinct_kept test [] d = tt
distinct_kept test (x ∷ xs) (apart, d) = go (distinct_kept test xs d) (cases_Bool (test x))
  where
    go : Distinct (filter test xs) → (test x ≡ true) ⊎ (test x ≡ false) → Distinct (filter test (x ∷ xs))
    go rest (inl passes) = subst Distinct (sym (cond-true _ _ _ passes)) ((λ y i. apart y (kept_in test y xs i).0), rest)
    go rest (inr fails) = subst Distinct (sym (cond-false _ _ _ fails)) rest

-- a pointer that is no hole is listed alone
in_listed : (o : Option Pointer) (y : Pointer) → In y (listed o) → o ≡ Some y
in_listed None y i = absurd i
in_listed (Some q) y (inl e) = ap Some e
in_listed (Some q) y (inr i) = absurd i

-- one pointer more, which may be a hole
distinct_with : (xs : List Pointer) (o : Option Pointer) → Distinct xs → ((q x : Pointer) → o ≡ Some q → In x xs → x.block ≡ q.block → ⊥) → Distinct (xs ++ listed o)
distinct_with [] None d apart = tt
distinct_with [] (Some q) d apart = ((λ x i. absurd i), tt)
distinct_with (x ∷ xs) o (far, d) apart = (first, distinct_with xs o d (λ q y e i. apart q y e (inr i)))
  where
    first : (y : Pointer) → In y (xs ++ listed o) → x.block ≡ y.block → ⊥
    first y i = go (in_either y xs (listed o) i)
      where
        go : In y xs ⊎ In y (listed o) → x.block ≡ y.block → ⊥
        go (inl j) = far y j
        go (inr j) = apart y x (in_listed o y j) (inl refl)

-- the pointers of a path: those at its depths
pub pointers_in : (f : ℕ → Option Pointer) (q : Pointer) (k : ℕ) → In q (pointers f k) → (d : ℕ) × (d < k) × (f d ≡ Some q)
unfolding pointers
pointers_in f q zero i = absurd i
pointers_in f q (suc k) i = go (pointers_in f q k) (in_either q (pointers f k) (listed (f k)) i)
  where
    go : (In q (pointers f k) → (d : ℕ) × (d < k) × (f d ≡ Some q)) → In q (pointers f k) ⊎ In q (listed (f k)) → (d : ℕ) × (d < suc k) × (f d ≡ Some q)
    go later (inl j) = let rest = later j in (rest.0, omega (arith, rest.1), rest.2)
    go later (inr j) = (k, omega arith, in_listed (f k) q j)

-- what stands at a depth is among them
pub in_pointers : (f : ℕ → Option Pointer) (q : Pointer) (k d : ℕ) → d < k → f d ≡ Some q → In q (pointers f k)
unfolding pointers
in_pointers f q zero d less e = absurd (omega arith)
in_pointers f q (suc k) d less e = go (in_pointers f q k d) (cases_eq d k)
  where
    go : (d < k → f d ≡ Some q → In q (pointers f k)) → (d ≡ k) ⊎ (d ≡ k → ⊥) → In q (pointers f k ++ listed (f k))
    go later (inl same) = in_back q (pointers f k) (listed (f k)) (subst (λ (o : Option Pointer). In q (listed o)) (sym (ap f (sym same) ∙ e)) (inl refl))
    go later (inr other) = in_front q (pointers f k) (listed (f k)) (later (omega arith) e)

-- pointers of different depths that have different blocks are distinct
pub distinct_pointers : (f : ℕ → Option Pointer) (k : ℕ) → ((d e : ℕ) (q x : Pointer) → d < e → e < k → f d ≡ Some q → f e ≡ Some x → q.block ≡ x.block → ⊥)
    → Distinct (pointers f k)
unfolding pointers
distinct_pointers f zero apart = tt
distinct_pointers f (suc k) apart =
    distinct_with (pointers f k) (f k) (distinct_pointers f k (λ d e q x less deep. apart d e q x less (omega arith)))
    (λ q x e i same. (let there = pointers_in f x k i in apart there.0 k x q there.1 (omega arith) there.2 e same))
