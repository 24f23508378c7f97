-- The last range that begins before a block, and which blocks it tells of. Assumes nothing.
use Rattle.std.proofs.Common.{◌≡◌, ℕ, zero, suc, ◌+◌, ◌-◌, ◌^◌, ◌<◌, ◌≤◌, min, Bool, true, false, ◌||◌, ltb, ◌⊎◌, List, [], ◌∷◌, length, get_or, Some, None, Option, sym, refl, ap, ◌∙◌, subst, inl, inr, arith}
use Rattle.std.proofs.lemmas.Bool.{cases_Bool, cases_eq, cond-true, cond-false, or_from, ltb-true, lt-ltb, le-ltb, eq-eqb, ne_eqb}
use Rattle.std.proofs.lemmas.Bool.Decides.{nat_tests}
use Rattle.std.proofs.lemmas.Option.{none-some}
use Rattle.std.proofs.Math.Bool.{or-false}
use Rattle.records.specs.declared.ranges.FreeRange.{FreeRange}
use Rattle.ranges.specs.Ranges.{within, in_some, apart, range_at, or_else, last_before, has, reach, Reaches, Longest}
use Rattle.ranges.proofs.Apart.{Parts, parts, below_none, within_below, within_above, above_at}
use Rattle.ranges.proofs.Laws.{cases_option, rank_at, same_is, same_not, removes}

-- it is one of the ranges, and begins before k
pub last_is : (lo n k : ℕ) (xs : List FreeRange) (r : FreeRange) → apart lo n xs ≡ true → last_before xs k ≡ Some r → (range_at xs r.first ≡ Some r) × (r.first < k)
last_is lo n k [] r e h = absurd (none-some r h)
last_is lo n k (x ∷ xs) r e h = go (last_is (x.first + x.length + 1) n k xs r p.rest) (cases_Bool (ltb x.first k)) (cases_option (last_before xs k))
  where
    p : Parts lo n x xs
    p = parts lo n x xs e

    go : (last_before xs k ≡ Some r → (range_at xs r.first ≡ Some r) × (r.first < k)) → (ltb x.first k ≡ true) ⊎ (ltb x.first k ≡ false)
        → (last_before xs k ≡ None) ⊎ ((y : FreeRange) × (last_before xs k ≡ Some y)) → (range_at (x ∷ xs) r.first ≡ Some r) × (r.first < k)
    go later (inl t) (inl none) =
        let w : Some x ≡ Some r = sym (cond-true _ _ _ t ∙ ap (λ o. or_else o x) none) ∙ h in
        let i : x ≡ r = cc in
        subst (λ (r : FreeRange). (range_at (x ∷ xs) r.first ≡ Some r) × (r.first < k)) i (cond-true _ _ _ (same_is x x.first refl), ltb-true x.first k t)
    go later (inl t) (inr (y, some)) =
        let w : Some y ≡ Some r = sym (cond-true _ _ _ t ∙ ap (λ o. or_else o x) some) ∙ h in
        let i = later (some ∙ w) in
        let o = removes (x.first + x.length + 1) n r.first xs r p.rest i.0 in
        (cond-false _ _ _ (same_not x r.first (omega (arith, o.low))) ∙ i.0, i.1)
    go later (inr past) _ = absurd (none-some r (sym (cond-false _ _ _ past) ∙ h))

-- the range begins at or before block j
abbrev From : Option FreeRange → ℕ → Type 0
From None j = Unit {0}
From (Some r) j = r.first ≤ j

-- it alone can hold the blocks from its first on and before k
pub last_tells : (lo n k j : ℕ) (xs : List FreeRange) → apart lo n xs ≡ true → j < k → (o : Option FreeRange) → last_before xs k ≡ o → From o j → in_some xs j ≡ has o j
last_tells lo n k j [] e lt o q f = ap (λ o. has o j) q
last_tells lo n k j (x ∷ xs) e lt o q f =
    go (λ o q f. last_tells (x.first + x.length + 1) n k j xs p.rest lt o q f) (cases_Bool (ltb x.first k)) (cases_option (last_before xs k))
  where
    p : Parts lo n x xs
    p = parts lo n x xs e

    go : ((o : Option FreeRange) → last_before xs k ≡ o → From o j → in_some xs j ≡ has o j) → (ltb x.first k ≡ true) ⊎ (ltb x.first k ≡ false)
        → (last_before xs k ≡ None) ⊎ ((y : FreeRange) × (last_before xs k ≡ Some y)) → in_some (x ∷ xs) j ≡ has o j
    go later (inl t) (inl none) =
        let w : Some x ≡ o = sym (cond-true _ _ _ t ∙ ap (λ o. or_else o x) none) ∙ q in
        ap (λ (b : Bool). within x j || b) (later None none tt) ∙ or-false (within x j) ∙ ap (λ o. has o j) w
    go later (inl t) (inr (y, some)) =
        let w : Some y ≡ o = sym (cond-true _ _ _ t ∙ ap (λ o. or_else o x) some) ∙ q in
        let g : y.first ≤ j = subst (λ o. From o j) (sym w) f in
        let i = last_is (x.first + x.length + 1) n k xs y p.rest some in
        let out = removes (x.first + x.length + 1) n y.first xs y p.rest i.0 in
        let z : within x j ≡ false = within_above x j (omega (arith, out.low)) in
        ap (λ (b : Bool). b || in_some xs j) z ∙ later (Some y) some g ∙ ap (λ o. has o j) w
    go later (inr past) _ =
        let w : None ≡ o = sym (cond-false _ _ _ past) ∙ q in
        let under : j < x.first = grind (arith, nat_tests) in
        or_from _ _ (within_below x j under) (below_none (x.first + x.length + 1) n xs j p.rest (omega arith)) ∙ ap (λ o. has o j) w

-- the last at or before a block alone can hold it
pub last_in : (n k : ℕ) (xs : List FreeRange) → apart 0 n xs ≡ true → in_some xs k ≡ has (last_before xs (k + 1)) k
last_in n k xs e = go (last_before xs (k + 1)) refl
  where
    go : (o : Option FreeRange) → last_before xs (k + 1) ≡ o → in_some xs k ≡ has o k
    go None q = last_tells 0 n (k + 1) k xs e (omega arith) None q tt
    go (Some r) q = last_tells 0 n (k + 1) k xs e (omega arith) (Some r) q (let l = last_is 0 n (k + 1) xs r e q in omega (arith, l.1))

pub at_place : (lo n : ℕ) (xs : List FreeRange) (i : ℕ) (d : FreeRange) → apart lo n xs ≡ true → i < length xs → range_at xs (get_or xs i d).first ≡ Some (get_or xs i d)
at_place lo n [] i d e h = absurd (omega arith)
at_place lo n (x ∷ xs) zero d e h = cond-true _ _ _ (same_is x x.first refl)
at_place lo n (x ∷ xs) (suc i) d e h =
    let p = parts lo n x xs e in
    cond-false _ _ _ (same_not x (get_or xs i d).first (omega (arith, above_at (x.first + x.length + 1) n xs i d p.rest (omega arith))))
    ∙ at_place (x.first + x.length + 1) n xs i d p.rest (omega arith)

-- the longest range of a take is found by its first block
pub found_longest : (n : ℕ) (xs : List FreeRange) (r : FreeRange) → apart 0 n xs ≡ true → Longest xs r → range_at xs r.first ≡ Some r
found_longest n xs r e best = subst (λ (x : FreeRange). range_at xs x.first ≡ Some x) (best.2 r) (at_place 0 n xs best.0 r e best.1.0)

-- by the rank of the block
none_ahead : (lo n k : ℕ) (xs : List FreeRange) → apart lo n xs ≡ true → k ≤ lo → rank_at xs k ≡ 0
none_ahead lo n k [] e h = refl
none_ahead lo n k (x ∷ xs) e h =
    let p = parts lo n x xs e in
    cond-false _ _ _ (le-ltb x.first k (omega (arith, p.low))) ∙ none_ahead (x.first + x.length + 1) n k xs p.rest (omega (arith, p.low))

pub last_none : (xs : List FreeRange) (k : ℕ) → rank_at xs k ≡ 0 → last_before xs k ≡ None
last_none [] k e = refl
last_none (x ∷ xs) k e = go (cases_Bool (ltb x.first k))
  where
    go : (ltb x.first k ≡ true) ⊎ (ltb x.first k ≡ false) → last_before (x ∷ xs) k ≡ None
    go (inl t) = let h : suc (rank_at xs k) ≡ 0 = sym (cond-true _ _ _ t) ∙ e in absurd (omega arith)
    go (inr f) = cond-false _ _ _ f

pub last_some : (lo n k : ℕ) (xs : List FreeRange) (i : ℕ) (d : FreeRange) → apart lo n xs ≡ true → rank_at xs k ≡ suc i → last_before xs k ≡ Some (get_or xs i d)
last_some lo n k [] i d a e = absurd (omega arith)
last_some lo n k (x ∷ xs) i d a e = go i e (cases_Bool (ltb x.first k)) (λ i r. last_some (x.first + x.length + 1) n k xs i d p.rest r)
  where
    p : Parts lo n x xs
    p = parts lo n x xs a

    go : (i : ℕ) → rank_at (x ∷ xs) k ≡ suc i → (ltb x.first k ≡ true) ⊎ (ltb x.first k ≡ false)
        → ((i : ℕ) → rank_at xs k ≡ suc i → last_before xs k ≡ Some (get_or xs i d)) → last_before (x ∷ xs) k ≡ Some (get_or (x ∷ xs) i d)
    go zero e (inl t) ih =
        let h : suc (rank_at xs k) ≡ suc 0 = sym (cond-true _ _ _ t) ∙ e in
        cond-true _ _ _ t ∙ ap (λ o. or_else o x) (last_none xs k (omega arith))
    go (suc i) e (inl t) ih =
        let h : suc (rank_at xs k) ≡ suc (suc i) = sym (cond-true _ _ _ t) ∙ e in
        cond-true _ _ _ t ∙ ap (λ o. or_else o x) (ih i (omega arith))
    go i e (inr f) ih =
        let h : rank_at xs k ≡ suc i = sym (cond-false _ _ _ f) ∙ e in
        let le : k ≤ x.first = grind (arith, nat_tests) in
        let z : rank_at xs k ≡ 0 = none_ahead (x.first + x.length + 1) n k xs p.rest (omega arith) in
        absurd (omega arith)

-- what the last range at or before an owned block says of the block before it
pub reaches : (n b : ℕ) (xs : List FreeRange) → apart 0 n xs ≡ true → in_some xs b ≡ false → (o : Option FreeRange) → last_before xs (b + 1) ≡ o → Reaches xs b (reach o b)
reaches n b xs e out None q = record {
  fits = omega arith;
  some = λ h. absurd (omega arith);
  none = λ z j s. last_tells 0 n (b + 1) j xs e (omega arith) None q tt;
}
reaches n b xs e out (Some r) q = go (cases_eq (r.first + r.length) b)
  where
    at : (range_at xs r.first ≡ Some r) × (r.first < b + 1)
    at = last_is 0 n (b + 1) xs r e q

    some : 0 < r.length
    some = (removes 0 n r.first xs r e at.0).some

    past : within r b ≡ false
    past = sym (last_in n b xs e ∙ ap (λ o. has o b) q) ∙ out

    ends : r.first + r.length ≤ b
    ends = let under : r.first < b + 1 = at.1 in let out : within r b ≡ false = past in grind (arith, nat_tests)

    go : (r.first + r.length ≡ b) ⊎ (r.first + r.length ≡ b → ⊥) → Reaches xs b (reach (Some r) b)
    go (inl i) = subst (Reaches xs b) (sym (cond-true _ _ _ (eq-eqb _ _ i))) (record {
      fits = omega arith;
      some = λ h. let f : r.first ≡ b - r.length = omega arith in
          subst (λ (f : ℕ). range_at xs f ≡ Some (record { first = f; length = r.length })) f at.0;
      none = λ z. absurd (omega (arith, some));
    })
    go (inr ne) = subst (Reaches xs b) (sym (cond-false _ _ _ (ne_eqb _ _ ne))) (record {
      fits = omega arith;
      some = λ h. absurd (omega arith);
      none = λ z j s. last_tells 0 n (b + 1) j xs e (omega arith) (Some r) q (omega (arith, ends, some))
          ∙ (let i : r.first + r.length ≤ j = omega (arith, ends) in within_above r j i);
    })

-- all ranges begin before the number of blocks
pub last_past : (lo n k j : ℕ) (xs : List FreeRange) → apart lo n xs ≡ true → n ≤ k → n ≤ j → last_before xs k ≡ last_before xs j
last_past lo n k j [] e ka ja = refl
last_past lo n k j (x ∷ xs) e ka ja =
    let p = parts lo n x xs e in
    cond-true _ _ _ (lt-ltb x.first k (omega (arith, p.high, p.some))) ∙ ap (λ o. or_else o x) (last_past (x.first + x.length + 1) n k j xs p.rest ka ja)
    ∙ sym (cond-true _ _ _ (lt-ltb x.first j (omega (arith, p.high, p.some))))

-- the last at or before block b, by the rank of the next block, or of the greatest number where there is none
last_next : (n b next : ℕ) (xs : List FreeRange) → apart 0 n xs ≡ true → n ≤ 32768 → next ≡ min (b + 1) (2 ^ 32 - 1) → last_before xs next ≡ last_before xs (b + 1)
last_next n b next xs e few is = go (cases_eq next (b + 1))
  where
    go : (next ≡ b + 1) ⊎ (next ≡ b + 1 → ⊥) → last_before xs next ≡ last_before xs (b + 1)
    go (inl same) = ap (last_before xs) same
    go (inr other) = last_past 0 n next (b + 1) xs e (omega (arith, other, is)) (omega (arith, other, is))

pub up_to_none : (n b next : ℕ) (xs : List FreeRange) → apart 0 n xs ≡ true → n ≤ 32768 → next ≡ min (b + 1) (2 ^ 32 - 1) → rank_at xs next ≡ 0 → last_before xs (b + 1) ≡ None
up_to_none n b next xs e few is none = sym (last_next n b next xs e few is) ∙ last_none xs next none

pub up_to_some : (n b next : ℕ) (xs : List FreeRange) (i : ℕ) (d : FreeRange) → apart 0 n xs ≡ true → n ≤ 32768 → next ≡ min (b + 1) (2 ^ 32 - 1) → rank_at xs next ≡ suc i
    → last_before xs (b + 1) ≡ Some (get_or xs i d)
up_to_some n b next xs i d e few is some = sym (last_next n b next xs e few is) ∙ last_some 0 n next xs i d e some
