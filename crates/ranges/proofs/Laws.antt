-- What the changes of an ordered table do to ranges that stand apart. Assumes nothing.
use Rattle.std.proofs.Common.{◌≡◌, ℕ, zero, suc, ◌+◌, ◌-◌, ◌<◌, ◌≤◌, Bool, true, false, ◌||◌, ltb, ◌⊎◌, List, [], ◌∷◌, length, Some, None, Option, sym, refl, ap, ◌∙◌, subst, inl, inr, arith}
use Rattle.std.specs.Option.{option_map}
use Rattle.std.proofs.lemmas.Bool.{both_ways, cases_Bool, cases_lt, cond-true, cond-false, or_parts, or_from, ltb-true, lt-ltb, le-ltb}
use Rattle.std.proofs.lemmas.Bool.Decides.{nat_tests}
use Rattle.std.proofs.lemmas.Option.{none-some}
use Rattle.ordered.specs.Tables.{same, index_of, rank_of, with_record, replaced}
use Rattle.records.specs.Keys.{first_of, first_below}
use Rattle.records.specs.declared.ranges.FreeRange.{FreeRange}
use Rattle.ranges.specs.Ranges.{within, in_some, apart, at_block, range_at, without}
use Rattle.ranges.specs.Steps.{Clear}
use Rattle.ranges.proofs.Apart.{Parts, parts, whole, below_none, apart_lower, within_above}

or_swap : (a b c : Bool) → (a || (b || c)) ≡ (b || (a || c))
or_swap true true c = refl
or_swap true false c = refl
or_swap false b c = refl

pub cases_option : {X : Type 0} (o : Option X) → (o ≡ None) ⊎ ((x : X) × (o ≡ Some x))
cases_option None = inl refl
cases_option (Some x) = inr (x, refl)

-- how the table finds a range by its first block, and puts one in
abbrev pub begins_at : FreeRange → ℕ → Bool
begins_at r k = same first_below (first_of r) (at_block k)

abbrev pub place_at : List FreeRange → ℕ → Option ℕ
place_at rs k = index_of first_of first_below rs (at_block k)

abbrev pub rank_at : List FreeRange → ℕ → ℕ
rank_at rs k = rank_of first_of first_below rs (at_block k)

abbrev pub with_range : List FreeRange → FreeRange → List FreeRange
with_range rs r = with_record first_of first_below rs r

abbrev pub over_range : List FreeRange → FreeRange → List FreeRange
over_range rs r = replaced first_of first_below rs r

pub same_first : (x : FreeRange) (k : ℕ) → begins_at x k ≡ true → x.first ≡ k
same_first x k e = grind (arith, nat_tests)

pub same_is : (x : FreeRange) (k : ℕ) → x.first ≡ k → begins_at x k ≡ true
same_is x k e = grind (arith, nat_tests)

pub same_not : (x : FreeRange) (k : ℕ) → x.first < k → begins_at x k ≡ false
same_not x k e = grind (arith, nat_tests)

-- the range at k taken out
pub record Out (lo n k : ℕ) (old new : List FreeRange) (r : FreeRange) : Type 0 where
  pub at : r.first ≡ k
  pub low : lo ≤ r.first
  pub some : 0 < r.length
  pub high : r.first + r.length ≤ n
  pub stands : apart lo n new ≡ true
  pub blocks : (j : ℕ) → in_some old j ≡ (within r j || in_some new j)
  pub clear : Clear new r

out_here : (lo n k : ℕ) (x : FreeRange) (xs : List FreeRange) → Parts lo n x xs → x.first ≡ k → Out lo n k (x ∷ xs) xs x
out_here lo n k x xs p e = record {
  at = e;
  low = p.low;
  some = p.some;
  high = p.high;
  stands = apart_lower (x.first + x.length + 1) lo n xs (omega (arith, p.low)) p.rest;
  blocks = λ j. refl;
  clear = λ j a b. below_none (x.first + x.length + 1) n xs j p.rest (omega arith);
}

out_later : (lo n k : ℕ) (x : FreeRange) (xs ys : List FreeRange) (r : FreeRange) → Parts lo n x xs → Out (x.first + x.length + 1) n k xs ys r → Out lo n k (x ∷ xs) (x ∷ ys) r
out_later lo n k x xs ys r p o = record {
  at = o.at;
  low = omega (arith, p.low, o.low);
  some = o.some;
  high = o.high;
  stands = whole lo n x ys (record { low = p.low; some = p.some; high = p.high; rest = o.stands });
  blocks = λ j. ap (λ (b : Bool). within x j || b) (o.blocks j) ∙ or_swap (within x j) (within r j) (in_some ys j);
  clear = λ j a b. or_from _ _ (within_above x j (omega (arith, o.low))) (o.clear j a b);
}

pub removes : (lo n k : ℕ) (xs : List FreeRange) (r : FreeRange) → apart lo n xs ≡ true → range_at xs k ≡ Some r → Out lo n k xs (without xs k) r
removes lo n k [] r e h = absurd (none-some r h)
removes lo n k (x ∷ xs) r e h = go (removes (x.first + x.length + 1) n k xs r p.rest) (cases_Bool (begins_at x k))
  where
    p : Parts lo n x xs
    p = parts lo n x xs e

    go : (range_at xs k ≡ Some r → Out (x.first + x.length + 1) n k xs (without xs k) r)
        → (begins_at x k ≡ true) ⊎ (begins_at x k ≡ false) → Out lo n k (x ∷ xs) (without (x ∷ xs) k) r
    go later (inl here) =
        let q : Some x ≡ Some r = sym (cond-true _ _ _ here) ∙ h in
        let i : x ≡ r = cc in
        subst (Out lo n k (x ∷ xs) (without (x ∷ xs) k)) i
        (subst (λ (l : List FreeRange). Out lo n k (x ∷ xs) l x) (sym (cond-true _ _ _ here)) (out_here lo n k x xs p (same_first x k here)))
    go later (inr past) =
        subst (λ (l : List FreeRange). Out lo n k (x ∷ xs) l r) (sym (cond-false _ _ _ past)) (out_later lo n k x xs (without xs k) r p (later (sym (cond-false _ _ _ past) ∙ h)))

pub removes_none : (k : ℕ) (xs : List FreeRange) → range_at xs k ≡ None → without xs k ≡ xs
removes_none k [] h = refl
removes_none k (x ∷ xs) h = go (removes_none k xs) (cases_Bool (begins_at x k))
  where
    go : (range_at xs k ≡ None → without xs k ≡ xs)
        → (begins_at x k ≡ true) ⊎ (begins_at x k ≡ false) → without (x ∷ xs) k ≡ x ∷ xs
    go later (inl here) = absurd (none-some x (sym h ∙ cond-true _ _ _ here))
    go later (inr past) = cond-false _ _ _ past ∙ ap (λ (l : List FreeRange). x ∷ l) (later (sym (cond-false _ _ _ past) ∙ h))

-- no range begins at k, and the block before k lies in none
pub begins : (lo n k : ℕ) (xs : List FreeRange) → apart lo n xs ≡ true → ((j : ℕ) → j + 1 ≡ k → in_some xs j ≡ false) → range_at xs k ≡ None → in_some xs k ≡ false
begins lo n k [] e out h = refl
begins lo n k (x ∷ xs) e out h =
    go (begins (x.first + x.length + 1) n k xs (parts lo n x xs e).rest (λ j q. (or_parts (within x j) (in_some xs j) (out j q)).1)) (cases_Bool (begins_at x k))
  where
    not_here : (k : ℕ) → begins_at x k ≡ false → ((j : ℕ) → j + 1 ≡ k → within x j ≡ false) → within x k ≡ false
    not_here zero f out = grind (arith, nat_tests)
    not_here (suc j) f out = let o = out j (omega arith) in grind (arith, nat_tests)

    go : (range_at xs k ≡ None → in_some xs k ≡ false)
        → (begins_at x k ≡ true) ⊎ (begins_at x k ≡ false) → in_some (x ∷ xs) k ≡ false
    go later (inl here) = absurd (none-some x (sym h ∙ cond-true _ _ _ here))
    go later (inr past) = or_from _ _ (not_here k past (λ j q. (or_parts (within x j) (in_some xs j) (out j q)).0)) (later (sym (cond-false _ _ _ past) ∙ h))

-- a range put among ranges that it stands clear of
pub record In (lo n : ℕ) (old new : List FreeRange) (r : FreeRange) : Type 0 where
  pub stands : apart lo n new ≡ true
  pub blocks : (j : ℕ) → in_some new j ≡ (within r j || in_some old j)
  pub longer : length new ≡ length old + 1

gap_before : (x r : FreeRange) (xs : List FreeRange) → 0 < r.length → x.first < r.first → Clear (x ∷ xs) r → x.first + x.length + 1 ≤ r.first
gap_before x r xs some lt clear = go (cases_lt (x.first + x.length) r.first)
  where
    go : (x.first + x.length < r.first) ⊎ (r.first ≤ x.first + x.length) → x.first + x.length + 1 ≤ r.first
    go (inl h) = omega arith
    go (inr h) =
        let j : ℕ = r.first - 1 in
        let o : within x j ≡ false = (or_parts _ _ (clear j (omega arith) (omega arith))).0 in
        let y : within x j ≡ true = grind (arith, nat_tests) in
        absurd (both_ways (within x j) o y)

gap_after : (x r : FreeRange) (xs : List FreeRange) → 0 < x.length → r.first ≤ x.first → Clear (x ∷ xs) r → r.first + r.length + 1 ≤ x.first
gap_after x r xs some le clear = go (cases_lt (r.first + r.length) x.first)
  where
    go : (r.first + r.length < x.first) ⊎ (x.first ≤ r.first + r.length) → r.first + r.length + 1 ≤ x.first
    go (inl h) = omega arith
    go (inr h) =
        let o : within x x.first ≡ false = (or_parts _ _ (clear x.first (omega arith) h)).0 in
        let y : within x x.first ≡ true = grind (arith, nat_tests) in
        absurd (both_ways (within x x.first) o y)

pub adds : (lo n : ℕ) (xs : List FreeRange) (r : FreeRange) → apart lo n xs ≡ true → lo ≤ r.first → 0 < r.length → r.first + r.length ≤ n → Clear xs r → In lo n xs (with_range xs r) r
adds lo n [] r e low some high clear = record { stands = whole lo n r [] (record { low = low; some = some; high = high; rest = refl }); blocks = λ j. refl; longer = refl }
adds lo n (x ∷ xs) r e low some high clear =
    go (λ gap. adds (x.first + x.length + 1) n xs r p.rest gap some high (λ j a b. (or_parts (within x j) (in_some xs j) (clear j a b)).1)) (cases_Bool (ltb x.first r.first))
  where
    p : Parts lo n x xs
    p = parts lo n x xs e

    go : (x.first + x.length + 1 ≤ r.first → In (x.first + x.length + 1) n xs (with_range xs r) r)
        → (ltb x.first r.first ≡ true) ⊎ (ltb x.first r.first ≡ false) → In lo n (x ∷ xs) (with_range (x ∷ xs) r) r
    go later (inl before) =
        let i = later (gap_before x r xs some (ltb-true x.first r.first before) clear) in
        let more = i.longer in
        subst (λ (l : List FreeRange). In lo n (x ∷ xs) l r) (sym (cond-true _ _ _ before))
        (record {
          stands = whole lo n x (with_range xs r) (record { low = p.low; some = p.some; high = p.high; rest = i.stands });
          blocks = λ j. ap (λ (b : Bool). within x j || b) (i.blocks j) ∙ or_swap (within x j) (within r j) (in_some xs j);
          longer = omega arith;
        })
    go later (inr after) =
        let le : r.first ≤ x.first = grind (arith, nat_tests) in
        let gap = gap_after x r xs p.some le clear in
        subst (λ (l : List FreeRange). In lo n (x ∷ xs) l r) (sym (cond-false _ _ _ after))
        (record {
          stands = whole lo n r (x ∷ xs) (record { low = low; some = some; high = high; rest = whole (r.first + r.length + 1) n x xs (record { low = gap; some = p.some; high = p.high; rest = p.rest }) });
          blocks = λ j. refl;
          longer = omega arith;
        })

-- no range begins at a block that lies in none
pub absent : (lo n k : ℕ) (xs : List FreeRange) → apart lo n xs ≡ true → in_some xs k ≡ false → place_at xs k ≡ None
absent lo n k [] e out = refl
absent lo n k (x ∷ xs) e out =
    cond-false _ _ _ (other (cases_Bool (begins_at x k))) ∙ ap (option_map suc) (absent (x.first + x.length + 1) n k xs (parts lo n x xs e).rest (or_parts (within x k) (in_some xs k) out).1)
  where
    other : (begins_at x k ≡ true) ⊎ (begins_at x k ≡ false) → begins_at x k ≡ false
    other (inr past) = past
    other (inl here) =
        let at = same_first x k here in
        let some = (parts lo n x xs e).some in
        let y : within x k ≡ true = grind (arith, nat_tests) in
        absurd (both_ways (within x k) (or_parts (within x k) (in_some xs k) out).0 y)

-- a range in the place of another is the same as that one taken out and it put in
pub swapped : (lo n : ℕ) (xs : List FreeRange) (old r : FreeRange) → apart lo n xs ≡ true → range_at xs r.first ≡ Some old
    → over_range xs r ≡ with_range (without xs r.first) r
swapped lo n [] old r e h = absurd (none-some old h)
swapped lo n (x ∷ xs) old r e h = go (swapped (x.first + x.length + 1) n xs old r p.rest) (cases_Bool (begins_at x r.first))
  where
    p : Parts lo n x xs
    p = parts lo n x xs e

    ahead : (ys : List FreeRange) (from : ℕ) → apart from n ys ≡ true → r.first < from → with_range ys r ≡ r ∷ ys
    ahead [] from a lt = refl
    ahead (y ∷ ys) from a lt = cond-false _ _ _ (le-ltb y.first r.first (omega (arith, (parts from n y ys a).low)))

    go : (range_at xs r.first ≡ Some old → over_range xs r ≡ with_range (without xs r.first) r)
        → (begins_at x r.first ≡ true) ⊎ (begins_at x r.first ≡ false)
        → over_range (x ∷ xs) r ≡ with_range (without (x ∷ xs) r.first) r
    go later (inl here) =
        let at = same_first x r.first here in
        cond-true _ _ _ here ∙ sym (ap (λ (l : List FreeRange). with_range l r) (cond-true _ _ _ here) ∙ ahead xs (x.first + x.length + 1) p.rest (omega arith))
    go later (inr past) =
        let there : range_at xs r.first ≡ Some old = sym (cond-false _ _ _ past) ∙ h in
        let o = removes (x.first + x.length + 1) n r.first xs old p.rest there in
        cond-false _ _ _ past ∙ ap (λ (l : List FreeRange). x ∷ l) (later there)
        ∙ sym (ap (λ (l : List FreeRange). with_range l r) (cond-false _ _ _ past) ∙ cond-true _ _ _ (lt-ltb x.first r.first (omega (arith, o.low, o.at))))
