-- The ranges of a map are the maximal runs of blocks that it does not own. Assumes nothing.
use Rattle.std.proofs.Common.{◌≡◌, ℕ, suc, ◌+◌, ◌-◌, ◌<◌, ◌≤◌, Bool, true, false, not, ◌&&◌, ltb, ◌⊎◌, List, [], ◌∷◌, length, get_or, Some, None, Option, sym, refl, ap, ◌∙◌, inl, inr, arith}
use Rattle.std.proofs.lemmas.Bool.{both_ways, cases_Bool, cases_order, cond-true, cond-false, not-false, or_from, or_left, and_right, and_from, lt-ltb, ltb-true}
use Rattle.std.proofs.lemmas.Bool.Decides.{nat_tests}
use Rattle.std.proofs.lemmas.Option.{none-some}
use Rattle.records.specs.declared.ranges.FreeRange.{FreeRange}
use Rattle.ranges.specs.Ranges.{within, in_some, apart, held, range_at, last_before, has, Longest}
use Rattle.ranges.specs.Runs.{Run, FirstOfLongest, RangesAreRuns}
use Rattle.ranges.proofs.Apart.{at_most_half, rises}
use Rattle.ranges.proofs.Laws.{Out, begins_at, removes}
use Rattle.ranges.proofs.Lasts.{last_is, last_in, at_place, found_longest}

is_free : (n : ℕ) (rs : List FreeRange) (k : ℕ) → in_some rs k ≡ true → held n rs k ≡ false
is_free n rs k e = and_right (ltb k n) (not (in_some rs k)) (ap not e)

is_held : (n : ℕ) (rs : List FreeRange) (k : ℕ) → k < n → in_some rs k ≡ false → held n rs k ≡ true
is_held n rs k lt e = and_from _ _ (lt-ltb k n lt) (ap not e)

run_at : (n k : ℕ) (xs ys : List FreeRange) (r : FreeRange) → Out 0 n k xs ys r → Run (held n xs) n r.first r.length
run_at n k xs ys r o = record {
  some = o.some;
  high = o.high;
  free = λ j a b. let w : within r j ≡ true = grind (arith, nat_tests) in is_free n xs j (o.blocks j ∙ or_left _ _ w);
  before = λ j e. let w : within r j ≡ false = grind (arith, nat_tests) in is_held n xs j (omega (arith, o.some, o.high)) (o.blocks j ∙ or_from _ _ w (o.clear j (omega arith) (omega arith)));
  after = λ lt. let w : within r (r.first + r.length) ≡ false = grind (arith, nat_tests) in is_held n xs (r.first + r.length) lt (o.blocks (r.first + r.length) ∙ or_from _ _ w (o.clear (r.first + r.length) (omega arith) (omega arith)));
}

-- two runs that share their block f, the second's first
run_same : (s : ℕ → Bool) (n a b f l : ℕ) → Run s n a b → Run s n f l → a ≤ f → f < a + b → (a ≡ f) × (b ≡ l)
run_same s n a b f l p q le lt = (first, last (cases_order (a + b) (f + l)))
  where
    go : (a ≡ f) ⊎ ((a < f) ⊎ (f < a)) → a ≡ f
    go (inl e) = e
    go (inr (inl h)) = absurd (both_ways (s (f - 1)) (p.free (f - 1) (omega arith) (omega arith)) (q.before (f - 1) (omega arith)))
    go (inr (inr h)) = absurd (omega arith)

    first : a ≡ f
    first = go (cases_order a f)

    last : (a + b ≡ f + l) ⊎ ((a + b < f + l) ⊎ (f + l < a + b)) → b ≡ l
    last (inl e) = omega (arith, first)
    last (inr (inl h)) = absurd (both_ways (s (a + b)) (q.free (a + b) (omega arith) (omega arith)) (p.after (omega (arith, q.high))))
    last (inr (inr h)) = absurd (both_ways (s (f + l)) (p.free (f + l) (omega arith) (omega arith)) (q.after (omega (arith, p.high))))

place_of : (k : ℕ) (xs : List FreeRange) (r : FreeRange) → range_at xs k ≡ Some r → (i : ℕ) × (i < length xs) × ((d : FreeRange) → get_or xs i d ≡ r)
place_of k [] r h = absurd (none-some r h)
place_of k (x ∷ xs) r h = go (place_of k xs r) (cases_Bool (begins_at x k))
  where
    go : (range_at xs k ≡ Some r → (i : ℕ) × (i < length xs) × ((d : FreeRange) → get_or xs i d ≡ r)) → (begins_at x k ≡ true) ⊎ (begins_at x k ≡ false)
        → (i : ℕ) × (i < length (x ∷ xs)) × ((d : FreeRange) → get_or (x ∷ xs) i d ≡ r)
    go later (inl here) =
        let q : Some x ≡ Some r = sym (cond-true _ _ _ here) ∙ h in
        let e : x ≡ r = cc in
        (0, omega arith, λ d. e)
    go later (inr past) = let i = later (sym (cond-false _ _ _ past) ∙ h) in (suc i.0, omega (arith, i.1), i.2)

-- each run is a range: the last one that begins at or before the run's first block
run_is : (n : ℕ) (xs : List FreeRange) (f l : ℕ) → apart 0 n xs ≡ true → Run (held n xs) n f l → (i : ℕ) × (i < length xs) × ((d : FreeRange) → get_or xs i d ≡ record { first = f; length = l })
run_is n xs f l e q = go (last_before xs (f + 1)) refl
  where
    free : in_some xs f ≡ true
    free = not-false (in_some xs f) (sym (ap (λ (b : Bool). b && not (in_some xs f)) (lt-ltb f n (omega (arith, q.some, q.high)))) ∙ q.free f (omega arith) (omega (arith, q.some)))

    alike : (r : FreeRange) → r.first ≡ f → r.length ≡ l → r ≡ record { first = f; length = l }
    alike r a b = ap (λ (x : ℕ). record { first = x; length = r.length }) a ∙ ap (λ (x : ℕ). record { first = f; length = x }) b

    go : (o : Option FreeRange) → last_before xs (f + 1) ≡ o → (i : ℕ) × (i < length xs) × ((d : FreeRange) → get_or xs i d ≡ record { first = f; length = l })
    go None o = absurd (both_ways (in_some xs f) (last_in n f xs e ∙ ap (λ o. has o f) o) free)
    go (Some r) o =
        let at = last_is 0 n (f + 1) xs r e o in
        let cut = removes 0 n r.first xs r e at.0 in
        let holds : within r f ≡ true = sym (last_in n f xs e ∙ ap (λ o. has o f) o) ∙ free in
        let under : f < r.first + r.length = grind (arith, nat_tests) in
        let both = run_same (held n xs) n r.first r.length f l (run_at n r.first xs _ r cut) q (omega (arith, at.1)) under in
        let place = place_of r.first xs r at.0 in
        (place.0, place.1, λ d. place.2 d ∙ alike r both.0 both.1)

pub longest_run : (n : ℕ) (xs : List FreeRange) (r : FreeRange) → apart 0 n xs ≡ true → Longest xs r → FirstOfLongest (held n xs) n r.first
longest_run n xs r e best = record {
  long = r.length;
  run = run_at n r.first xs _ r (removes 0 n r.first xs r e (found_longest n xs r e best));
  longest = λ g m q.
      let p = run_is n xs g m e q in
      omega (arith, best.1.1 p.0 r p.1, ap (λ (x : FreeRange). x.length) (p.2 r), ap (λ (x : FreeRange). x.length) (best.2 r));
  lowest = λ g m q lt.
      let p = run_is n xs g m e q in
      let mine : (get_or xs best.0 r).first ≡ r.first = ap (λ (x : FreeRange). x.first) (best.2 r) in
      let j : p.0 < best.0 = earlier_place p.0 best.0 p.1 (omega (arith, ap (λ (x : FreeRange). x.first) (p.2 r), mine)) in
      omega (arith, best.1.2 p.0 r j, ap (λ (x : FreeRange). x.length) (p.2 r), ap (λ (x : FreeRange). x.length) (best.2 r));
}
  where
    earlier_place : (i j : ℕ) → i < length xs → (get_or xs i r).first < (get_or xs j r).first → i < j
    earlier_place i j h lt = go (cases_order i j)
      where
        go : (i ≡ j) ⊎ ((i < j) ⊎ (j < i)) → i < j
        go (inl q) = absurd (let z : (get_or xs i r).first ≡ (get_or xs j r).first = ap (λ (m : ℕ). (get_or xs m r).first) q in omega arith)
        go (inr (inl l)) = l
        go (inr (inr g)) = absurd (let z = ltb-true _ _ (rises 0 n xs e j i r g h) in omega arith)

pub ranges_are_runs : RangesAreRuns
ranges_are_runs n rs e = record {
  few = at_most_half n rs e;
  run = λ i d lt. let r = get_or rs i d in run_at n r.first rs _ r (removes 0 n r.first rs r e (at_place 0 n rs i d e lt));
  range = λ f l q. run_is n rs f l e q;
}
