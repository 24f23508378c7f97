use Rattle.std.proofs.Common.{◌≡◌, Bool, true, false, cond, ltb, List, [], ◌∷◌, map, length, Option, None, Some, MatchOption, Bor, refl, sym, ap, ◌∙◌, subst, rules}
use Rattle.std.specs.List.{best_of}
use Rattle.std.specs.Option.{option_map}
use Rattle.std.proofs.lemmas.Bool.{ltb-true, ltb-false}
use Rattle.std.proofs.lemmas.List.{get_or_default}
use Rattle.std.proofs.lemmas.List.MinMax.{IsFirstBest-from_best_of, IsStrictWeakOrder-by_number, IsStrictWeakOrder-flip}
use Rattle.records.specs.declared.ranges.FreeRange.{FreeRange}
use Rattle.ranges.specs.Ranges.{Longest}
use Rattle.ranges.proofs.free.longest.Goals as goal

-- y is the best of references to the ranges xs, gone through from the first on
abbrev Best : List FreeRange → Bor FreeRange → Type 0
Best xs y = (x : Bor FreeRange) × (rest : List (Bor FreeRange)) × (xs ≡ x.now ∷ map (λ r. r.now) rest) × (y ≡ best_of (λ r best. ltb best.now.length r.now.length) x rest)

chosen : (b : Bool) (r x : Bor FreeRange) → (cond b r x).now ≡ cond b r.now x.now
chosen true r x = refl
chosen false r x = refl

-- it leads to the best of the ranges
best_now : (x : Bor FreeRange) (rest : List (Bor FreeRange))
    → (best_of (λ r best. ltb best.now.length r.now.length) x rest).now ≡ best_of (λ r best. ltb best.length r.length) x.now (map (λ r. r.now) rest)
best_now x [] = refl
best_now x (r ∷ rest) = best_now (cond (ltb x.now.length r.now.length) r x) rest
    ∙ ap (λ y. best_of (λ r best. ltb best.length r.length) y (map (λ r. r.now) rest)) (chosen (ltb x.now.length r.now.length) r x)

longest_of : (xs : List FreeRange) (r : Option (Bor FreeRange)) → MatchOption r (length xs ≡ 0) (Best xs) → MatchOption (option_map (λ r. r.now) r) (length xs ≡ 0) (Longest xs)
longest_of xs None h = h
longest_of xs (Some y) (x, rest, is, best) =
    let order = IsStrictWeakOrder-flip _ (IsStrictWeakOrder-by_number (λ (r : FreeRange). r.length)) in
    let others = map (λ (r : Bor FreeRange). r.now) rest in
    let first = IsFirstBest-from_best_of order x.now others in
    let same = sym (ap (λ (r : Bor FreeRange). r.now) best ∙ best_now x rest) in
    subst (λ xs. Longest xs y.now) (sym is)
    (first.0, (first.1.0, (λ k d h. ltb-false _ _ (first.1.1 k d h)), (λ k d h. ltb-true _ _ (first.1.2 k d h))), λ d. get_or_default (x.now ∷ others) first.0 d x.now first.1.0 ∙ first.2 ∙ same)

pub returns : goal.returns
returns c =
    let xs = c.args.ranges.now in
    let best : MatchOption c.reduce.result (length xs ≡ 0) (Best xs) = search rules in
    record { value = subst (λ o. MatchOption o (length xs ≡ 0) (Longest xs)) (sym c.copied.ensures) (longest_of xs c.reduce.result best) }
