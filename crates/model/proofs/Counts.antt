-- Counts of sets that balance, or that cover one another.
--     count_balance    four sets that balance at each number balance in their counts
--     count_part       a part of a set has at most as many
--     covered          a set that j numbers cover has at most j
use Rattle.std.proofs.Common.{◌≡◌, ℕ, zero, suc, ◌+◌, ◌<◌, ◌≤◌, Bool, true, false, cond, not, ◌&&◌, eqb, ◌⊎◌, sym, refl, ap, ◌∙◌, inl, inr, arith}
use Rattle.std.proofs.lemmas.Bool.{cases_eq, cases_lt, cases_Bool, both_ways, and_parts, and_from, eqb-true, eq-eqb, ne_eqb, not-true, not_from_false}
use Rattle.blocks.specs.Sets.{count}
use Rattle.blocks.proofs.Counts.{count_empty}
use Rattle.model.proofs.Sums.{single}

pub count_balance : (a b c d : ℕ → Bool) (n : ℕ) → ((k : ℕ) → k < n → cond (a k) 1 0 + cond (b k) 1 0 ≡ cond (c k) 1 0 + cond (d k) 1 0)
    → count a n + count b n ≡ count c n + count d n
unfolding count
count_balance a b c d zero each = refl
count_balance a b c d (suc n) each =
    let here = each n (omega arith) in
    let rest = count_balance a b c d n (λ k less. each k (omega arith)) in
    omega arith

-- a set that is covered by two has at most as many as both
count_within : (f g h : ℕ → Bool) (n : ℕ) → ((b : ℕ) → b < n → f b ≡ true → (g b ≡ true) ⊎ (h b ≡ true)) → count f n ≤ count g n + count h n
unfolding count
count_within f g h zero each = omega arith
count_within f g h (suc n) each =
    let rest = count_within f g h n (λ b low. each b (omega arith)) in
    let here = go (f n) (g n) (h n) (each n (omega arith)) in
    omega arith
  where
    go : (a b c : Bool) → (a ≡ true → (b ≡ true) ⊎ (c ≡ true)) → cond a 1 0 ≤ cond b 1 0 + cond c 1 0
    go false b c one = omega arith
    go true true c one = omega arith
    go true false true one = omega arith
    go true false false one = absurd (nothing (one refl))
      where
        nothing : (false ≡ true) ⊎ (false ≡ true) → ⊥
        nothing (inl e) = both_ways false refl e
        nothing (inr e) = both_ways false refl e

-- a part of a set has at most as many
pub count_part : (f g : ℕ → Bool) (n : ℕ) → ((b : ℕ) → b < n → f b ≡ true → g b ≡ true) → count f n ≤ count g n
count_part f g n part =
    omega (arith, count_within f g (λ b. false) n (λ b low is. inl (part b low is)), count_empty (λ b. false) n (λ b _. refl))

-- a set of one number has at most one
count_one : (c n : ℕ) → count (eqb c) n ≤ 1
count_one c n = go (cases_lt c n)
  where
    go : (c < n) ⊎ (n ≤ c) → count (eqb c) n ≤ 1
    go (inl low) =
        let one = single c n low in
        omega (arith, count_part (eqb c) one.test n (λ b less is. (one.tells b less).1 (eqb-true c b is)), one.counted)
    go (inr high) = omega (arith, count_empty (eqb c) n (λ b low. ne_eqb c b (λ e. omega arith)))

-- a set that the first j of some numbers cover has at most j
pub covered : (number : ℕ → ℕ) (j : ℕ) (test : ℕ → Bool) (n : ℕ) → ((b : ℕ) → b < n → test b ≡ true → (e : ℕ) × (e < j) × (number e ≡ b)) → count test n ≤ j
covered number zero test n each = omega (arith, count_part test (λ b. false) n (λ b low is. (let one = each b low is in absurd (omega (arith, one.1)))), count_empty (λ b. false) n (λ b _. refl))
covered number (suc j) test n each =
    let rest = covered number j others n less in
    omega (arith, count_within test others (eqb (number j)) n split, count_one (number j) n)
  where
    others : ℕ → Bool
    others b = test b && not (eqb (number j) b)

    split : (b : ℕ) → b < n → test b ≡ true → (others b ≡ true) ⊎ (eqb (number j) b ≡ true)
    split b low is = go (cases_Bool (eqb (number j) b))
      where
        go : (eqb (number j) b ≡ true) ⊎ (eqb (number j) b ≡ false) → (others b ≡ true) ⊎ (eqb (number j) b ≡ true)
        go (inl last) = inr last
        go (inr other) = inl (and_from _ _ is (not_from_false _ other))

    less : (b : ℕ) → b < n → others b ≡ true → (e : ℕ) × (e < j) × (number e ≡ b)
    less b low is =
        let parts = and_parts (test b) (not (eqb (number j) b)) is in
        let (e, small, at) = each b low parts.0 in
        (e, go e small at (not-true (eqb (number j) b) parts.1) (cases_eq e j), at)
      where
        go : (e : ℕ) → e < suc j → number e ≡ b → eqb (number j) b ≡ false → (e ≡ j) ⊎ (e ≡ j → ⊥) → e < j
        go e small at other (inl last) = absurd (both_ways (eqb (number j) b) other (eq-eqb (number j) b (ap number (sym last) ∙ at)))
        go e small at other (inr before) = omega arith
