-- The laws of `count`.
use Rattle.std.proofs.Common.{◌≡◌, ℕ, zero, suc, ◌+◌, ◌-◌, ◌<◌, ◌≤◌, Bool, true, false, cond, ◌||◌, sym, refl, subst, ⊎_elim, add-one, arith}
use Rattle.std.proofs.lemmas.Bool.{cases_eq, cases_Bool}
use Rattle.blocks.specs.Sets.{count, Joins, Full, None, Same, Apart, union, Counting}

pub count_start : (s : ℕ → Bool) → count s 0 ≡ 0
unfolding count
count_start s = refl

pub count_step : (s : ℕ → Bool) (n : ℕ) → count s (n + 1) ≡ count s n + cond (s n) 1 0
unfolding count
count_step s n = simp add-one (omega arith)

pub count_bound : (s : ℕ → Bool) (n : ℕ) → count s n ≤ n
unfolding count
count_bound s zero = omega arith
count_bound s (suc n) =
    elim (s n) as (λ b. cond b 1 0 + count s n ≤ suc n) [ true ↦ omega (arith, count_bound s n) | false ↦ omega (arith, count_bound s n) ]

pub count_same : (s t : ℕ → Bool) (n : ℕ) → Same s t n → count t n ≡ count s n
unfolding count
count_same s t zero h = refl
count_same s t (suc n) h =
    let here : t n ≡ s n = h n (omega arith) in
    let rest : count t n ≡ count s n = count_same s t n (λ k l. h k (omega arith)) in
    rw (here, rest)

-- one number joins
pub count_more : (s t : ℕ → Bool) (k n : ℕ) → Joins s k t → k < n → count t n ≡ count s n + 1
unfolding count
count_more s t k zero j h = absurd (omega arith)
count_more s t k (suc n) j h =
    ⊎_elim
    (λ (e : k ≡ n).
    let is : t n ≡ true = subst (λ (i : ℕ). t i ≡ true) e j.is in
    let was : s n ≡ false = subst (λ (i : ℕ). s i ≡ false) e j.was in
    let rest : count t n ≡ count s n = count_same s t n (λ i l. j.others i (λ q. omega arith)) in
    rw (is, was, rest) (omega arith))
    (λ (ne : k ≡ n → ⊥).
    let here : t n ≡ s n = j.others n (λ q. ne (sym q)) in
    let rest : count t n ≡ count s n + 1 = count_more s t k n j (omega arith) in
    rw (here, rest) (omega arith))
    (cases_eq k n)

-- one number leaves
pub count_less : (s t : ℕ → Bool) (k n : ℕ) → Joins s k t → k < n → count s n ≡ count t n - 1
count_less s t k n j h = omega (arith, count_more s t k n j h)

pub count_full : (s : ℕ → Bool) (n : ℕ) → Full s n → count s n ≡ n
unfolding count
count_full s zero h = refl
count_full s (suc n) h =
    let here : s n ≡ true = h n (omega arith) in
    let rest : count s n ≡ n = count_full s n (λ k l. h k (omega arith)) in
    rw (here, rest) (omega arith)

pub count_all : (s : ℕ → Bool) (n : ℕ) → count s n ≡ n → Full s n
unfolding count
count_all s zero e k l = absurd (omega arith)
count_all s (suc n) e k l =
    ⊎_elim
    (λ (q : s n ≡ true).
    let rest : count s n ≡ n = (let d = rw q at e in omega arith) in
    ⊎_elim (λ (p : k ≡ n). rw p q) (λ (p : k ≡ n → ⊥). count_all s n rest k (omega arith)) (cases_eq k n))
    (λ (q : s n ≡ false). let d = rw q at e in absurd (omega (arith, count_bound s n)))
    (cases_Bool (s n))

pub count_empty : (s : ℕ → Bool) (n : ℕ) → None s n → count s n ≡ 0
unfolding count
count_empty s zero h = refl
count_empty s (suc n) h =
    let here : s n ≡ false = h n (omega arith) in
    let rest : count s n ≡ 0 = count_empty s n (λ k l. h k (omega arith)) in
    rw (here, rest) (omega arith)

pub count_none : (s : ℕ → Bool) (n : ℕ) → count s n ≡ 0 → None s n
unfolding count
count_none s zero e k l = absurd (omega arith)
count_none s (suc n) e k l =
    ⊎_elim
    (λ (q : s n ≡ true). let d = rw q at e in absurd (omega arith))
    (λ (q : s n ≡ false).
    let rest : count s n ≡ 0 = (let d = rw q at e in omega arith) in
    ⊎_elim (λ (p : k ≡ n). rw p q) (λ (p : k ≡ n → ⊥). count_none s n rest k (omega arith)) (cases_eq k n))
    (cases_Bool (s n))

-- one number of two sets that are apart
cond_sum : (a b : Bool) → (a ≡ true → b ≡ false) → cond (a || b) 1 0 ≡ cond a 1 0 + cond b 1 0
cond_sum true b h = rw (h refl)
cond_sum false true h = refl
cond_sum false false h = refl

pub count_sum : (s t : ℕ → Bool) (n : ℕ) → Apart s t n → count (union s t) n ≡ count s n + count t n
unfolding count
count_sum s t zero h = refl
count_sum s t (suc n) h =
    let here = cond_sum (s n) (t n) (h n (omega arith)) in
    let rest : count (union s t) n ≡ count s n + count t n = count_sum s t n (λ k l. h k (omega arith)) in
    omega arith

pub counting : Counting
counting = record {
  start = count_start;
  step = count_step;
  more = count_more;
  less = count_less;
  same = count_same;
  bound = count_bound;
  full = count_full;
  all = count_all;
  empty = count_empty;
  none = count_none;
  sum = count_sum;
}
