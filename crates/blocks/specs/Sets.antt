-- Sets of numbers, each as its test, and how many numbers below a bound they have. Assumes nothing.
--     count s n             how many of the numbers below n the set s has
--     Joins s n t           t is s with n, which s has not
--     Full s n, None s n    s has every number below n; s has none of them
--     Same s t n            s and t have the same numbers below n
--     Apart s t n           no number below n is in both
--     union s t             what s or t has
--     Counting              the laws of count
use Rattle.std.specs.Prelude.{◌≡◌, ℕ, zero, suc, ◌+◌, ◌-◌, ◌<◌, ◌≤◌, Bool, true, false, if◌then◌else◌, ◌||◌, ◌≢◌}

-- how many of the numbers below n the set s has
unfoldable pub count : (ℕ → Bool) → ℕ → ℕ
count s zero = 0
count s (suc n) = (if s n then 1 else 0) + count s n

-- t is s with n, which s has not
pub record Joins (s : ℕ → Bool) (n : ℕ) (t : ℕ → Bool) : Type 0 where
  pub was : s n ≡ false
  pub is : t n ≡ true
  pub others : (k : ℕ) → (k ≢ n) → t k ≡ s k

-- s has every number below n
abbrev pub Full : (ℕ → Bool) → ℕ → Type 0
Full s n = (k : ℕ) → k < n → s k ≡ true

-- s has no number below n
abbrev pub None : (ℕ → Bool) → ℕ → Type 0
None s n = (k : ℕ) → k < n → s k ≡ false

-- s and t have the same numbers below n
abbrev pub Same : (ℕ → Bool) → (ℕ → Bool) → ℕ → Type 0
Same s t n = (k : ℕ) → k < n → t k ≡ s k

-- no number below n is in both
abbrev pub Apart : (ℕ → Bool) → (ℕ → Bool) → ℕ → Type 0
Apart s t n = (k : ℕ) → k < n → s k ≡ true → t k ≡ false

-- what s or t has
abbrev pub union : (ℕ → Bool) → (ℕ → Bool) → ℕ → Bool
union s t k = s k || t k

-- the laws of count: its two steps, one number more or less, equal sets, its bounds and where it meets them, unions
pub record Counting : Type 0 where
  pub start : (s : ℕ → Bool) → count s 0 ≡ 0
  pub step : (s : ℕ → Bool) (n : ℕ) → count s (n + 1) ≡ count s n + (if s n then 1 else 0)
  pub more : (s t : ℕ → Bool) (k n : ℕ) → Joins s k t → k < n → count t n ≡ count s n + 1
  pub less : (s t : ℕ → Bool) (k n : ℕ) → Joins s k t → k < n → count s n ≡ count t n - 1
  pub same : (s t : ℕ → Bool) (n : ℕ) → Same s t n → count t n ≡ count s n
  pub bound : (s : ℕ → Bool) (n : ℕ) → count s n ≤ n
  pub full : (s : ℕ → Bool) (n : ℕ) → Full s n → count s n ≡ n
  pub all : (s : ℕ → Bool) (n : ℕ) → count s n ≡ n → Full s n
  pub empty : (s : ℕ → Bool) (n : ℕ) → None s n → count s n ≡ 0
  pub none : (s : ℕ → Bool) (n : ℕ) → count s n ≡ 0 → None s n
  pub sum : (s t : ℕ → Bool) (n : ℕ) → Apart s t n → count (union s t) n ≡ count s n + count t n
