-- Bits in a list of bytes. Assumes nothing.
--     bit v k             bit k of v, from the lowest, is 1
--     bits bytes          the set of the bits that are 1: bit k is bit k % 8 of byte k / 8, and 0 past the end
--     flipped bytes n     the bytes with bit n turned
--     cleared n bytes     the bytes with the first n at 0
--     FirstClear v a p    p is the first bit of v from a on that is 0, or 8 where there is none
--     Taken s a b         s has every number from a on and below b
--     FirstFree s a b n   n is the first of those that s has not
use Rattle.std.specs.Prelude.{◌≡◌, ℕ, ◌/◌, ◌%◌, ◌^◌, ◌<◌, ◌≤◌, Bool, true, false, List, ◌++◌, drop, replicate, ◌==◌, bit_xor, slice_index, slice_set}

-- bit k of v, from the lowest, is 1
abbrev pub bit : ℕ → ℕ → Bool
bit v k = v / 2 ^ k % 2 == 1

-- the bits that are 1
abbrev pub bits : List ℕ → ℕ → Bool
bits bytes k = bit (slice_index bytes (k / 8)) (k % 8)

-- the bytes with bit n turned
abbrev pub flipped : List ℕ → ℕ → List ℕ
flipped bytes n = slice_set bytes (n / 8) (bit_xor (slice_index bytes (n / 8)) (2 ^ (n % 8)))

-- the bytes with the first n at 0
abbrev pub cleared : ℕ → List ℕ → List ℕ
cleared n bytes = replicate n 0 ++ drop n bytes

-- the first bit of v from a on that is 0, or 8 where there is none
pub record FirstClear (v a p : ℕ) : Type 0 where
  pub from : a ≤ p
  pub within : p ≤ 8
  pub clear : p < 8 → bit v p ≡ false
  pub before : (k : ℕ) → a ≤ k → k < p → bit v k ≡ true

-- s has every number from a on and below b
abbrev pub Taken : (ℕ → Bool) → ℕ → ℕ → Type 0
Taken s a b = (k : ℕ) → a ≤ k → k < b → s k ≡ true

-- the first number from a on and below b that s has not
pub record FirstFree (s : ℕ → Bool) (a b n : ℕ) : Type 0 where
  pub from : a ≤ n
  pub under : n < b
  pub clear : s n ≡ false
  pub before : Taken s a n
