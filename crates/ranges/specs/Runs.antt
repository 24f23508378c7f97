-- Maximal runs of blocks that are not owned. Assumes nothing.
--     Run s n f l               of the blocks below n, the l from f on are not in the set s, and those next to them are
--     FirstOfLongest s n f      f is the first block of the longest run, the lowest among equals
--     Maximal n rs              the ranges rs are the runs of the blocks that are not owned, and there are few
--     RangesAreRuns             that holds of all ranges that stand apart
use Rattle.std.specs.Prelude.{◌≡◌, ℕ, ◌+◌, ◌/◌, ◌<◌, ◌≤◌, Bool, true, false, List, length, slice_index_or}
use Rattle.records.specs.declared.ranges.FreeRange.{FreeRange}
use Rattle.ranges.specs.Ranges.{apart, held}

-- a run has a block, and cannot grow on either side
pub record Run (s : ℕ → Bool) (n f l : ℕ) : Type 0 where
  pub some : 0 < l
  pub high : f + l ≤ n
  pub free : (k : ℕ) → f ≤ k → k < f + l → s k ≡ false
  pub before : (k : ℕ) → k + 1 ≡ f → s k ≡ true
  pub after : f + l < n → s (f + l) ≡ true

-- no run is longer, and every one before it is shorter
pub record FirstOfLongest (s : ℕ → Bool) (n f : ℕ) : Type 0 where
  pub long : ℕ
  pub run : Run s n f long
  pub longest : (g m : ℕ) → Run s n g m → m ≤ long
  pub lowest : (g m : ℕ) → Run s n g m → g < f → m < long

-- each range is a run, each run is one of the ranges, and at most every second block begins one
pub record Maximal (n : ℕ) (rs : List FreeRange) : Type 0 where
  pub few : length rs ≤ (n + 1) / 2
  pub run : (i : ℕ) (d : FreeRange) → i < length rs → Run (held n rs) n (slice_index_or rs i d).first (slice_index_or rs i d).length
  pub range : (f l : ℕ) → Run (held n rs) n f l → (i : ℕ) × (i < length rs) × ((d : FreeRange) → slice_index_or rs i d ≡ record { first = f; length = l })

-- of every size and all ranges
abbrev pub RangesAreRuns : Type 0
RangesAreRuns = (n : ℕ) (rs : List FreeRange) → apart 0 n rs ≡ true → Maximal n rs
