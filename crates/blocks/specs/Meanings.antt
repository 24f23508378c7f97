-- What an allocator means, and what its calls do to that. Assumes nothing.
--     Meaning             a size, and a set of owned blocks, each below the size
--     owned m, free m     how many blocks are owned, and how many are not
--     Alike m w           the same size
--     Unchanged m w       the same size, and the same blocks are owned
--     Taking m w r        a take that answers r goes from m to w
--     Giving m n w r      a give of block n that answers r goes from m to w
--     Calling             what every take and every give does to the numbers
use Rattle.std.specs.Prelude.{◌≡◌, ℕ, ◌+◌, ◌-◌, ◌<◌, Bool, true, false, Ok, Err, Result}
use Rattle.faults.specs.declared.MemoryCause.{MemoryCause}
use Rattle.faults.specs.declared.MemoryCause.TheVariants.{BlocksShort}
use Rattle.blocks.specs.Sets.{count, Joins}
use Rattle.blocks.specs.declared.NotOwned.{NotOwned}

-- a size, and the owned blocks, each below it
pub record Meaning : Type 0 where
  pub size : ℕ
  pub owns : ℕ → Bool
  pub below : (k : ℕ) → owns k ≡ true → k < size

-- how many blocks are owned
abbrev pub owned : Meaning → ℕ
owned m = count m.owns m.size

-- how many blocks are free
abbrev pub free : Meaning → ℕ
free m = m.size - owned m

-- the same size
abbrev pub Alike : Meaning → Meaning → Type 0
Alike m w = w.size ≡ m.size

-- the same size, and the same blocks are owned
pub record Unchanged (m w : Meaning) : Type 0 where
  pub size : Alike m w
  pub owns : (k : ℕ) → w.owns k ≡ m.owns k

-- a take: a block that was free is owned now; or as many were owned as there are, and nothing changes
abbrev pub Taking : Meaning → Meaning → Result ℕ MemoryCause → Type 0
Taking m w (Ok n) = Alike m w × Joins m.owns n w.owns
Taking m w (Err cause) = (cause ≡ BlocksShort) × (owned m ≡ m.size) × Unchanged m w

-- a give: block n was owned and is free now; or it was not owned, and nothing changes
abbrev pub Giving : Meaning → ℕ → Meaning → Result (Unit {0}) NotOwned → Type 0
Giving m n w (Ok _) = Alike m w × Joins w.owns n m.owns
Giving m n w (Err _) = (m.owns n ≡ false) × Unchanged m w

-- what every take and every give does to the numbers; a block that was taken is below the size
pub record Calling : Type 0 where
  pub inside : (m w : Meaning) (n : ℕ) → Taking m w (Ok n) → n < m.size
  pub more : (m w : Meaning) (n : ℕ) → Taking m w (Ok n) → owned w ≡ owned m + 1
  pub less : (m w : Meaning) (n : ℕ) → Giving m n w (Ok tt) → owned m ≡ owned w + 1
  pub spent : (m w : Meaning) (n : ℕ) → Taking m w (Ok n) → free m ≡ free w + 1
  pub regained : (m w : Meaning) (n : ℕ) → Giving m n w (Ok tt) → free w ≡ free m + 1
  pub unchanged : (m w : Meaning) → Unchanged m w → owned w ≡ owned m
