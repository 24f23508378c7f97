-- The sizes that an allocator can have. Assumes nothing.
--     most                     the largest size
--     SizeFits n wanted room   an allocator of n blocks, which wants so much memory, can be made over `room`
use Rattle.std.specs.Prelude.{ℕ, ◌≤◌}

-- the largest size
abbrev pub most : ℕ
most = 32768

-- it has a block, not too many, and all the memory that it wants
abbrev pub SizeFits : ℕ → ℕ → ℕ → Type 0
SizeFits n wanted room = (1 ≤ n) × (n ≤ most) × (wanted ≤ room)
