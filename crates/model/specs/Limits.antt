-- The numbers that limit a pool.
--     IsDatasetNumber n  n may number a dataset
--     Height h           h may be the height of a dataset's tree
--     Group g            g may be a group number
--     PoolSize n         a pool may have n blocks
--     RowRoom n          a row table may have n places
--     DeadRoom n         a table of dead records may have n places
use Rattle.std.specs.Prelude.{ℕ, ◌≤◌}

-- dataset numbers are 1 to 999
abbrev pub IsDatasetNumber : ℕ → Type 0
IsDatasetNumber n = (1 ≤ n) × (n ≤ 999)

-- heights are 1 to 4
abbrev pub Height : ℕ → Type 0
Height h = (1 ≤ h) × (h ≤ 4)

-- group numbers are 1 to 65535
abbrev pub Group : ℕ → Type 0
Group g = (1 ≤ g) × (g ≤ 65535)

-- pools have 1 to 32768 blocks
abbrev pub PoolSize : ℕ → Type 0
PoolSize n = (1 ≤ n) × (n ≤ 32768)

-- row tables have 1 to 256 places
abbrev pub RowRoom : ℕ → Type 0
RowRoom n = (1 ≤ n) × (n ≤ 256)

-- tables of dead records have 1 to 32768 places
abbrev pub DeadRoom : ℕ → Type 0
DeadRoom n = (1 ≤ n) × (n ≤ 32768)
