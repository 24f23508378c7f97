-- The steps of a take and a give on the table of free ranges. Assumes nothing.
--     Regular n t            the table t holds maximal ranges of n blocks, and has places for as many as there can be
--     Clear rs r             neither a block of the range r nor one next to it lies in rs
--     Cut n xs ys r          xs is ys with the range r, which stands clear of ys and may be empty
--     Rest n t u             the tables t and u hold the same in the places past those that n blocks need
--     CutAfter n t b u l     the table u is t without the range that begins right after block b, of l blocks or none
--     Took n t b u           the table u is t with block b taken
--     Gave n t b u           the table u is t with block b given back
--     PutsBack t b l u       where t holds maximal ranges, b is owned and l blocks right before it are free, u is t with b given back
use Rattle.std.specs.Prelude.{◌≡◌, ℕ, ◌+◌, ◌≤◌, true, false, ◌||◌, List, drop}
use Rattle.blocks.specs.Sets.{Joins}
use Rattle.blocks.specs.Sizes.{most}
use Rattle.ordered.specs.Lent.{records, room}
use Rattle.ordered.specs.declared.tables.Table.{Table}
use Rattle.records.specs.declared.ranges.FreeRange.{FreeRange}
use Rattle.ranges.specs.Ranges.{needed, within, in_some, apart, held, range_at, Reaches}

-- maximal ranges, with the places that they can need
pub record Regular (n : ℕ) (t : Table FreeRange) : Type 0 where
  pub few : n ≤ most
  pub places : needed n ≤ room t
  pub maximal : apart 0 n (records t) ≡ true

-- from the block before it to the one after it
abbrev pub Clear : List FreeRange → FreeRange → Type 0
Clear rs r = (k : ℕ) → r.first ≤ k + 1 → k ≤ r.first + r.length → in_some rs k ≡ false

-- a block of xs lies in r or in ys
pub record Cut (n : ℕ) (xs ys : List FreeRange) (r : FreeRange) : Type 0 where
  pub maximal : apart 0 n ys ≡ true
  pub blocks : (k : ℕ) → in_some xs k ≡ (within r k || in_some ys k)
  pub clear : Clear ys r
  pub high : r.first + r.length ≤ n

-- whatever they hold
abbrev pub Rest : ℕ → Table FreeRange → Table FreeRange → Type 0
Rest n t u = drop (needed n) u.places.now ≡ drop (needed n) t.places.now

-- the ranges that begin at or before block b are as they were
pub record CutAfter (n : ℕ) (t : Table FreeRange) (b : ℕ) (u : Table FreeRange) (l : ℕ) : Type 0 where
  pub regular : Regular n u
  pub cut : Cut n (records t) (records u) (record { first = b + 1; length = l })
  pub before : (k : ℕ) → k ≤ b → range_at (records u) k ≡ range_at (records t) k
  pub rest : Rest n t u

-- b was free and is owned, and nothing else changes
pub record Took (n : ℕ) (t : Table FreeRange) (b : ℕ) (u : Table FreeRange) : Type 0 where
  pub regular : Regular n u
  pub owned : Joins (held n (records t)) b (held n (records u))
  pub rest : Rest n t u

-- b was owned and is free, and nothing else changes
pub record Gave (n : ℕ) (t : Table FreeRange) (b : ℕ) (u : Table FreeRange) : Type 0 where
  pub regular : Regular n u
  pub owned : Joins (held n (records u)) b (held n (records t))
  pub rest : Rest n t u

-- of whatever size the ranges are
abbrev pub PutsBack : Table FreeRange → ℕ → ℕ → Table FreeRange → Type 0
PutsBack t b l u = (n : ℕ) → Regular n t → held n (records t) b ≡ true → Reaches (records t) b l → Gave n t b u
