-- Free ranges of blocks, kept by their first block. Assumes nothing.
--     needed n            how many places n blocks need
--     within r k          block k lies in the range r
--     in_some rs k        block k lies in one of the ranges
--     apart low n rs      the ranges stand apart: from block low on and below n, ascending, none empty, none adjacent
--     held n rs k         block k of n is owned: it lies in no free range
--     at_block k          the key of a range that begins at block k
--     range_at rs k       the range that begins at block k, if any
--     without rs k        the ranges but for that one
--     last_before rs k    the last range that begins before block k, if any
--     or_else o r         the range o where there is one, else r
--     has o k, long o     whether the range o holds block k, and its length: no and 0 where there is none
--     reach o k           the length of the range o where it ends right before block k, else 0
--     Reaches rs k l      so long is the range that ends right before block k; 0 where none does
--     all n               the range of all n blocks
--     rest_of r           the range without its first block
--     joined l k r        block k with l blocks before it and r after it
--     Longest rs r        r is the longest of the ranges, the lowest among equals
--     Suits n places      a map of n blocks can be made over so many places
use Rattle.std.specs.Prelude.{◌≡◌, ℕ, ◌+◌, ◌-◌, ◌/◌, ◌<◌, ◌≤◌, Bool, true, false, if◌then◌else◌, not, ◌&&◌, ◌||◌, List, [], ◌∷◌, length, Some, None, Option, ◌==◌, nat_le, nat_lt, slice_index_or}
use Rattle.std.specs.List.{IsFirstMaxByKey}
use Rattle.blocks.specs.Sizes.{SizeFits}
use Rattle.ordered.specs.Tables.{record_of, without_key}
use Rattle.records.specs.Keys.{first_of, first_below}
use Rattle.records.specs.declared.ranges.FreeRange.{FreeRange}
use Rattle.records.specs.declared.ranges.FirstBlock.{FirstBlock}

-- a place for every second block
abbrev pub needed : ℕ → ℕ
needed n = (n + 1) / 2

-- from its first block on, as many as its length
abbrev pub within : FreeRange → ℕ → Bool
within r k = nat_le r.first k && nat_lt k (r.first + r.length)

-- one of them holds it
abbrev pub in_some : List FreeRange → ℕ → Bool
in_some [] k = false
in_some (r ∷ rs) k = within r k || in_some rs k

-- each begins past the block after the one before it, has a block, and ends within n
abbrev pub apart : ℕ → ℕ → List FreeRange → Bool
apart low n [] = true
apart low n (r ∷ rs) = nat_le low r.first && (nat_lt 0 r.length && (nat_le (r.first + r.length) n && apart (r.first + r.length + 1) n rs))

-- below the size, and not free
abbrev pub held : ℕ → List FreeRange → ℕ → Bool
held n rs k = nat_lt k n && not (in_some rs k)

-- the key
abbrev pub at_block : ℕ → FirstBlock
at_block k = record { 0 = k }

-- the one with that key
abbrev pub range_at : List FreeRange → ℕ → Option FreeRange
range_at rs k = record_of first_of first_below rs (at_block k)

-- the others
abbrev pub without : List FreeRange → ℕ → List FreeRange
without rs k = without_key first_of first_below rs (at_block k)

-- the first where there is one, else the second
abbrev pub or_else : Option FreeRange → FreeRange → Option FreeRange
or_else None x = Some x
or_else (Some y) x = Some y

-- the last of those that begin before block k
abbrev pub last_before : List FreeRange → ℕ → Option FreeRange
last_before [] k = None
last_before (r ∷ rs) k = if nat_lt r.first k then or_else (last_before rs k) r else None

-- there is a range, and it holds block k
abbrev pub has : Option FreeRange → ℕ → Bool
has None k = false
has (Some r) k = within r k

-- there is a range: its length
abbrev pub long : Option FreeRange → ℕ
long None = 0
long (Some r) = r.length

-- there is a range, and it ends right before block k: its length
abbrev pub reach : Option FreeRange → ℕ → ℕ
reach None k = 0
reach (Some r) k = if r.first + r.length == k then r.length else 0

-- the range of l blocks before block k is one of rs; where l is 0, the block before k is not free
pub record Reaches (rs : List FreeRange) (k l : ℕ) : Type 0 where
  pub fits : l ≤ k
  pub some : 0 < l → range_at rs (k - l) ≡ Some (record { first = k - l; length = l })
  pub none : l ≡ 0 → (j : ℕ) → j + 1 ≡ k → in_some rs j ≡ false

-- from block 0 on
abbrev pub all : ℕ → FreeRange
all n = record { first = 0; length = n }

-- one block later, and one block less
abbrev pub rest_of : FreeRange → FreeRange
rest_of r = record { first = r.first + 1; length = r.length - 1 }

-- l blocks, block k and r blocks
abbrev pub joined : ℕ → ℕ → ℕ → FreeRange
joined l k r = record { first = k - l; length = l + 1 + r }

-- no range is longer, and every one before it is shorter
abbrev pub Longest : List FreeRange → FreeRange → Type 0
Longest rs r = (i : ℕ) × IsFirstMaxByKey (λ (x : FreeRange). x.length) rs (length rs) i × ((d : FreeRange) → slice_index_or rs i d ≡ r)

-- the size is from 1 to the largest, and there are the places that it needs
abbrev pub Suits : ℕ → ℕ → Type 0
Suits n places = SizeFits n (needed n) places
