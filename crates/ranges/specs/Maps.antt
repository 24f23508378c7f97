-- A range map, by what it means as an allocator. Assumes nothing.
--     map_of m               its size, and the blocks that lie in none of its free ranges
--     Sound m                it holds maximal ranges, with a place for as many as there can be, and the right number of free blocks
--     Makes n was m r        a map m of n blocks over places that held `was`, where r answers that it is made
--     TakesLongest m r       a take from the map m that answers r took the first block of the longest run, the lowest among equals
use Rattle.std.specs.Prelude.{◌≡◌, ℕ, ◌<◌, true, List, length, Ok, Err, Result, nat_lt, slice_set}
use Rattle.std.proofs.lemmas.Bool.{and_parts, ltb-true}
use Rattle.faults.specs.declared.MemoryCause.{MemoryCause}
use Rattle.faults.specs.declared.MemoryCause.TheVariants.{BadShape}
use Rattle.blocks.specs.Meanings.{Meaning, free}
use Rattle.ordered.specs.Lent.{records}
use Rattle.records.specs.declared.ranges.FreeRange.{FreeRange}
use Rattle.ranges.specs.Ranges.{all, held, Suits}
use Rattle.ranges.specs.Runs.{FirstOfLongest}
use Rattle.ranges.specs.Steps.{Regular}
use Rattle.ranges.specs.declared.range_map.RangeMap.{RangeMap}

-- an owned block is below the size
pub held_below : (m : RangeMap) (k : ℕ) → held m.size (records m.ranges) k ≡ true → k < m.size
held_below m k e = ltb-true k m.size (and_parts (nat_lt k m.size) _ e).0

-- what is not free is owned
abbrev pub map_of : RangeMap → Meaning
map_of m = record { size = m.size; owns = held m.size (records m.ranges); below = held_below m }

-- what holds of a map that only its own calls have changed
pub record Sound (m : RangeMap) : Type 0 where
  pub regular : Regular m.size m.ranges
  pub counted : m.spare ≡ free (map_of m)

-- it has that size, which suits the places, and its first place holds the range of all blocks; or it is refused, since the
-- size does not suit them, has size 0, and its places are as they were
abbrev pub Makes : ℕ → List FreeRange → RangeMap → Result (Unit {0}) MemoryCause → Type 0
Makes n was m (Ok _) = Suits n (length was) × ((map_of m).size ≡ n) × (m.ranges.places.now ≡ slice_set was 0 (all n))
Makes n was m (Err cause) = (cause ≡ BadShape) × (Suits n (length was) → ⊥) × ((map_of m).size ≡ 0) × (m.ranges.places.now ≡ was)

-- nothing is said where it refuses
abbrev pub TakesLongest : RangeMap → Result ℕ MemoryCause → Type 0
TakesLongest m (Ok n) = FirstOfLongest (map_of m).owns (map_of m).size n
TakesLongest m (Err _) = Unit {0}
