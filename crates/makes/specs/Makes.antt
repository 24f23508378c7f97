-- An allocator of either make.
--     make_of a            which make it is
--     meaning_of a         its size and its owned blocks, as its make has them
--     Sound a              what holds of it while only its own calls change it
--     Suits m n b r        an allocator of make m with n blocks fits b bytes or r ranges
use Rattle.std.specs.Prelude.{ℕ}
use Rattle.blocks.specs.Bitmaps as bitmaps
use Rattle.blocks.specs.Meanings.{Meaning}
use Rattle.ranges.specs.Maps as maps
use Rattle.ranges.specs.Ranges as ranges
use Rattle.makes.specs.declared.Make.{Make}
use Rattle.makes.specs.declared.Make.TheVariants as make
use Rattle.makes.specs.declared.AnyAllocator.{AnyAllocator}
use Rattle.makes.specs.declared.AnyAllocator.TheVariants.{Bits, Ranges}

-- which make it is
abbrev pub make_of : AnyAllocator → Make
make_of (Bits map) = make.Bits
make_of (Ranges map) = make.Ranges

-- what it means
abbrev pub meaning_of : AnyAllocator → Meaning
meaning_of (Bits map) = bitmaps.mapped map
meaning_of (Ranges map) = maps.map_of map

-- what its own calls keep
abbrev pub Sound : AnyAllocator → Type 0
Sound (Bits map) = bitmaps.Sound map
Sound (Ranges map) = maps.Sound map

-- a bitmap is held by bytes, a range map by ranges
abbrev pub Suits : Make → ℕ → ℕ → ℕ → Type 0
Suits make.Bits n bytes places = bitmaps.Suits n bytes
Suits make.Ranges n bytes places = ranges.Suits n places
