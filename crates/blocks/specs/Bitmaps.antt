-- A bitmap: what it means, when it is sound, and what its calls do to it. Assumes nothing.
--     needed n             how many bytes hold n bits
--     Suits n room         a map of n blocks fits `room` bytes
--     marked n bytes       the owned blocks: those below n whose bit is 1
--     mapped b             what the map b means
--     Makes n was b r      a map b of n blocks over bytes that held `was`, where r answers that it is made
--     Sound b              the bytes are enough for the size, and the number of free blocks is kept
--     turn a b n           when block n comes in going round from a: first the blocks from a on, then those before a
--     NextFree s a b n     the block that comes first, of those below b that s has not
--     Next b n, Spent b    block n comes first from the cursor of the map b on; b has no free block
--     past n b             the cursor after block n of b
--     Took b n w           w is b with block n owned, and the cursor past it
--     Gave b n w           w is b with block n free, and the cursor where it was
--     Kept b w             w is b
--     TakesNext b w r      a take that answers r goes from b to w
--     GivesBack b n w r    a give of block n that answers r goes from b to w
use Rattle.std.specs.Prelude.{◌≡◌, ℕ, ◌+◌, ◌-◌, ◌/◌, ◌^◌, ◌<◌, ◌≤◌, min, Bool, true, false, if◌then◌else◌, ◌&&◌, List, length, Ok, Err, Result, nat_le, nat_lt}
use Rattle.std.proofs.lemmas.Bool.{and_parts, ltb-true}
use Rattle.faults.specs.declared.MemoryCause.{MemoryCause}
use Rattle.faults.specs.declared.MemoryCause.TheVariants.{BadShape, BlocksShort}
use Rattle.blocks.specs.Bits.{bits, cleared, flipped}
use Rattle.blocks.specs.Meanings.{Meaning, free}
use Rattle.blocks.specs.Sets.{Full}
use Rattle.blocks.specs.Sizes.{most, SizeFits}
use Rattle.blocks.specs.declared.NotOwned.{NotOwned}
use Rattle.blocks.specs.declared.bitmap.Bitmap.{Bitmap}

-- how many bytes hold n bits
abbrev pub needed : ℕ → ℕ
needed n = (n + 7) / 8

-- a map of n blocks fits so many bytes
abbrev pub Suits : ℕ → ℕ → Type 0
Suits n room = SizeFits n (needed n) room

-- the owned blocks: those below n whose bit is 1
abbrev pub marked : ℕ → List ℕ → ℕ → Bool
marked n bytes k = nat_lt k n && bits bytes k

pub marked_below : (n : ℕ) (bytes : List ℕ) (k : ℕ) → marked n bytes k ≡ true → k < n
marked_below n bytes k e = ltb-true k n (and_parts (nat_lt k n) (bits bytes k) e).0

-- what a map means
abbrev pub mapped : Bitmap → Meaning
mapped b = record { size = b.size; owns = marked b.size b.bytes.now; below = marked_below b.size b.bytes.now }

-- the bytes are enough for the size, and the number of free blocks is kept
pub record Sound (b : Bitmap) : Type 0 where
  pub few : b.size ≤ most
  pub room : needed b.size ≤ length b.bytes.now
  pub counted : b.left ≡ free (mapped b)

-- a new map: its bytes are cleared; or it can't be made, has size 0, and its bytes are as they were
abbrev pub Makes : ℕ → List ℕ → Bitmap → Result (Unit {0}) MemoryCause → Type 0
Makes n was b (Ok _) = Suits n (length was) × (b.size ≡ n) × (b.bytes.now ≡ cleared (needed n) was)
Makes n was b (Err cause) = (cause ≡ BadShape) × (Suits n (length was) → ⊥) × (b.size ≡ 0) × (b.bytes.now ≡ was)

-- when block n comes in going round from a: n from a on, and n on the next round, which begins at b, before a
abbrev pub turn : ℕ → ℕ → ℕ → ℕ
turn a b n = if nat_le a n then n else b + n

-- the block that comes first in going round from a, of those below b that s has not
pub record NextFree (s : ℕ → Bool) (a b n : ℕ) : Type 0 where
  pub under : n < b
  pub clear : s n ≡ false
  pub first : (k : ℕ) → k < b → s k ≡ false → turn a b n ≤ turn a b k

-- the free block that comes first from the cursor on
abbrev pub Next : Bitmap → ℕ → Type 0
Next b n = NextFree (mapped b).owns b.cursor b.size n

-- every block is owned
abbrev pub Spent : Bitmap → Type 0
Spent b = Full (mapped b).owns b.size

-- the cursor after block n of b
abbrev pub past : ℕ → ℕ → ℕ
past n b = if nat_lt (n + 1) b then n + 1 else 0

-- block n's bit is turned, the cursor is past it, and one block less is free
pub record Took (b : Bitmap) (n : ℕ) (w : Bitmap) : Type 0 where
  pub bytes : w.bytes.now ≡ flipped b.bytes.now n
  pub size : w.size ≡ b.size
  pub cursor : w.cursor ≡ past n b.size
  pub left : w.left ≡ b.left - 1

-- block n's bit is turned, the cursor stays, and one block more is free
pub record Gave (b : Bitmap) (n : ℕ) (w : Bitmap) : Type 0 where
  pub bytes : w.bytes.now ≡ flipped b.bytes.now n
  pub size : w.size ≡ b.size
  pub cursor : w.cursor ≡ b.cursor
  pub left : w.left ≡ min (b.left + 1) (2 ^ 32 - 1)

-- nothing changes
pub record Kept (b w : Bitmap) : Type 0 where
  pub bytes : w.bytes.now ≡ b.bytes.now
  pub size : w.size ≡ b.size
  pub cursor : w.cursor ≡ b.cursor
  pub left : w.left ≡ b.left

-- a take: the block that comes first from the cursor on; or none is free, and nothing changes
abbrev pub TakesNext : Bitmap → Bitmap → Result ℕ MemoryCause → Type 0
TakesNext b w (Ok n) = Next b n × Took b n w
TakesNext b w (Err cause) = (cause ≡ BlocksShort) × Spent b × Kept b w

-- a give of block n: it was owned; or it was not, and nothing changes
abbrev pub GivesBack : Bitmap → ℕ → Bitmap → Result (Unit {0}) NotOwned → Type 0
GivesBack b n w (Ok _) = ((mapped b).owns n ≡ true) × Gave b n w
GivesBack b n w (Err _) = ((mapped b).owns n ≡ false) × Kept b w
