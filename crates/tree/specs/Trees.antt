-- Block memory, pointers, and block trees by their places. Assumes nothing.
--     block_size, pointer_size    how many bytes a block and a pointer have
--     fan                         how many pointers an indirect block has
--     block mem n                 the bytes of block n
--     pointer_in bytes k          the pointer at place k of an indirect block, or nothing at a hole
--     child mem q k               what the pointer q leads to under index k; a hole leads to holes
--     at mem root d i             the pointer at depth d and index i of a tree, where depth 0 is the root
--     index_at h p d              the index at depth d of the path to position p, in a tree of height h
--     digit h p d                 which pointer that path follows in the indirect block at depth d
--     on_path mem root h p d      the pointer at depth d of the path to position p
--     Holds mem root h d i q      a tree of height h has the pointer q at depth d and index i
--     Reaches mem root h b        a tree of height h has a pointer to block b
--     Outside mem b               block b does not lie in the memory
--     Lost mem root h             a block that the tree reaches does not lie in the memory
use Rattle.std.specs.Prelude.{◌≡◌, ℕ, zero, suc, ◌+◌, ◌-◌, ◌*◌, ◌/◌, ◌%◌, ◌^◌, ◌<◌, ◌≤◌, if◌then◌else◌, List, length, take, drop, Some, None, Option, ◌==◌, slice_index}
use Rattle.records.specs.declared.rows.Pointer.{Pointer}

-- a block has 64 bytes, a pointer 8, and an indirect block 8 pointers
abbrev pub block_size : ℕ
block_size = 64

abbrev pub pointer_size : ℕ
pointer_size = 8

abbrev pub fan : ℕ
fan = 8

-- the bytes of block n, or fewer where the memory ends
abbrev pub block : List ℕ → ℕ → List ℕ
block mem n = take block_size (drop (block_size * n) mem)

-- four bytes from i on, most significant first
abbrev pub word_at : List ℕ → ℕ → ℕ
word_at bytes i = slice_index bytes i * 2 ^ 24 + slice_index bytes (i + 1) * 2 ^ 16 + slice_index bytes (i + 2) * 2 ^ 8 + slice_index bytes (i + 3)

-- a pointer to block b, born in group g; two zeros are a hole
abbrev pub pointer_of : ℕ → ℕ → Option Pointer
pointer_of b g = if b + g == 0 then None else Some (record { block = b; birth = g })

-- the pointer at place k of an indirect block: a block number, then a birth
unfoldable pub pointer_in : List ℕ → ℕ → Option Pointer
pointer_in bytes k = pointer_of (word_at bytes (pointer_size * k)) (word_at bytes (pointer_size * k + 4))

-- what a pointer leads to under index k; a hole leads to holes
unfoldable pub child : List ℕ → Option Pointer → ℕ → Option Pointer
child mem None k = None
child mem (Some q) k = pointer_in (block mem q.block) k

-- the pointer at depth d and index i: the root, or what the place above leads to
unfoldable pub at : List ℕ → Option Pointer → ℕ → ℕ → Option Pointer
at mem root zero i = root
at mem root (suc d) i = child mem (at mem root d (i / fan)) (i % fan)

-- the index at depth d of the path to position p: below a place there are 8 ^ (h - d) positions
abbrev pub index_at : ℕ → ℕ → ℕ → ℕ
index_at h p d = p / fan ^ (h - d)

-- which pointer the path follows at depth d, which is level h - d
abbrev pub digit : ℕ → ℕ → ℕ → ℕ
digit h p d = p / fan ^ (h - suc d) % fan

-- the pointer at depth d of the path to position p
abbrev pub on_path : List ℕ → Option Pointer → ℕ → ℕ → ℕ → Option Pointer
on_path mem root h p d = at mem root d (index_at h p d)

-- a tree of height h has the pointer q at depth d and index i
pub record Holds (mem : List ℕ) (root : Option Pointer) (h d i : ℕ) (q : Pointer) : Type 0 where
  pub deep : d ≤ h
  pub wide : i < fan ^ d
  pub here : at mem root d i ≡ Some q

-- some place of the tree has a pointer to block b
abbrev pub Reaches : List ℕ → Option Pointer → ℕ → ℕ → Type 0
Reaches mem root h b = (d : ℕ) × (i : ℕ) × (q : Pointer) × Holds mem root h d i q × (q.block ≡ b)

-- block b does not lie in the memory
abbrev pub Outside : List ℕ → ℕ → Type 0
Outside mem b = length mem < block_size * b + block_size

-- a block that is reached does not lie in the memory
abbrev pub Lost : List ℕ → Option Pointer → ℕ → Type 0
Lost mem root h = (b : ℕ) × Reaches mem root h b × Outside mem b
