-- The path to a position, and what replaces it in a write or a discard.
--     word_bytes, pointer_bytes    the bytes of a number and of a pointer
--     led mem q                    the bytes of the block that q points to, or holes where q is one
--     with_pointer bytes k q       the bytes with the pointer q at place k
--     filled bytes                 the bytes with zero bytes up to a whole block
--     HolesBeside, PointerBeside   of eight pointers only the k-th may be no hole; another is none
--     OnlyChild, OtherChild        the same of the pointers that q leads to
--     Stay mem root h p k          k levels of the path to p are still needed once p is a hole
--     new_at f g k d               what stands at depth d of a path of which k levels are new: block f d, born in g
--     Fresh                        k blocks that may replace the first k of a path
--     Short mem f k                one of the first k blocks of a new path does not lie in the memory
--     Rewritten                    the memory after the path to p was replaced
--     Surveyed                     the old pointers of a path, and how many of its levels a discard keeps
use Rattle.std.specs.Prelude.{◌≡◌, ℕ, suc, ◌+◌, ◌-◌, ◌*◌, ◌/◌, ◌%◌, ◌^◌, ◌<◌, ◌≤◌, if◌then◌else◌, List, [], ◌∷◌, ◌++◌, length, take, drop, replicate, Some, None, Option, ◌≢◌, nat_lt, slice_index_or}
use Rattle.records.specs.declared.rows.Pointer.{Pointer}
use Rattle.tree.specs.Trees.{block_size, pointer_size, fan, block, child, digit, on_path, Reaches, Outside}

-- four bytes, most significant first
abbrev pub word_bytes : ℕ → List ℕ
word_bytes w = w / 2 ^ 24 % 256 ∷ w / 2 ^ 16 % 256 ∷ w / 2 ^ 8 % 256 ∷ w % 256 ∷ []

-- the block number and the birth; a hole is zero bytes
abbrev pub pointer_bytes : Option Pointer → List ℕ
pointer_bytes None = word_bytes 0 ++ word_bytes 0
pointer_bytes (Some q) = word_bytes q.block ++ word_bytes q.birth

-- the bytes that a pointer leads to: its block, and holes below a hole
abbrev pub led : List ℕ → Option Pointer → List ℕ
led mem None = replicate block_size 0
led mem (Some q) = block mem q.block

-- an indirect block with the pointer q at place k, and its other pointers as they are
abbrev pub with_pointer : List ℕ → ℕ → Option Pointer → List ℕ
with_pointer bytes k q = take (pointer_size * k) bytes ++ (pointer_bytes q ++ drop (pointer_size * k + pointer_size) bytes)

-- the bytes filled with zero bytes up to a whole block
abbrev pub filled : List ℕ → List ℕ
filled bytes = bytes ++ replicate (block_size - length bytes) 0

-- of eight pointers all but the k-th are holes
abbrev pub HolesBeside : (ℕ → Option Pointer) → ℕ → Type 0
HolesBeside pointers k = (j : ℕ) → j < fan → (j ≢ k) → pointers j ≡ None

-- of eight pointers another than the k-th is no hole
pub record PointerBeside (pointers : ℕ → Option Pointer) (k : ℕ) : Type 0 where
  pub which : ℕ
  pub small : which < fan
  pub other : which ≡ k → ⊥
  pub pointer : Pointer
  pub here : pointers which ≡ Some pointer

-- all that q leads to are holes, but for index k
abbrev pub OnlyChild : List ℕ → Option Pointer → ℕ → Type 0
OnlyChild mem q k = HolesBeside (child mem q) k

-- q leads to a pointer under another index than k
abbrev pub OtherChild : List ℕ → Option Pointer → ℕ → Type 0
OtherChild mem q k = PointerBeside (child mem q) k

-- without the data at p, the first k indirect blocks of its path still have a pointer, and those below have holes only
pub record Stay (mem : List ℕ) (root : Option Pointer) (h p k : ℕ) : Type 0 where
  pub within : k ≤ h
  pub only : (d : ℕ) → k ≤ d → d < h → OnlyChild mem (on_path mem root h p d) (digit h p d)
  pub other : 0 < k → OtherChild mem (on_path mem root h p (k - 1)) (digit h p (k - 1))

-- the pointer that stands at depth d where the first k levels are new: block f d, born in g; a hole below them
abbrev pub new_at : (ℕ → ℕ) → ℕ → ℕ → ℕ → Option Pointer
new_at f g k d = if nat_lt d k then Some (record { block = f d; birth = g }) else None

-- k blocks of a memory, none twice and none reached, for a path in group g
pub record Fresh (mem : List ℕ) (root : Option Pointer) (h : ℕ) (f : ℕ → ℕ) (g k : ℕ) : Type 0 where
  pub group : (1 ≤ g) × (g < 2 ^ 32)
  pub small : (d : ℕ) → d < k → f d < 2 ^ 32
  pub apart : (d e : ℕ) → d < e → e < k → f d ≢ f e
  pub new : (d : ℕ) → d < k → Reaches mem root h (f d) → ⊥

-- one of the first k blocks does not lie in the memory
abbrev pub Short : List ℕ → (ℕ → ℕ) → ℕ → Type 0
Short mem f k = (d : ℕ) × (d < k) × Outside mem (f d)

-- The path to p is replaced: its first k levels by the blocks f 0, f 1 and on, born in g, and by holes below. An
-- indirect block is a copy of the old one with the new pointer of the path; the block at the height holds the bytes.
pub record Rewritten (mem mem' : List ℕ) (root : Option Pointer) (h p : ℕ) (f : ℕ → ℕ) (g k : ℕ) (bytes : List ℕ) : Type 0 where
  pub len : length mem' ≡ length mem
  pub indirect : (d : ℕ) → d < k → d < h → block mem' (f d) ≡ with_pointer (led mem (on_path mem root h p d)) (digit h p d) (new_at f g k (suc d))
  pub stored : h < k → block mem' (f h) ≡ bytes
  pub others : (b : ℕ) → ((d : ℕ) → d < k → f d ≢ b) → block mem' b ≡ block mem b

-- the old pointers of the path, from the root down, and how many levels stay where p becomes a hole
pub record Surveyed (mem : List ℕ) (root : Option Pointer) (h p : ℕ) (old : List (Option Pointer)) (k : ℕ) : Type 0 where
  pub long : length old ≡ 5
  pub pointers : (d : ℕ) → d ≤ h → slice_index_or old d None ≡ on_path mem root h p d
  pub past : (d : ℕ) → h < d → slice_index_or old d None ≡ None
  pub stay : Stay mem root h p k
