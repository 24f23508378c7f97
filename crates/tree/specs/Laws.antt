-- The laws of block trees.
--     Frame       a tree whose blocks are unchanged is unchanged
--     Reroute     replacing a path changes the tree at the places of that path, and nowhere else
use Rattle.std.specs.Prelude.{◌≡◌, ℕ, suc, ◌+◌, ◌*◌, ◌^◌, ◌<◌, ◌≤◌, if◌then◌else◌, List, length, Option, ◌==◌}
use Rattle.records.specs.declared.rows.Pointer.{Pointer}
use Rattle.tree.specs.Trees.{block_size, fan, block, at, index_at, digit, on_path, Reaches}
use Rattle.tree.specs.Paths.{OnlyChild, Fresh, Rewritten, new_at}

-- where two memories have the same bytes in every block that a tree reaches, the tree is the same in both
abbrev pub Frame : Type 0
Frame = (mem mem' : List ℕ) (root : Option Pointer) (h : ℕ)
    → ((b : ℕ) → Reaches mem root h b → block mem' b ≡ block mem b)
    → (d i : ℕ) → d ≤ h → i < fan ^ d → at mem' root d i ≡ at mem root d i

-- where a path is replaced and no pointer is lost beside it, the new tree has the new pointers on the path, and the old ones elsewhere
abbrev pub Reroute : Type 0
Reroute = (mem mem' : List ℕ) (root : Option Pointer) (h p : ℕ) (f : ℕ → ℕ) (g k : ℕ) (bytes : List ℕ) → p < fan ^ h → k ≤ suc h
    → ((b : ℕ) → Reaches mem root h b → block_size * b + block_size ≤ length mem)
    → Fresh mem root h f g k
    → ((d : ℕ) → k ≤ d → d < h → OnlyChild mem (on_path mem root h p d) (digit h p d))
    → Rewritten mem mem' root h p f g k bytes
    → (d i : ℕ) → d ≤ h → i < fan ^ d → at mem' (new_at f g k 0) d i ≡ (if i == index_at h p d then new_at f g k d else at mem root d i)
