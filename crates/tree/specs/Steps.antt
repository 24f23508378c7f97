-- What the inner functions leave.
--     LeadsOut mem q          the pointer q leads to a block outside the memory
--     Put mem mem' n bytes    block n now holds the bytes, and the other blocks are as they were
--     Linked                  the first d blocks of a new path are written, and no others
use Rattle.std.specs.Prelude.{◌≡◌, ℕ, suc, ◌<◌, List, length, Some, Option, ◌≢◌}
use Rattle.records.specs.declared.rows.Pointer.{Pointer}
use Rattle.tree.specs.Trees.{block, digit, on_path, Outside}
use Rattle.tree.specs.Paths.{led, with_pointer, new_at}

abbrev pub LeadsOut : List ℕ → Option Pointer → Type 0
LeadsOut mem q = (p : Pointer) × (q ≡ Some p) × Outside mem p.block

pub record Put (mem mem' : List ℕ) (n : ℕ) (bytes : List ℕ) : Type 0 where
  pub len : length mem' ≡ length mem
  pub here : block mem' n ≡ bytes
  pub off : (b : ℕ) → (b ≢ n) → block mem' b ≡ block mem b

pub record Linked (mem mem' : List ℕ) (root : Option Pointer) (h p : ℕ) (f : ℕ → ℕ) (g k d : ℕ) : Type 0 where
  pub len : length mem' ≡ length mem
  pub indirect : (e : ℕ) → e < d → block mem' (f e) ≡ with_pointer (led mem (on_path mem root h p e)) (digit h p e) (new_at f g k (suc e))
  pub others : (b : ℕ) → ((e : ℕ) → e < d → f e ≢ b) → block mem' b ≡ block mem b
