-- The trees of a sound pool lie in its memory.
use Rattle.std.proofs.Common.{◌≡◌, ℕ, ◌^◌, ◌<◌, sym, ap, subst, arith}
use Rattle.std.specs.Option.{option_map}
use Rattle.records.specs.declared.rows.Pointer.{Pointer}
use Rattle.records.specs.declared.rows.Row.{Row}
use Rattle.tree.specs.Trees.{fan, block, at, Holds, Outside, Lost}
use Rattle.model.specs.Datasets.{State, Dataset, Position, reads, row_reads}
use Rattle.model.specs.Soundness.{Sound}

-- a number has one row
pub one_row : (s : State) (n : ℕ) (r x : Row) → Dataset s n r → Dataset s n x → x ≡ r
one_row s n r x a b = cc

-- a block that a dataset points to lies in the memory
pub block_inside : (s : State) (n d i : ℕ) (r : Row) (q : Pointer) → Sound s → Dataset s n r → Holds s.memory r.root r.height d i q → Outside s.memory q.block → ⊥
block_inside s n d i r q sound found holds out =
    omega (arith, sound.shape.memory, sound.pointers.inside n d i q (record { row = r; found = found; holds = holds }))

-- so no block of a tree is lost
pub nothing_lost : (s : State) (n : ℕ) (r : Row) → Sound s → Dataset s n r → Lost s.memory r.root r.height → ⊥
nothing_lost s n r sound found (b, (d, i, q, holds, is), out) = block_inside s n d i r q sound found holds (subst (Outside s.memory) (sym is) out)

-- a position that is out of range in the row of a dataset is none of that dataset
pub no_position : (s : State) (n p : ℕ) (r : Row) → Dataset s n r → (p < fan ^ r.height → ⊥) → Position s n p → ⊥
no_position s n p r found out (x, at_x, in-x) = out (subst (λ (y : Row). p < fan ^ y.height) (one_row s n r x found at_x) in-x)

-- what a position of a dataset reads
pub reads_is : (s : State) (n p : ℕ) (r : Row) → Dataset s n r → reads s n p ≡ option_map (λ (q : Pointer). block s.memory q.block) (at s.memory r.root r.height p)
unfolding reads
reads_is s n p r found = ap (λ o. row_reads s.memory o p) found
