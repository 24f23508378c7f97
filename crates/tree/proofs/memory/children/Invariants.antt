use Rattle.std.proofs.Common.{◌≡◌, ℕ, ◌<◌, length, get_or, None}
use Rattle.tree.specs.Trees.{fan, pointer_in}
use Rattle.tree.proofs.memory.children.Given as goal

abbrev pub invariant-loop-place : goal.invariant-loop-place
invariant-loop-place l = record {
  long : length l.below ≡ fan;
  here : (k : ℕ) → k < l.place → get_or l.below k None ≡ pointer_in l.bytes k;
}
