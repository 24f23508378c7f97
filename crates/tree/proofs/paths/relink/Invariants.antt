use Rattle.std.proofs.Common.{length}
use Rattle.tree.specs.Calls.{old_root, taken, Spares, IsFresh, Tracks}
use Rattle.tree.specs.Steps.{Linked}
use Rattle.tree.proofs.paths.relink.Given as goal

abbrev pub invariant-loop-depth : goal.invariant-loop-depth
invariant-loop-depth l = record {
  linked : Tracks l.initial.memory l.route → IsFresh l.initial.memory l.route l.fresh
      → Linked l.initial.memory l.memory (old_root l.route) l.route.path.height l.route.path.position (taken l.fresh) l.fresh.group (length l.fresh.blocks.now) l.depth;
  spared : Spares l.initial.memory l.memory l.fresh;
}
