use Rattle.std.proofs.Common.{suc, ◌-◌}
use Rattle.reclaim.specs.Giving.{Fewer, GivenBack}
use Rattle.reclaim.specs.Trees.{TreeReady}
use Rattle.reclaim.proofs.Walks.{Above}
use Rattle.reclaim.proofs.trees.+give_young.Given as goal

abbrev pub decreases-give_young : goal.decreases-give_young
decreases-give_young g l = l.height

abbrev pub invariant-loop-child : goal.invariant-loop-child
invariant-loop-child g l = record {
  stays : g.A.BlockAllocator.sound l.fn.allocator → g.A.BlockAllocator.sound l.allocator;
  fewer : g.A.BlockAllocator.sound l.fn.allocator → Fewer (g.A.BlockAllocator.meaning l.fn.allocator) (g.A.BlockAllocator.meaning l.allocator);
  back : g.A.BlockAllocator.sound l.fn.allocator → TreeReady (g.A.BlockAllocator.meaning l.fn.allocator) l.memory l.fn.root (suc (l.height - 1)) l.stamp
      → GivenBack (g.A.BlockAllocator.meaning l.fn.allocator) (g.A.BlockAllocator.meaning l.allocator) (Above l.memory l.fn.root (l.height - 1) l.stamp l.child-index);
}
