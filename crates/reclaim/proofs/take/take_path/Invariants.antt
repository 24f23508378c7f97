use Rattle.reclaim.specs.Taking.{Took}
use Rattle.reclaim.proofs.take.take_path.Given as goal

abbrev pub invariant-loop-depth : goal.invariant-loop-depth
invariant-loop-depth g l =
    (g.A.BlockAllocator.sound l.initial.allocator → g.A.BlockAllocator.sound l.allocator)
    × (g.A.BlockAllocator.sound l.initial.allocator → Took (g.A.BlockAllocator.meaning l.initial.allocator) (g.A.BlockAllocator.meaning l.allocator) l.path l.depth)
