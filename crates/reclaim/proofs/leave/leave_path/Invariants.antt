use Rattle.reclaim.proofs.Turns.{Turned}
use Rattle.reclaim.proofs.leave.leave_path.Given as goal

abbrev pub invariant-loop-pointer : goal.invariant-loop-pointer
invariant-loop-pointer g l =
    Turned g.A.BlockAllocator.sound g.A.BlockAllocator.meaning l.dataset l.stamp l.old l.initial.allocator l.allocator l.initial.dead l.dead l.given l.pointer-index
