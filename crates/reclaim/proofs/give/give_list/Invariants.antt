use Rattle.reclaim.proofs.Lists.{Listed}
use Rattle.reclaim.proofs.give.give_list.Given as goal

abbrev pub invariant-loop-record : goal.invariant-loop-record
invariant-loop-record g l = record {
  stays : g.A.BlockAllocator.sound l.initial.allocator → g.A.BlockAllocator.sound l.allocator;
  listed : g.A.BlockAllocator.sound l.initial.allocator → Listed (g.A.BlockAllocator.meaning l.initial.allocator) (g.A.BlockAllocator.meaning l.allocator) l.list l.record-index;
}
