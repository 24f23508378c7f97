use Rattle.pool.specs.Pools.{Intact, state_of}
use Rattle.life.proofs.Turns.{Done, Written}
use Rattle.life.proofs.run.Given as goal

-- the calls before the index are done, and their answers written
abbrev pub invariant-loop-index : goal.invariant-loop-index
invariant-loop-index g l = record {
  written : Written l.initial.answers l.answers l.index;
  sound : Intact g.A.BlockAllocator.sound g.A.BlockAllocator.meaning l.initial.pool → Intact g.A.BlockAllocator.sound g.A.BlockAllocator.meaning l.pool;
  done : Intact g.A.BlockAllocator.sound g.A.BlockAllocator.meaning l.initial.pool → Done (state_of g.A.BlockAllocator.meaning l.initial.pool) (state_of g.A.BlockAllocator.meaning l.pool) l.calls l.answers l.index;
}
