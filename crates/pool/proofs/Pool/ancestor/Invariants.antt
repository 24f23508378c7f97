use Rattle.pool.specs.Pools.{state_of}
use Rattle.pool.proofs.Lineage.{ClimbedFrom}
use Rattle.pool.proofs.Pool.ancestor.Given as goal

abbrev pub invariant-loop : goal.invariant-loop
invariant-loop g l = ClimbedFrom (state_of g.A.BlockAllocator.meaning l.self) l.fn.row l.at l.counter
