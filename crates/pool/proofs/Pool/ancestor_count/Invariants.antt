use Rattle.model.specs.Datasets.{kind_stamp}
use Rattle.pool.specs.Pools.{state_of}
use Rattle.pool.proofs.Lineage.{CountedTo}
use Rattle.pool.proofs.Pool.ancestor_count.Given as goal

abbrev pub invariant-loop-previous : goal.invariant-loop-previous
invariant-loop-previous g l = CountedTo (state_of g.A.BlockAllocator.meaning l.self) l.fn.row l.at l.count

abbrev pub decreases-loop-previous : goal.decreases-loop-previous
decreases-loop-previous g l = kind_stamp l.self.group l.at.kind
