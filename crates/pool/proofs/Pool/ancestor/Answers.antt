use Rattle.model.specs.Datasets.{State}
use Rattle.pool.specs.Pools.{state_of}
use Rattle.pool.proofs.Lineage.{climb_more, climb_on}
use Rattle.pool.proofs.Pool.ancestor.Goals as goal

pub returns-in_err-at : goal.returns-in_err-at
returns-in_err-at g c = record {
  finds = λ ms sound found line some within.
      absurd (climb_on (state_of g.A.BlockAllocator.meaning c.args.self.now) c.args.row c.loop.at c.loop.counter c.args.steps c.loop.invariant c.in_err-at.ensures.finds c.loop-test.true ms sound found line within);
}

pub loop-preserved : goal.loop-preserved
loop-preserved g c =
    let s : State = state_of g.A.BlockAllocator.meaning c.args.self.now in
    climb_more s c.args.row c.loop.at c.in_ok-at.at c.loop.counter c.loop.invariant c.in_ok-at.ensures.finds
