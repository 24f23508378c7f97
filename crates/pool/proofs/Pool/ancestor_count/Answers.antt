use Rattle.model.specs.Datasets.{State}
use Rattle.pool.specs.Pools.{state_of}
use Rattle.pool.proofs.Lineage.{count_more, count_end}
use Rattle.pool.proofs.Pool.ancestor_count.Goals as goal

pub loop-previous-preserved : goal.loop-previous-preserved
loop-previous-preserved g c =
    let s : State = state_of g.A.BlockAllocator.meaning c.args.self.now in
    count_more s c.args.row c.loop-previous.at c.in-Some.previous c.loop-previous.count c.saturating_add-count.result c.loop-previous.invariant c.in-Some.ensures.finds c.saturating_add-count.ensures

pub returns : goal.returns
returns g c = record { counts = count_end s c.args.row c.loop-previous.at c.loop-previous.count c.loop-previous.invariant c.in_default.ensures.finds }
  where
    s : State
    s = state_of g.A.BlockAllocator.meaning c.args.self.now
