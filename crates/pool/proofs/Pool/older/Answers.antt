use Rattle.model.specs.Datasets.{State}
use Rattle.pool.specs.Pools.{state_of}
use Rattle.pool.proofs.Lineage.{no_previous, older_is}
use Rattle.pool.proofs.Pool.older.Goals as goal

pub returns-in_err-previous-clause-finds : goal.returns-in_err-previous-clause-finds
returns-in_err-previous-clause-finds g c sound found =
    let s : State = state_of g.A.BlockAllocator.meaning c.args.self.now in
    absurd (no_previous s c.args.row c.in_ok-row.field-0 sound found c.in_ok-row.was (c.in_err-previous.ensures.finds sound.shape.ordered))

pub returns-clause-finds : goal.returns-clause-finds
returns-clause-finds g c sound found =
    let s : State = state_of g.A.BlockAllocator.meaning c.args.self.now in
    older_is s c.args.row c.in_ok-row.field-0 sound found c.in_ok-row.was c.in_ok-previous.previous _ _ _
    (c.in_ok-previous.ensures.finds sound.shape.ordered) c.kind_stamp.ensures.value c.kind_stamp-2.ensures.value c.then_some.ensures
