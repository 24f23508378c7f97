use Rattle.ordered.proofs.Calls.{looked_up, not_there}
use Rattle.ordered.proofs.tables.Table.get.Goals as goal

pub returns-in_err-at : goal.returns-in_err-at
returns-in_err-at g c = record { finds = λ s. not_there g.R.Record.keyed g.R.Key.Key.below _ _ (c.in_err-at.ensures.finds s) c.from_residual.ensures }

pub returns : goal.returns
returns g c = record { finds = λ s. looked_up g.R.Record.keyed g.R.Key.Key.below _ _ (c.in_ok-at.ensures.finds s) c.at.ensures.value }
