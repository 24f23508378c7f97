use Rattle.std.proofs.Common.{refl}
use Rattle.ordered.proofs.Calls.{looked_up, none_taken, not_there, taken_out}
use Rattle.ordered.proofs.tables.Table.remove.Goals as goal

pub returns-in_err-at-clause-value : goal.returns-in_err-at-clause-value
returns-in_err-at-clause-value g c = λ s. not_there g.R.Record.keyed g.R.Key.Key.below _ _ (c.in_err-at.ensures.finds s) c.from_residual.ensures

pub returns-in_err-at-clause-items : goal.returns-in_err-at-clause-items
returns-in_err-at-clause-items g c = λ s. (none_taken g.R.Record.keyed g.R.Key.Key.below g.met.R.Key.Key.laws _ _ s _ (c.in_err-at.ensures.finds s) refl).items

pub returns-in_err-at-clause-alone : goal.returns-in_err-at-clause-alone
returns-in_err-at-clause-alone g c = λ s. (none_taken g.R.Record.keyed g.R.Key.Key.below g.met.R.Key.Key.laws _ _ s _ (c.in_err-at.ensures.finds s) refl).alone

pub returns-clause-value : goal.returns-clause-value
returns-clause-value g c = λ s. looked_up g.R.Record.keyed g.R.Key.Key.below _ _ (c.in_ok-at.ensures.finds s) c.take_out.ensures.value

pub returns-clause-items : goal.returns-clause-items
returns-clause-items g c = λ s. (taken_out g.R.Record.keyed g.R.Key.Key.below g.met.R.Key.Key.laws _ _ s _ (c.in_ok-at.ensures.finds s) c.take_out.ensures.items).items

pub returns-clause-alone : goal.returns-clause-alone
returns-clause-alone g c = λ s. (taken_out g.R.Record.keyed g.R.Key.Key.below g.met.R.Key.Key.laws _ _ s _ (c.in_ok-at.ensures.finds s) c.take_out.ensures.items).alone

pub returns-clause-ordered : goal.returns-clause-ordered
returns-clause-ordered g c = λ s. (taken_out g.R.Record.keyed g.R.Key.Key.below g.met.R.Key.Key.laws _ _ s _ (c.in_ok-at.ensures.finds s) c.take_out.ensures.items).ascending
