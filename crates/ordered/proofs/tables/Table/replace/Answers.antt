use Rattle.std.proofs.Common.{refl}
use Rattle.ordered.proofs.Calls.{none_over, put_over}
use Rattle.ordered.proofs.tables.Table.replace.Goals as goal

pub returns-in_default-clause-items : goal.returns-in_default-clause-items
returns-in_default-clause-items g c = λ s. (none_over g.R.Record.keyed g.R.Key.Key.below g.met.R.Key.Key.laws _ _ s _ c.key.ensures (c.in_default.ensures.finds s) refl).items

pub returns-in_default-clause-alone : goal.returns-in_default-clause-alone
returns-in_default-clause-alone g c = λ s. (none_over g.R.Record.keyed g.R.Key.Key.below g.met.R.Key.Key.laws _ _ s _ c.key.ensures (c.in_default.ensures.finds s) refl).alone

pub returns-clause-items : goal.returns-clause-items
returns-clause-items g c = λ s. (put_over g.R.Record.keyed g.R.Key.Key.below g.met.R.Key.Key.laws _ _ s _ c.key.ensures (c.in-Some.ensures.finds s) c.put_over.ensures.items).items

pub returns-clause-alone : goal.returns-clause-alone
returns-clause-alone g c = λ s. (put_over g.R.Record.keyed g.R.Key.Key.below g.met.R.Key.Key.laws _ _ s _ c.key.ensures (c.in-Some.ensures.finds s) c.put_over.ensures.items).alone

pub returns-clause-ordered : goal.returns-clause-ordered
returns-clause-ordered g c = λ s. (put_over g.R.Record.keyed g.R.Key.Key.below g.met.R.Key.Key.laws _ _ s _ c.key.ensures (c.in-Some.ensures.finds s) c.put_over.ensures.items).ascending
