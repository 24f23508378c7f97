use Rattle.ordered.proofs.Rekeys.{rekeyed}
use Rattle.ordered.proofs.tables.Table.rekey.Goals as goal

pub returns-in-Some-clause-items : goal.returns-in-Some-clause-items
returns-in-Some-clause-items g c = λ s.
    (rekeyed g.R.Record.keyed g.R.Key.Key.below g.met.R.Key.Key.laws _ s _ _ _ (c.in-Some.ensures.finds s) c.in-Some.ensures.within c.key.ensures c.if-stands_between.ensures.value _ c.put_over.ensures.items).0

pub returns-in-Some-clause-ordered : goal.returns-in-Some-clause-ordered
returns-in-Some-clause-ordered g c = λ s.
    (rekeyed g.R.Record.keyed g.R.Key.Key.below g.met.R.Key.Key.laws _ s _ _ _ (c.in-Some.ensures.finds s) c.in-Some.ensures.within c.key.ensures c.if-stands_between.ensures.value _ c.put_over.ensures.items).1
