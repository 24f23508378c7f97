use Rattle.ordered.proofs.Calls.{put_in}
use Rattle.ordered.proofs.tables.Table.insert.Goals as goal

pub returns-in-Err-2-clause-items : goal.returns-in-Err-2-clause-items
returns-in-Err-2-clause-items g c = λ s.
    (put_in g.R.Record.keyed g.R.Key.Key.below g.met.R.Key.Key.laws _ _ s _ c.key.ensures (c.in-Err.ensures.finds s) (c.in-Err.ensures.ranks s) c.put_in.ensures.items).items

pub returns-in-Err-2-clause-alone : goal.returns-in-Err-2-clause-alone
returns-in-Err-2-clause-alone g c = λ s.
    (put_in g.R.Record.keyed g.R.Key.Key.below g.met.R.Key.Key.laws _ _ s _ c.key.ensures (c.in-Err.ensures.finds s) (c.in-Err.ensures.ranks s) c.put_in.ensures.items).alone

pub returns-in-Err-2-clause-ordered : goal.returns-in-Err-2-clause-ordered
returns-in-Err-2-clause-ordered g c = λ s.
    (put_in g.R.Record.keyed g.R.Key.Key.below g.met.R.Key.Key.laws _ _ s _ c.key.ensures (c.in-Err.ensures.finds s) (c.in-Err.ensures.ranks s) c.put_in.ensures.items).ascending
