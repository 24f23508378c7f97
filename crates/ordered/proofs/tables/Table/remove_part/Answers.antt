use Rattle.std.proofs.Common.{arith}
use Rattle.ordered.proofs.Parts.{part_gone}
use Rattle.ordered.proofs.tables.Table.remove_part.Goals as goal

pub returns-clause-items : goal.returns-clause-items
returns-clause-items g c = λ s.
    (part_gone g.R.Record.keyed g.R.Key.Key.below g.met.R.Key.Key.laws c.args.low c.args.high _ _ c.rank-from.result c.rank.result c.max-to.result
    (c.rank-from.ensures.value s) (c.rank.ensures.value s) (omega (arith, c.max-to.ensures)) c.take_run_out.ensures.items s).0

pub returns-clause-ordered : goal.returns-clause-ordered
returns-clause-ordered g c = λ s.
    (part_gone g.R.Record.keyed g.R.Key.Key.below g.met.R.Key.Key.laws c.args.low c.args.high _ _ c.rank-from.result c.rank.result c.max-to.result
    (c.rank-from.ensures.value s) (c.rank.ensures.value s) (omega (arith, c.max-to.ensures)) c.take_run_out.ensures.items s).1
