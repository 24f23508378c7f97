use Rattle.std.proofs.Common.{◌∙◌, arith}
use Rattle.ordered.proofs.Parts.{part_cut, part_none}
use Rattle.ordered.proofs.tables.Table.part.Goals as goal

pub returns-clause-first : goal.returns-clause-first
returns-clause-first g c = λ s.
    part_cut g.R.Record.keyed g.R.Key.Key.below g.met.R.Key.Key.laws c.args.low c.args.high _ _ c.rank-from.result c.rank.result c.max-to.result
    c.records.ensures.value (c.rank-from.ensures.value s) (c.rank.ensures.value s) (omega (arith, c.max-to.ensures)) s

pub returns-clause-backward : goal.returns-clause-backward
returns-clause-backward g c = λ s back.
    part_cut g.R.Record.keyed g.R.Key.Key.below g.met.R.Key.Key.laws c.args.low c.args.high _ _ c.rank-from.result c.rank.result c.max-to.result
    c.records.ensures.value (c.rank-from.ensures.value s) (c.rank.ensures.value s) (omega (arith, c.max-to.ensures)) s
    ∙ part_none g.R.Record.keyed g.R.Key.Key.below g.met.R.Key.Key.laws c.args.low c.args.high back _
