use Rattle.std.proofs.Common.{ap, ◌∙◌}
use Rattle.std.specs.List.{between}
use Rattle.ordered.proofs.Runs.{run_is}
use Rattle.ordered.proofs.tables.Table.list.Goals as goal

pub returns-clause-run : goal.returns-clause-run
returns-clause-run g c = (c.run-from.result.0, c.run-from.result.1, ap (between c.run-from.result.0 c.run-from.result.1) c.records-records.ensures.value)

pub returns-clause-items : goal.returns-clause-items
returns-clause-items g c =
    let told = rw c.records-records.ensures.value at c.run-from.ensures in
    λ s. ap (between c.run-from.result.0 c.run-from.result.1) c.records-records.ensures.value
    ∙ run_is g.R.Record.keyed g.R.Key.Key.below g.met.R.Key.Key.laws g.R.Listed.listed g.R.Listed.moved_to g.met.R.Listed.listing _ _ _ _ (told.first s) (told.second s) s
