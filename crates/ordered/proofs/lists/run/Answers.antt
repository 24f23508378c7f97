use Rattle.std.proofs.Common.{rules, ◌≡◌, nat_le, nat_lt, length, filter, arith}
use Rattle.std.proofs.lemmas.Bool.Decides.{nat_tests}
use Rattle.std.proofs.lemmas.List.Sorted.{IsPartitionPoint-from_clause}
use Rattle.ordered.proofs.Filters.{fewer_pass, point_counts}
use Rattle.ordered.proofs.Runs.{lower_first, up_to_first}
use Rattle.ordered.proofs.lists.run.Goals as goal

pub returns-clause-first : goal.returns-clause-first
returns-clause-first g c = λ up.
    let lower = λ (x : g.row.R.Denot). nat_lt (g.R.Listed.listed x) c.args.list in
    point_counts lower _ _ c.partition_point-from.ensures.bound
    (IsPartitionPoint-from_clause lower _ _ c.partition_point-from.ensures.partitioned
    (lower_first g.R.Record.keyed g.R.Key.Key.below g.met.R.Key.Key.laws g.R.Listed.listed g.R.Listed.moved_to g.met.R.Listed.listing _ up _) (λ a r f called. (search rules, search rules)))

pub returns-clause-second : goal.returns-clause-second
returns-clause-second g c = λ up.
    let lower = λ (x : g.row.R.Denot). nat_lt (g.R.Listed.listed x) c.args.list in
    let up_to = λ (x : g.row.R.Denot). nat_le (g.R.Listed.listed x) c.args.list in
    let from : c.partition_point-from.result ≡ length (filter lower c.args.records.now) = returns-clause-first g c up in
    let to : c.partition_point-to.result ≡ length (filter up_to c.args.records.now) =
    point_counts up_to _ _ c.partition_point-to.ensures.bound
    (IsPartitionPoint-from_clause up_to _ _ c.partition_point-to.ensures.partitioned
    (up_to_first g.R.Record.keyed g.R.Key.Key.below g.met.R.Key.Key.laws g.R.Listed.listed g.R.Listed.moved_to g.met.R.Listed.listing _ up _) (λ a r f called. (search rules, search rules))) in
    omega (arith, c.max.ensures, fewer_pass lower up_to (λ x. grind (arith, nat_tests)) c.args.records.now)
