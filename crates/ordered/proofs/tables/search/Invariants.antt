use Rattle.std.proofs.Common.{◌+◌, ◌≤◌, length}
use Rattle.ordered.specs.Order.{Holds}
use Rattle.ordered.specs.Tables.{Ascending}
use Rattle.ordered.proofs.Search.{Narrowed}
use Rattle.ordered.proofs.tables.search.Given as goal

abbrev pub invariant-loop-size : goal.invariant-loop-size
invariant-loop-size g l =
    (l.base + l.size ≤ length l.among)
    × (Ascending g.R.Record.keyed (Holds g.R.Key.Key.below) l.among → Narrowed g.R.Record.keyed g.R.Key.Key.below l.among l.key l.base (l.base + l.size))

abbrev pub decreases-loop-size : goal.decreases-loop-size
decreases-loop-size g l = l.size
