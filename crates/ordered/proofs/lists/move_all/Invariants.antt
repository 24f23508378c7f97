use Rattle.std.proofs.Common.{◌≡◌, ◌++◌, take, drop, map}
use Rattle.ordered.proofs.lists.move_all.Given as goal

abbrev pub invariant-loop-record : goal.invariant-loop-record
invariant-loop-record g l =
    let moved = λ (x : g.row.R.Denot). g.R.Listed.moved_to x l.list in
    l.records ≡ map moved (take l.record-index l.fn.records) ++ drop l.record-index l.fn.records
