use Rattle.std.proofs.Common.{set, sym, ap, ◌∙◌, arith}
use Rattle.std.proofs.lemmas.List.Edits.{map_over_more}
use Rattle.ordered.proofs.lists.move_all.Goals as goal

pub loop-record-preserved : goal.loop-record-preserved
loop-record-preserved g c =
    let moved = λ (x : g.row.R.Denot). g.R.Listed.moved_to x c.args.list in
    ap (set c.loop-record.records c.loop-record.record-index) (c.moved.ensures ∙ ap moved (sym c.record-item.is))
    ∙ map_over_more moved c.args.records.now c.loop-record.records c.loop-record.record-index c.record-item.result (omega arith) c.loop-record.invariant c.record-item.is
