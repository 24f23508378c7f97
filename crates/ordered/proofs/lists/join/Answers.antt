use Rattle.std.proofs.Common.{◌-◌, ◌≤◌, length, refl, ap, arith}
use borrow.Rule.Slice.PartMut.{put_mid, same_len_mid}
use Rattle.ordered.proofs.Gathers.{ascend_after, no_run, stand_after}
use Rattle.ordered.proofs.Joins.{no_records, same_list}
use Rattle.ordered.proofs.lists.join.Goals as goal
use Rattle.ordered.proofs.lists.join.Goals.{then-from-to-via-then-from-to, then-from-to-via-else-from-to+then-first-end}

pub returns-then-from-to : goal.returns-then-from-to
returns-then-from-to g c =
    record {
      ordered = λ up apart. up;
      stands = λ up apart r. elim c.then-from-to.branch [
        | then-from-to-via-then-from-to w ↦ same_list g.R.Record.keyed g.R.Key.Key.below g.met.R.Key.Key.laws g.met.R.Key.Ord.total g.R.Listed.listed g.R.Listed.moved_to g.met.R.Listed.listing c.args.records.now up c.args.from c.args.to w.if-from-to.true r
        | then-from-to-via-else-from-to+then-first-end w ↦
            no_records g.R.Record.keyed g.R.Key.Key.below g.met.R.Key.Key.laws g.met.R.Key.Ord.total g.R.Listed.listed g.R.Listed.moved_to g.met.R.Listed.listing c.args.records.now up c.args.from c.args.to
            ((no_run g.R.Record.keyed g.R.Key.Key.below g.met.R.Key.Key.laws g.R.Listed.listed g.R.Listed.moved_to g.met.R.Listed.listing c.args.records.now up c.args.from _ _ (c.run-first.ensures.first up) (c.run-first.ensures.second up)).0 w.if-first-end.true) r
      ];
      same = λ e. refl;
      none = λ up none. refl;
    }

pub offset_bounds-records-low : goal.offset_bounds-records-low
offset_bounds-records-low g c =
    let inside : c.saturating_sub-low.result ≤ length c.args.records.now = omega (arith, same_len_mid _ _ c.args.records.now _ c.move_all.auto.records) in
    grind (arith, inside, c.well_formed.0.1)

pub returns : goal.returns
returns g c =
    let part = put_mid c.run-first.result.0 (c.run-first.result.1 - c.run-first.result.0) c.args.records.now in
    record {
      ordered = λ up apart.
          ascend_after g.R.Record.keyed g.R.Key.Key.below g.met.R.Key.Key.laws g.R.Listed.listed g.R.Listed.moved_to g.met.R.Listed.listing c.args.records.now up c.args.from c.args.to c.if-from-to.false _ _ _ _ _ _ _ _
          (c.run-first.ensures.first up) (c.run-first.ensures.second up) (c.run-home.ensures.first up) (c.run-home.ensures.second up) (ap part c.move_all.ensures)
          c.carry-at.ensures.value c.carry-at.ensures.items c.saturating_sub-low.ensures g.met.R.Key.Ord.total _ c.sort.ensures.permutation c.sort.ensures.sorted apart;
      stands = λ up apart.
          stand_after g.R.Record.keyed g.R.Key.Key.below g.met.R.Key.Key.laws g.R.Listed.listed g.R.Listed.moved_to g.met.R.Listed.listing c.args.records.now up c.args.from c.args.to c.if-from-to.false _ _ _ _ _ _ _ _
          (c.run-first.ensures.first up) (c.run-first.ensures.second up) (c.run-home.ensures.first up) (c.run-home.ensures.second up) (ap part c.move_all.ensures)
          c.carry-at.ensures.value c.carry-at.ensures.items c.saturating_sub-low.ensures g.met.R.Key.Ord.total _ c.sort.ensures.permutation c.sort.ensures.sorted apart;
      same = λ e. absurd (c.if-from-to.false e);
      none = λ up none.
          absurd (c.if-first-end.false ((no_run g.R.Record.keyed g.R.Key.Key.below g.met.R.Key.Key.laws g.R.Listed.listed g.R.Listed.moved_to g.met.R.Listed.listing c.args.records.now up c.args.from _ _ (c.run-first.ensures.first up) (c.run-first.ensures.second up)).1 none));
    }
