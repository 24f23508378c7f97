use Rattle.std.proofs.Common.{◌≡◌, suc, get_or, Some, sym, ap, ◌∙◌, arith}
use Rattle.std.proofs.lemmas.Grind.{common_steps}
use Rattle.ordered.specs.Lent.{records}
use Rattle.ranges.proofs.Lasts.{up_to_some}
use Rattle.ranges.proofs.Laws.{rank_at}
use Rattle.ranges.proofs.Steps.{in_order}
use Rattle.ranges.proofs.free.last_up_to.Goals as goal

pub returns : goal.returns
returns c = record {
  value = λ m s.
      let xs = records c.args.ranges.now in
      let next = c.saturating_add-next.result in
      let i = c.in_ok-at.at in
      let rank : rank_at xs next ≡ suc i = grind (arith, common_steps, c.rank.ensures.value (in_order m c.args.ranges.now s)) in
      ap (λ ys. Some (get_or ys i (record { first = 0; length = 0 }))) c.records.ensures.value
      ∙ sym (up_to_some m c.args.n next xs i (record { first = 0; length = 0 }) s.maximal s.few c.saturating_add-next.ensures rank);
}
