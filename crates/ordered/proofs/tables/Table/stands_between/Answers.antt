use Rattle.std.proofs.Common.{arith}
use Rattle.std.proofs.lemmas.Grind.{common_steps}
use Rattle.ordered.proofs.Orders.{lt_below}
use Rattle.ordered.proofs.tables.Table.stands_between.Goals as goal
use Rattle.ordered.proofs.tables.Table.stands_between.Goals.{then-at-eq0, else-at-eq0}

pub returns-then-at-len : goal.returns-then-at-len
returns-then-at-len g c =
    let lt = lt_below g.R.Key.Key.below g.R.Key.PartialOrd.partial_cmp g.met.R.Key.Key.laws g.met.R.Key.Ord.matches_partial_cmp in
    record {
      value = λ d. elim c.if-at-eq0.branch [ then-at-eq0 w ↦ grind (arith, common_steps) | else-at-eq0 w ↦ grind (arith, common_steps, lt, w.at.ensures.value d) ];
    }

pub returns-else-at-len : goal.returns-else-at-len
returns-else-at-len g c =
    let lt = lt_below g.R.Key.Key.below g.R.Key.PartialOrd.partial_cmp g.met.R.Key.Key.laws g.met.R.Key.Ord.matches_partial_cmp in
    record {
      value = λ d. elim c.if-at-eq0.branch [
        | then-at-eq0 w ↦ grind (arith, common_steps, lt, c.at-else-at-len.ensures.value d)
        | else-at-eq0 w ↦ grind (arith, common_steps, lt, w.at.ensures.value d, c.at-else-at-len.ensures.value d)
      ];
    }

pub returns-else-lt : goal.returns-else-lt
returns-else-lt g c =
    let lt = lt_below g.R.Key.Key.below g.R.Key.PartialOrd.partial_cmp g.met.R.Key.Key.laws g.met.R.Key.Ord.matches_partial_cmp in
    record {
      value = λ d. elim c.if-at-eq0.branch [ then-at-eq0 w ↦ grind (arith, common_steps) | else-at-eq0 w ↦ grind (arith, common_steps, lt, w.at.ensures.value d) ];
    }
