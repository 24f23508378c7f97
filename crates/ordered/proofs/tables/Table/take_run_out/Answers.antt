use Rattle.std.proofs.Common.{◌-◌, ◌≤◌, ◌++◌, length, take, drop, ap, ◌∙◌, arith}
use Rattle.std.proofs.lemmas.List.{length-take}
use Rattle.ordered.proofs.Shifts.{gap_closed, take_length}
use Rattle.ordered.proofs.tables.Table.take_run_out.Goals as goal

pub returns-clause-items : goal.returns-clause-items
returns-clause-items g c =
    let t = c.args.self.now in
    let n = c.len-count.result in
    let within : n ≤ length t.places.now = omega (arith, length-take t.count t.places.now) in
    ap (take (n - (c.args.to - c.args.from))) c.copy_within.ensures.after ∙ gap_closed t.places.now n c.args.from c.args.to (omega arith) (omega arith) within
    ∙ ap (λ ys. take c.args.from ys ++ drop c.args.to ys) (ap (λ m. take m t.places.now) c.len-count.ensures.value ∙ take_length t.count t.places.now)
