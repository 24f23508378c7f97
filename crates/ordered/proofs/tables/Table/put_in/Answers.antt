use Rattle.std.proofs.Common.{◌+◌, ◌<◌, ◌≤◌, length, take, set, ap, ◌∙◌, arith}
use Rattle.std.proofs.lemmas.List.{length-take}
use Rattle.ordered.proofs.Shifts.{gap_filled}
use Rattle.ordered.proofs.tables.Table.put_in.Goals as goal

pub returns-clause-items : goal.returns-clause-items
returns-clause-items g c =
    let t = c.args.self.now in
    let at = c.args.at in
    let within : at ≤ t.count = omega (arith, length-take t.count t.places.now, c.requires.within) in
    let free : t.count < length t.places.now = omega (arith, length-take t.count t.places.now, c.requires.room) in
    ap (λ ys. take (t.count + 1) (set ys at c.args.added)) c.copy_within.ensures.after ∙ gap_filled t.places.now t.count at c.args.added within free
