use Rattle.std.proofs.Common.{refl, arith, length-drop}
use Rattle.std.proofs.lemmas.List.{length-take}
use Rattle.ordered.proofs.Carries.{carried_down, carried_up}
use Rattle.ordered.proofs.lists.carry.Goals as goal

pub returns-then-at-first-clause-items : goal.returns-then-at-first-clause-items
returns-then-at-first-clause-items g c =
    let xs = c.args.records.now in
    carried_down xs c.args.at c.args.first c.args.end (omega arith) (omega arith) (omega arith) _ _
    (simp (length-take, length-drop) (omega arith)) c.rotate_right.ensures.after

pub returns-clause-items : goal.returns-clause-items
returns-clause-items g c =
    carried_up c.args.records.now c.args.first c.args.end c.max-past.result (omega arith) (omega (arith, c.max-past.ensures)) (omega (arith, c.max-past.ensures)) _ _ _ refl refl c.rotate_left.ensures.after
