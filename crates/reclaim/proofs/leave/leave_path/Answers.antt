use Rattle.std.proofs.Common.{◌≡◌, length, ◌∙◌, subst, arith}
use Rattle.std.proofs.lemmas.Result.{err_from_is_err_and}
use Rattle.reclaim.proofs.Departs.{departed, Departing}
use Rattle.reclaim.proofs.Turns.{turned_none, turned_hole, turned_left, turned_able}
use Rattle.reclaim.proofs.leave.leave_path.Goals.{in-Some+in_ok-gave, in_default}
use Rattle.reclaim.proofs.leave.leave_path.Goals as goal

pub loop-pointer-init : goal.loop-pointer-init
loop-pointer-init g c = turned_none _ _ _ _ _ _ _

pub loop-pointer-preserved : goal.loop-pointer-preserved
loop-pointer-preserved g c =
    elim c.match-pointer.branch [
      | in-Some+in_ok-gave w ↦
          (let o = w.in_ok-gave.ensures in
          turned_left _ _ _ _ _ _ _ _ _ _ _ c.loop-pointer.invariant w.in-Some.leaver (omega arith) w.in-Some.is _ _ _ _ _ w.in_ok-gave.gave
          w.allocator-is w.dead-is (w.given-is ∙ w.tally-given.ensures.value) o.sound o.room o.ordered o.left)
      | in_default w ↦ turned_hole _ _ _ _ _ _ _ _ _ _ _ c.loop-pointer.invariant _ _ _ w.allocator-is w.dead-is w.given-is w.in_default.is
    ]

pub returns-in_err-gave : goal.returns-in_err-gave
returns-in_err-gave g c =
    let p = err_from_is_err_and c.from_residual.result c.from_residual.ensures.1 in
    let o = c.in_err-gave.ensures in
    let t = c.loop-pointer.invariant in
    rw p.1 (record {
      sound = λ s. o.sound (t.stays s);
      room = o.room ∙ t.room_is;
      ordered = λ d. o.ordered (t.ordered d);
      left = λ s d r. o.left (t.stays s) (t.ordered d) (turned_able _ _ _ _ _ _ _ _ _ _ _ t c.in-Some.leaver (omega arith) c.in-Some.is s d r);
      cause = p.2 ∙ o.cause;
    })

pub returns : goal.returns
returns g c =
    let t = c.loop-pointer.invariant in
    let e : c.loop-pointer.pointer-index ≡ length c.args.old.now = omega arith in
    record {
      sound = t.stays;
      room = t.room_is;
      ordered = t.ordered;
      left = λ s d r. departed _ _ _ _ _ _ _ _ (subst (Departing _ _ _ _ _ _ _ _) e (t.left s d r));
      cause = tt;
    }
