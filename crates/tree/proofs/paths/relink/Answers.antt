use Rattle.std.proofs.Common.{arith}
use Rattle.std.proofs.lemmas.Result.{err_from_is_err_and}
use Rattle.tree.proofs.Links.{linked_more, linked_lost, spares_more, taken_at}
use Rattle.tree.proofs.paths.relink.Goals as goal

pub loop-depth-preserved : goal.loop-depth-preserved
loop-depth-preserved c =
    let at = taken_at c.args.fresh _ _ c.loop-depth-test.true in
    record {
      linked = λ tracks fresh.
          linked_more _ _ _ _ _ _ _ fresh _ _ _ _ _ _ _ at.0 (omega (arith, at.1)) (c.loop-depth.invariant.linked tracks fresh)
          (tracks c.loop-depth.depth (omega (arith, at.1))) c.digit-place.ensures.value c.pointer-below.ensures.value at.2 c.in_ok-copy_with.ensures.copied;
      spared = spares_more _ _ _ _ _ _ _ c.loop-depth.invariant.spared at.0 at.2 c.in_ok-copy_with.ensures.copied;
    }

pub returns-in_err-copy_with-clause-linked : goal.returns-in_err-copy_with-clause-linked
returns-in_err-copy_with-clause-linked c =
    let at = taken_at c.args.fresh _ _ c.loop-depth-test.true in
    let p = err_from_is_err_and c.from_residual.result c.from_residual.ensures.1 in
    let o = c.in_err-copy_with.ensures.copied in
    rw (p.1, p.2) (λ tracks fresh. (
      o.0,
      linked_lost _ _ _ _ _ _ _ fresh _ _ _ _ at.0 (omega (arith, at.1)) (c.loop-depth.invariant.linked tracks fresh)
          (tracks c.loop-depth.depth (omega (arith, at.1))) at.2 o.1,
    ))
