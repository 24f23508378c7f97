use Rattle.std.proofs.Common.{sym, refl, ◌∙◌, arith}
use Rattle.std.proofs.lemmas.Result.{err_from_is_err_and}
use Rattle.tree.proofs.Walks.{root_is, below, below_hole, lost_up, lost_here}
use Rattle.tree.proofs.paths.+descend.Goals as goal

pub returns-then-depth-eq0 : goal.returns-then-depth-eq0
returns-then-depth-eq0 t c = record { found = root_is _ _ _ _ c.if-depth-eq0.true }

pub returns-in_default : goal.returns-in_default
returns-in_default t c = record { found = below_hole _ _ _ _ (omega arith) (sym c.in_default.is ∙ c.in_ok-up.ensures.found) }

pub returns : goal.returns
returns t c = record {
  found =
      below _ _ _ _ c.args.index _ _ _ (omega arith) (omega arith) (sym c.in-Some.is ∙ c.in_ok-up.ensures.found)
      c.in_ok-bytes.ensures.read c.decode.ensures.value;
}

pub returns-in_err-up : goal.returns-in_err-up
returns-in_err-up t c =
    let p = err_from_is_err_and c.from_residual.result c.from_residual.ensures.1 in
    let o = c.in_err-up.ensures.found in
    rw (p.1, p.2) (record { found = (o.0, lost_up _ _ _ _ (omega arith) o.1) })

pub returns-in_err-bytes : goal.returns-in_err-bytes
returns-in_err-bytes t c =
    let p = err_from_is_err_and c.from_residual-in_err-bytes.result c.from_residual-in_err-bytes.ensures.1 in
    let o = c.in_err-bytes.ensures.read in
    rw (p.1, p.2) (record { found = (o.0, lost_here _ _ _ _ _ (omega arith) (sym c.in-Some.is ∙ c.in_ok-up.ensures.found) (c.in-Some.up, refl, o.1)) })
