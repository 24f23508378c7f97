use Rattle.std.proofs.Common.{◌≡◌, Err, sym, ap, ◌∙◌, subst}
use Rattle.std.proofs.lemmas.Result.{err_from_is_err_and}
use Rattle.faults.specs.declared.Layer.TheVariants.{Script}
use Rattle.script.specs.Consoles.{Obeyed, malformed, called}
use Rattle.script.specs.Sessions.{held}
use Rattle.script.proofs.session.obey.Goals as goal

pub returns-in_err-call-clause-obeyed : goal.returns-in_err-call-clause-obeyed
returns-in_err-call-clause-obeyed c =
    let p = err_from_is_err_and c.from_residual.result c.from_residual.ensures.1 in
    let is : c.from_residual.result ≡ Err (Script c.in_err-call.field-0.0) = p.1 ∙ ap Err p.2 in
    λ s. subst (λ r. Obeyed (held c.args.pool.now) c.args.line.bytes.now r (held c.args.pool.now)) (sym is) (malformed c.in_err-call.ensures.cases)

pub returns-clause-obeyed : goal.returns-clause-obeyed
returns-clause-obeyed c = let read = c.in_ok-call.ensures.cases in λ s. called c.in_ok-call.call read.0 read.1 (c.perform.ensures.step s)
