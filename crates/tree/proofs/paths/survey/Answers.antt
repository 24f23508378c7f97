use Rattle.std.proofs.Common.{◌≡◌, ◌-◌, None, refl, sym, ap, ◌∙◌, inl, inr, arith, rules}
use Rattle.std.proofs.lemmas.Result.{err_from_is_err_and}
use Rattle.tree.specs.Paths.{led}
use Rattle.tree.proofs.Walks.{out_lost}
use Rattle.tree.proofs.Surveys.{survey_none, survey_more, survey_rest, survey_there}
use Rattle.tree.proofs.paths.survey.Goals.{then-has_other, else-has_other}
use Rattle.tree.proofs.paths.survey.Goals as goal

pub loop-depth-init : goal.loop-depth-init
loop-depth-init c = (survey_none _ _ _ _, refl)

pub loop-depth-preserved : goal.loop-depth-preserved
loop-depth-preserved c =
    let old = c.loop-depth.invariant.0 in
    let read = c.in_ok-bytes.ensures.loaded ∙ ap (led c.args.memory.now) c.loop-depth.invariant.1 in (
      survey_more _ _ _ _ _ _ _ _ _ _ _ c.has_other.result (omega arith) c.loop-depth-test.true old c.digit-place.ensures.value read c.decode-here.ensures.value
          c.has_other.ensures.holes c.has_other.ensures.other
          (elim c.if-has_other.branch [ then-has_other w ↦ inl (w.if-has_other.true, omega (arith, w.kept-is)) | else-has_other w ↦ inr (w.if-has_other.false, w.kept-is) ]),
      survey_there _ _ _ _ _ _ _ _ (omega arith) c.loop-depth-test.true old,
    )

pub returns-then-is_none : goal.returns-then-is_none
returns-then-is_none c =
    let none : c.loop-depth.here ≡ None = search rules in
    record { surveyed = (omega arith, refl, survey_rest _ _ _ _ (c.args.path.height - c.loop-depth.depth) _ _ c.loop-depth.depth (omega arith) c.loop-depth.invariant.0 (sym c.loop-depth.invariant.1 ∙ none)) }

pub returns-in_err-bytes : goal.returns-in_err-bytes
returns-in_err-bytes c =
    let p = err_from_is_err_and c.from_residual.result c.from_residual.ensures.1 in
    let o = c.in_err-bytes.ensures.loaded in
    rw (p.1, p.2) (record {
      surveyed = (o.0, λ low inside. out_lost _ _ _ _ _ _ (omega arith) (c.loop-depth.invariant.1 ∙ c.loop-depth.invariant.0.pointers c.loop-depth.depth (omega arith)) o.1);
    })
