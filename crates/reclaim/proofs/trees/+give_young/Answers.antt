use Rattle.std.proofs.Common.{sym, arith}
use Rattle.std.proofs.lemmas.Bool.{ltb-true, ltb-false}
use Rattle.reclaim.proofs.Sets.{back_none, fewer_both}
use Rattle.reclaim.proofs.Walks.{hole_none, one_down, old_none, root_inside, root_owned, back_leaf, back_all, ready_next, back_next}
use Rattle.reclaim.proofs.trees.+give_young.Goals as goal

pub returns-in_default-clause-given : goal.returns-in_default-clause-given
returns-in_default-clause-given g t c = λ s ready. back_none _ _ (λ b y. hole_none _ _ _ _ b c.in_default.is y)

pub returns-then-not-is_young-clause-given : goal.returns-then-not-is_young-clause-given
returns-then-not-is_young-clause-given g t c = λ s ready.
    back_none _ _ (old_none _ _ _ _ _ _ c.in-Some.is ready (ltb-false _ _ (sym c.if-not-is_young.ensures.value)))

pub returns-in_err-give_back-clause-given : goal.returns-in_err-give_back-clause-given
returns-in_err-give_back-clause-given g t c = λ s ready.
    absurd (root_owned _ _ _ _ _ _ c.in-Some.is (ltb-true _ _ (sym c.if-not-is_young.ensures.value)) ready (c.in_err-give_back.ensures.gave s))

pub returns-then-height-eq0-clause-given : goal.returns-then-height-eq0-clause-given
returns-then-height-eq0-clause-given g t c = λ s ready.
    back_leaf _ _ _ _ _ _ c.in-Some.is (ltb-true _ _ (sym c.if-not-is_young.ensures.value)) _ c.if-height-eq0.true (c.in_ok-give_back.ensures.gave s)

pub returns-in_err-below-clause-given : goal.returns-in_err-below-clause-given
returns-in_err-below-clause-given g t c = λ s ready. absurd (root_inside _ _ _ _ _ _ c.in-Some.is ready c.in_err-below.ensures.below.1)

pub returns-in_err-give_young-clause-given : goal.returns-in_err-give_young-clause-given
returns-in_err-give_young-clause-given g t c = λ s ready.
    let down = one_down _ _ _ _ _ (omega arith) ready in
    let inv = c.loop-child.invariant in
    absurd (c.in_err-give_young.ensures.given (inv.stays s) (ready_next _ _ _ _ _ _ _ c.in-Some.is _ c.in_ok-below.ensures.below _ (omega arith) down (inv.back s down)))

pub loop-child-preserved : goal.loop-child-preserved
loop-child-preserved g t c =
    let o = c.in_ok-give_young.ensures in
    let inv = c.loop-child.invariant in
    let kids = c.in_ok-below.ensures.below in
    record {
      stays = λ s. o.sound (inv.stays s);
      fewer = λ s. fewer_both _ _ _ (inv.fewer s) (o.fewer (inv.stays s));
      back = λ s down.
          let back = inv.back s down in
          back_next _ _ _ _ _ _ _ c.in-Some.is _ kids _ (omega arith) _ back (o.given (inv.stays s) (ready_next _ _ _ _ _ _ _ c.in-Some.is _ kids _ (omega arith) down back));
    }

pub returns-clause-given : goal.returns-clause-given
returns-clause-given g t c = λ s ready.
    back_all _ _ _ _ _ _ _ _ c.in-Some.is (ltb-true _ _ (sym c.if-not-is_young.ensures.value)) (omega arith) (omega arith) (c.loop-child.invariant.back s (one_down _ _ _ _ _ (omega arith) ready))
