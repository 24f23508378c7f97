use Rattle.std.proofs.Common.{◌≡◌, length, arith}
use Rattle.reclaim.proofs.Sets.{freed}
use Rattle.reclaim.proofs.Lists.{listed_none, listed_more, listed_next, listed_all, listed_fewer}
use Rattle.reclaim.proofs.give.give_list.Goals as goal

pub loop-record-init : goal.loop-record-init
loop-record-init g c = record { stays = λ s. s; listed = λ s. listed_none _ _ }

pub loop-record-preserved : goal.loop-record-preserved
loop-record-preserved g c =
    let o = c.in_ok-give_back.ensures in
    let inv = c.loop-record.invariant in
    record { stays = λ s. o.sound (inv.stays s); listed = λ s. listed_more _ _ _ _ _ (inv.listed s) (o.gave (inv.stays s)) }

pub returns-in_err-give_back-clause-granted : goal.returns-in_err-give_back-clause-granted
returns-in_err-give_back-clause-granted g c = λ s ready.
    let inv = c.loop-record.invariant in
    absurd (listed_next _ _ _ _ (omega arith) ready (inv.listed s) (c.in_err-give_back.ensures.gave (inv.stays s)))

pub returns-clause-counted : goal.returns-clause-counted
returns-clause-counted g c = λ s.
    freed _ _ _ _ (listed_fewer _ _ _ _ (c.loop-record.invariant.listed s)) (c.free_count-free_before.ensures.value s) (c.freed_since.ensures.value (c.loop-record.invariant.stays s))

pub returns-clause-given : goal.returns-clause-given
returns-clause-given g c = λ s.
    let all : c.loop-record.record-index ≡ length c.args.list.now = omega arith in
    let listed = c.loop-record.invariant.listed s in
    (omega (arith, returns-clause-counted g c s, listed.number), listed_all _ _ _ _ all listed)
