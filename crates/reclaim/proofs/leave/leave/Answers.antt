use Rattle.std.proofs.Common.{◌≡◌, ℕ, sym, arith}
use Rattle.std.proofs.lemmas.Bool.{ltb-false}
use Rattle.reclaim.proofs.Departs.{is_placed}
use Rattle.reclaim.proofs.leave.leave.Goals as goal

pub returns-in_err-map_err-clause-left : goal.returns-in_err-map_err-clause-left
returns-in_err-map_err-clause-left g c = λ s d a.
    let old = ltb-false _ _ (sym c.if-is_young.ensures.value) in
    let placed = is_placed _ _ _ _ _ _ _ _ c.record_of.ensures.value old a (c.insert.ensures.value d) in
    let told = rw placed at c.in_err-map_err.ensures.cases in
    let z : ◌≡◌ {A = ℕ} 0 1 = cc in
    absurd (omega arith)
