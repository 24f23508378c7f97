use Rattle.std.proofs.Common.{◌≡◌, ℕ, Some, sym, refl, ap, ◌∙◌, inr, inl, arith}
use Rattle.std.proofs.lemmas.Result.{err_from_is_err_and}
use Rattle.std.specs.Option.{ok_or}
use Rattle.faults.specs.declared.PoolCause.TheVariants.{NoPool}
use Rattle.model.specs.Datasets.{State}
use Rattle.pool.specs.Pools.{state_of}
use Rattle.pool.proofs.Parts.{bound_found, bucket_part, no_bucket}
use Rattle.pool.proofs.Pool.bucket.Goals as goal

pub returns-in_err-bucket-clause-step : goal.returns-in_err-bucket-clause-step
returns-in_err-bucket-clause-step g c i =
    let s : State = state_of g.A.BlockAllocator.meaning c.args.self.now in
    let found = c.in_ok-row.ensures.cases i.1.shape.ordered in
    let no = c.in_err-bucket.ensures.cases in
    let none = no_bucket s c.args.number c.ancestor_count-count.result c.args.bucket c.in_ok-row.row i.1 found c.ancestor_count-count.ensures.counts no.1 in
    let p = err_from_is_err_and c.from_residual-in_err-bucket.result c.from_residual-in_err-bucket.ensures.1 in
    rw (p.1, p.2, no.0) (inr (c.in_ok-dataset_number.ensures.cases, inr ((c.in_ok-row.row, found), inl (none, refl))), refl)

pub returns-in_err-upper-clause-step : goal.returns-in_err-upper-clause-step
returns-in_err-upper-clause-step g c i =
    let s : State = state_of g.A.BlockAllocator.meaning c.args.self.now in
    let found = c.in_ok-row.ensures.cases i.1.shape.ordered in
    let (_, x, _, _, is, _) = bound_found s c.args.number c.ancestor_count-count.result c.args.bucket c.in_ok-row.row i.1 found c.ancestor_count-count.ensures.counts c.in_ok-bucket.ensures.cases c.ancestor.result c.ancestor.ensures.finds in
    let answered = c.in_err-upper.ensures.value ∙ ap (λ o. ok_or o NoPool) is in
    let z : ◌≡◌ {A = ℕ} 0 1 = cc in
    absurd (omega arith)

pub returns-clause-step : goal.returns-clause-step
returns-clause-step g c i =
    let s : State = state_of g.A.BlockAllocator.meaning c.args.self.now in
    let found = c.in_ok-row.ensures.cases i.1.shape.ordered in
    let (ms, x, line, within, is, there) = bound_found s c.args.number c.ancestor_count-count.result c.args.bucket c.in_ok-row.row i.1 found c.ancestor_count-count.ensures.counts c.in_ok-bucket.ensures.cases c.ancestor.result c.ancestor.ensures.finds in
    let answered = c.in_ok-upper.ensures.value ∙ ap (λ o. ok_or o NoPool) is in
    let same : c.in_ok-upper.upper ≡ x = cc in
    let bucket =
    bucket_part s c.args.number c.args.bucket ms c.in_ok-upper.upper i.1 line within (ap Some same ∙ sym there) c.stamp.result c.kind_stamp.result c.part.result.1 c.young_start-first.result c.young_start-end.result c.part.result.0.now
    (c.stamp.ensures.value i.1.shape.ordered) c.kind_stamp.ensures.value c.young_start-first.ensures.value c.young_start-end.ensures.value
    c.part.ensures.run (c.part.ensures.first i.1.shape.dead_ordered) (c.part.ensures.second i.1.shape.dead_ordered) in
    ((c.in_ok-dataset_number.ensures.cases, ((c.in_ok-row.row, found), ((ms, line, within), tt))), ((c.part.result.1, _, refl, bucket), refl))
