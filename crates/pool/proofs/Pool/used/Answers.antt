use Rattle.std.proofs.Common.{◌≡◌, ℕ, ◌-◌, ◌^◌, ◌==◌, List, filter, min, refl, subst, arith}
use Rattle.std.specs.List.{sum_by}
use Rattle.blocks.proofs.Counts.{count_bound}
use Rattle.records.specs.declared.rows.Row.{Row}
use Rattle.model.specs.Datasets.{State}
use Rattle.model.specs.Figures.{UsedIs}
use Rattle.model.specs.Soundness.{Sound}
use Rattle.model.proofs.Figures.{used_figure}
use Rattle.pool.specs.Paths.{IsWritable}
use Rattle.pool.specs.Pools.{state_of}
use Rattle.pool.proofs.Pool.used.Goals as goal

-- the sum fits, as it counts blocks
used_value : (s : State) (n k : ℕ) (rows : List Row) → Sound s → rows ≡ s.rows → k ≡ min (sum_by (λ (r : Row). r.born) (filter (λ (r : Row). r.owner == n) rows)) (2 ^ 32 - 1) → UsedIs s n k
used_value s n k rows sound all is =
    let used = used_figure s n sound in
    let sum = subst (λ (xs : List Row). k ≡ min (sum_by (λ (r : Row). r.born) (filter (λ (r : Row). r.owner == n) xs)) (2 ^ 32 - 1)) all is in
    subst (UsedIs s n) (omega (arith, sum, used.counted, count_bound used.test s.size, sound.shape.size.1)) used

pub returns : goal.returns
returns g c = record {
  step = λ i.
      let s : State = state_of g.A.BlockAllocator.meaning c.args.self.now in
      let is : IsWritable s c.args.number c.in_ok-writable.field-0 = c.in_ok-writable.ensures.cases i.1.shape.ordered in (
        (is.number, ((_, is.found), ((is.origin, (_, is.found, is.head)), tt))),
        ((c.used_by.result, refl, used_value s c.args.number c.used_by.result c.records.result.now i.1 c.records.ensures.value c.used_by.ensures.value), refl),
      );
}
