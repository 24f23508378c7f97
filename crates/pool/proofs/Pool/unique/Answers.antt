use Rattle.std.proofs.Common.{ℕ, Ok, refl, inl, inr}
use Rattle.std.proofs.lemmas.Result.{err_from_is_err_and}
use Rattle.records.specs.declared.rows.Row.{Row}
use Rattle.model.specs.Datasets.{State, Dataset}
use Rattle.model.specs.Families.{IsClone}
use Rattle.model.specs.Figures.{UniqueIs}
use Rattle.model.specs.Limits.{IsDatasetNumber}
use Rattle.model.specs.Steps.{Step}
use Rattle.model.specs.declared.Answer.TheVariants.{Count}
use Rattle.model.specs.declared.Call.TheVariants.{Unique}
use Rattle.model.proofs.Figures.{unique_head}
use Rattle.pool.specs.Pools.{state_of}
use Rattle.pool.proofs.Pool.unique.Goals as goal

unique_step : (s : State) (n k : ℕ) (r : Row) → IsDatasetNumber n → Dataset s n r → ((m : ℕ) → IsClone s n m → ⊥) → UniqueIs s n k → Step s (Unique n) (Ok (Count k)) s
unique_step s n k r number found none unique = ((number, ((r, found), (none, tt))), ((k, refl, unique), refl))

pub returns-in_err-no_clones : goal.returns-in_err-no_clones
returns-in_err-no_clones g c = record {
  step = λ i.
      let (is, (m, clone)) = c.in_err-no_clones.ensures.cases i.1.shape.ordered in
      let p = err_from_is_err_and c.from_residual-in_err-no_clones.result c.from_residual-in_err-no_clones.ensures.1 in
      rw (p.1, p.2, is) (inr (c.in_ok-dataset_number.ensures.cases, inr ((c.in_ok-row.row, c.in_ok-row.ensures.cases i.1.shape.ordered), inl ((λ none. none m clone), refl))), refl);
}

pub returns-in_err-young_dead-in-Snapshot : goal.returns-in_err-young_dead-in-Snapshot
returns-in_err-young_dead-in-Snapshot g c = record {
  step = λ i.
      absurd
      (c.in_err-young_dead-in-Snapshot.ensures.counts c.args.number c.in-Snapshot.stamp i (c.in_ok-row.ensures.cases i.1.shape.ordered) c.in-Snapshot.is
      (c.in_ok-no_clones.ensures.cases i.1.shape.ordered));
}

pub returns-in-Head : goal.returns-in-Head
returns-in-Head g c = record {
  step = λ i.
      let s : State = state_of g.A.BlockAllocator.meaning c.args.self.now in
      let found : Dataset s c.args.number c.in_ok-row.row = c.in_ok-row.ensures.cases i.1.shape.ordered in
      unique_step s c.args.number c.in_ok-row.row.born c.in_ok-row.row c.in_ok-dataset_number.ensures.cases found
      (c.in_ok-no_clones.ensures.cases i.1.shape.ordered)
      (unique_head s c.args.number c.in_ok-row.row c.in-Head.origin i.1 found c.in-Head.is);
}

pub returns-in_ok-young_dead-in-Snapshot : goal.returns-in_ok-young_dead-in-Snapshot
returns-in_ok-young_dead-in-Snapshot g c = record {
  step = λ i.
      let s : State = state_of g.A.BlockAllocator.meaning c.args.self.now in
      let found : Dataset s c.args.number c.in_ok-row.row = c.in_ok-row.ensures.cases i.1.shape.ordered in
      let none : (m : ℕ) → IsClone s c.args.number m → ⊥ = c.in_ok-no_clones.ensures.cases i.1.shape.ordered in
      unique_step s c.args.number c.in_ok-young_dead-in-Snapshot.field-0 c.in_ok-row.row c.in_ok-dataset_number.ensures.cases found none
      (c.in_ok-young_dead-in-Snapshot.ensures.counts c.args.number c.in-Snapshot.stamp i found c.in-Snapshot.is none);
}
