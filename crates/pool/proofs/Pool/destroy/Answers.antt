use Rattle.std.proofs.Common.{ℕ, Ok}
use Rattle.std.proofs.lemmas.Result.{err_from_is_err_and}
use Rattle.model.specs.Datasets.{State, Dataset}
use Rattle.model.specs.Families.{IsClone}
use Rattle.model.specs.Steps.{Step}
use Rattle.model.specs.declared.Answer.TheVariants.{Done}
use Rattle.model.specs.declared.Call.TheVariants.{Destroy}
use Rattle.model.proofs.Keeps.{steps_keep_sound}
use Rattle.pool.specs.Pools.{Intact, state_of}
use Rattle.pool.proofs.Destroying.{has_clones, has_snapshots, head_step, own_row, snapshot_step}
use Rattle.pool.proofs.Pool.destroy.Goals as goal

pub returns-in_err-no_clones-clause-step : goal.returns-in_err-no_clones-clause-step
returns-in_err-no_clones-clause-step g c = λ i.
    let s : State = state_of g.A.BlockAllocator.meaning c.args.self.now in
    let found : Dataset s c.args.number c.in_ok-row.row = c.in_ok-row.ensures.cases i.1.shape.ordered in
    let (is, (m, clone)) = c.in_err-no_clones.ensures.cases i.1.shape.ordered in
    let p = err_from_is_err_and c.from_residual-in_err-no_clones.result c.from_residual-in_err-no_clones.ensures.1 in
    rw (p.1, p.2, is) (has_clones s c.args.number c.in_ok-row.row c.in_ok-dataset_number.ensures.cases found m clone)

pub returns-in_err-no_snapshots-clause-step : goal.returns-in_err-no_snapshots-clause-step
returns-in_err-no_snapshots-clause-step g c = λ i.
    let s : State = state_of g.A.BlockAllocator.meaning c.args.self.now in
    let found : Dataset s c.args.number c.in_ok-row.row = c.in_ok-row.ensures.cases i.1.shape.ordered in
    let alone : (m : ℕ) → IsClone s c.args.number m → ⊥ = c.in_ok-no_clones.ensures.cases i.1.shape.ordered in
    let (is, (o, kind, other)) = c.in_err-no_snapshots.ensures.cases in
    let p = err_from_is_err_and c.from_residual-in_err-no_snapshots.result c.from_residual-in_err-no_snapshots.ensures.1 in
    rw (p.1, p.2, is) (has_snapshots s c.args.number c.in_ok-row.row c.in_ok-dataset_number.ensures.cases found o i.1 alone kind other)

pub returns-in_err-given-in-Head : goal.returns-in_err-given-in-Head
returns-in_err-given-in-Head g c = record { step = λ i. absurd (never i); sound = λ i. absurd (never i); refused = λ i. absurd (never i) }
  where
    never : Intact g.A.BlockAllocator.sound g.A.BlockAllocator.meaning c.args.self.now → ⊥
    never i =
        c.in_err-given-in-Head.ensures.destroyed c.in-Head.origin i
        (own_row (state_of g.A.BlockAllocator.meaning c.args.self.now) c.args.number c.in_ok-row.row (c.in_ok-row.ensures.cases i.1.shape.ordered)) c.in-Head.is

pub returns-in_err-given-in-Snapshot : goal.returns-in_err-given-in-Snapshot
returns-in_err-given-in-Snapshot g c = record { step = λ i. absurd (never i); sound = λ i. absurd (never i); refused = λ i. absurd (never i) }
  where
    never : Intact g.A.BlockAllocator.sound g.A.BlockAllocator.meaning c.args.self.now → ⊥
    never i =
        c.in_err-given-in-Snapshot.ensures.destroyed c.in-Snapshot.stamp i
        (own_row (state_of g.A.BlockAllocator.meaning c.args.self.now) c.args.number c.in_ok-row.row (c.in_ok-row.ensures.cases i.1.shape.ordered)) c.in-Snapshot.is

pub returns-in_ok-given-in-Head : goal.returns-in_ok-given-in-Head
returns-in_ok-given-in-Head g c = record {
  step = step;
  refused = λ i. tt;
  sound = λ i. (
    c.destroy_head.ensures.sound i.0,
    steps_keep_sound _ (Destroy c.args.number) (Ok (Done (record { taken = 0; given = c.in_ok-given-in-Head.given }))) _ i.1 (step i),
  );
}
  where
    step : Intact g.A.BlockAllocator.sound g.A.BlockAllocator.meaning c.args.self.now
        → Step (state_of g.A.BlockAllocator.meaning c.args.self.now) (Destroy c.args.number) (Ok (Done (record { taken = 0; given = c.in_ok-given-in-Head.given })))
        (state_of g.A.BlockAllocator.meaning c.destroy_head.new.self)
    step i =
        let s : State = state_of g.A.BlockAllocator.meaning c.args.self.now in
        let found : Dataset s c.args.number c.in_ok-row.row = c.in_ok-row.ensures.cases i.1.shape.ordered in
        let alone : (m : ℕ) → IsClone s c.args.number m → ⊥ = c.in_ok-no_clones.ensures.cases i.1.shape.ordered in
        head_step s c.args.number c.in_ok-row.row c.in_ok-dataset_number.ensures.cases found _ _ c.in-Head.origin i.1 alone c.in-Head.is (c.in_ok-no_snapshots.ensures.cases c.in-Head.origin c.in-Head.is)
        (c.in_ok-given-in-Head.ensures.destroyed c.in-Head.origin i (own_row s c.args.number c.in_ok-row.row found) c.in-Head.is)

pub returns-in_ok-given-in-Snapshot : goal.returns-in_ok-given-in-Snapshot
returns-in_ok-given-in-Snapshot g c = record {
  step = step;
  refused = λ i. tt;
  sound = λ i. (
    c.destroy_snapshot.ensures.sound i.0,
    steps_keep_sound _ (Destroy c.args.number) (Ok (Done (record { taken = 0; given = c.in_ok-given-in-Snapshot.given }))) _ i.1 (step i),
  );
}
  where
    step : Intact g.A.BlockAllocator.sound g.A.BlockAllocator.meaning c.args.self.now
        → Step (state_of g.A.BlockAllocator.meaning c.args.self.now) (Destroy c.args.number) (Ok (Done (record { taken = 0; given = c.in_ok-given-in-Snapshot.given })))
        (state_of g.A.BlockAllocator.meaning c.destroy_snapshot.new.self)
    step i =
        let s : State = state_of g.A.BlockAllocator.meaning c.args.self.now in
        let found : Dataset s c.args.number c.in_ok-row.row = c.in_ok-row.ensures.cases i.1.shape.ordered in
        let alone : (m : ℕ) → IsClone s c.args.number m → ⊥ = c.in_ok-no_clones.ensures.cases i.1.shape.ordered in
        snapshot_step s c.args.number c.in_ok-row.row c.in_ok-dataset_number.ensures.cases found _ _ c.in-Snapshot.stamp alone c.in-Snapshot.is
        (c.in_ok-given-in-Snapshot.ensures.destroyed c.in-Snapshot.stamp i (own_row s c.args.number c.in_ok-row.row found) c.in-Snapshot.is)
