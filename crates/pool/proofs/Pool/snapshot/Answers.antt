use Rattle.std.proofs.Common.{◌≡◌, ℕ, Ok, sym, subst, arith}
use Rattle.model.specs.Datasets.{State}
use Rattle.model.specs.Steps.{Step}
use Rattle.model.specs.declared.Answer.TheVariants.{Done}
use Rattle.model.specs.declared.Call.TheVariants.{Snapshot}
use Rattle.model.proofs.Keeps.{steps_keep_sound}
use Rattle.pool.specs.Pools.{Intact, state_of}
use Rattle.pool.proofs.Copies.{snapshot_asked, snapshot_step}
use Rattle.pool.proofs.Pool.snapshot.Goals as goal

pub returns-in_err-take_snapshot : goal.returns-in_err-take_snapshot
returns-in_err-take_snapshot g c = record { step = λ i. absurd (never i); sound = λ i. absurd (never i); refused = λ i. absurd (never i) }
  where
    never : Intact g.A.BlockAllocator.sound g.A.BlockAllocator.meaning c.args.self.now → ⊥
    never i =
        let s : State = state_of g.A.BlockAllocator.meaning c.args.self.now in
        let asked =
        snapshot_asked s c.args.number c.args.snapshot c.in_ok-row.row c.in_ok-dataset_number.ensures.cases c.in_ok-dataset_number-2.ensures.cases (c.in_ok-row.ensures.cases i.1.shape.ordered)
        c.in_ok-head.ensures.cases (c.in_ok-unused.ensures.cases i.1.shape.ordered) c.in_ok-free_row.ensures.cases c.in_ok-group_left.ensures.cases in
        let taken = (c.in_err-take_snapshot.ensures.snapped i asked.0 asked.1).0 in
        let z : ◌≡◌ {A = ℕ} 0 1 = cc in
        omega arith

pub returns : goal.returns
returns g c = record {
  step = step;
  sound = λ i. (
    subst g.A.BlockAllocator.sound (sym c.in_ok-take_snapshot.ensures.allocator) i.0,
    steps_keep_sound _ (Snapshot c.args.number c.args.snapshot) (Ok (Done c.default.result)) _ i.1 (step i),
  );
  refused = λ i. tt;
}
  where
    step : Intact g.A.BlockAllocator.sound g.A.BlockAllocator.meaning c.args.self.now
        → Step (state_of g.A.BlockAllocator.meaning c.args.self.now) (Snapshot c.args.number c.args.snapshot) (Ok (Done c.default.result)) (state_of g.A.BlockAllocator.meaning c.take_snapshot.new.self)
    step i =
        let s : State = state_of g.A.BlockAllocator.meaning c.args.self.now in
        let found = c.in_ok-row.ensures.cases i.1.shape.ordered in
        let asked =
        snapshot_asked s c.args.number c.args.snapshot c.in_ok-row.row c.in_ok-dataset_number.ensures.cases c.in_ok-dataset_number-2.ensures.cases found
        c.in_ok-head.ensures.cases (c.in_ok-unused.ensures.cases i.1.shape.ordered) c.in_ok-free_row.ensures.cases c.in_ok-group_left.ensures.cases in
        snapshot_step s _ c.args.number c.args.snapshot c.in_ok-row.row c.default.result.taken c.default.result.given found asked
        (c.in_ok-take_snapshot.ensures.snapped i asked.0 asked.1).1 c.default.ensures.0 c.default.ensures.1
