use Rattle.std.proofs.Common.{Ok, sym, ap, ◌∙◌, subst}
use Rattle.model.specs.Datasets.{State}
use Rattle.model.specs.Steps.{Step, with_row}
use Rattle.model.specs.declared.Answer.TheVariants.{Done}
use Rattle.model.specs.declared.Call.TheVariants.{Clone}
use Rattle.model.proofs.Keeps.{steps_keep_sound}
use Rattle.pool.specs.Pools.{Intact, state_of}
use Rattle.pool.proofs.Copies.{clone_asked, clone_step, has_place}
use Rattle.pool.proofs.Pool.clone_snapshot.Goals as goal

pub returns : goal.returns
returns g c = record {
  step = step;
  sound = λ i. (
    subst g.A.BlockAllocator.sound (sym c.in_ok-add_row.ensures.allocator) i.0,
    steps_keep_sound _ (Clone c.args.snapshot c.args.number) (Ok (Done c.default.result)) _ i.1 (step i),
  );
  refused = λ i. tt;
}
  where
    step : Intact g.A.BlockAllocator.sound g.A.BlockAllocator.meaning c.args.self.now
        → Step (state_of g.A.BlockAllocator.meaning c.args.self.now) (Clone c.args.snapshot c.args.number) (Ok (Done c.default.result)) (state_of g.A.BlockAllocator.meaning c.add_row.new.self)
    step i =
        let s : State = state_of g.A.BlockAllocator.meaning c.args.self.now in
        let found = c.in_ok-row.ensures.cases i.1.shape.ordered in
        let unused = c.in_ok-unused.ensures.cases i.1.shape.ordered in
        let free = c.in_ok-free_row.ensures.cases in
        let place = has_place c.args.self.now.rows c.clone_of.result _ c.clone_of.ensures.value unused free in
        let added = (c.in_ok-add_row.ensures.adds i.1.shape.ordered place).1 ∙ ap (with_row s) c.clone_of.ensures.value in
        clone_step s _ c.args.snapshot c.args.number c.in_ok-row.row c.default.result.taken c.default.result.given found
        (clone_asked s c.args.snapshot c.args.number c.in_ok-row.row c.in_ok-dataset_number.ensures.cases c.in_ok-dataset_number-2.ensures.cases found c.in_ok-snapshot.ensures.cases unused free)
        added c.default.ensures.0 c.default.ensures.1
