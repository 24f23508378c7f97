use Rattle.std.proofs.Common.{◌≡◌, ℕ, Ok, sym, ap, ◌∙◌, subst, arith}
use Rattle.model.specs.Datasets.{State}
use Rattle.model.specs.Soundness.{Sound}
use Rattle.model.specs.Steps.{Step, with_row}
use Rattle.model.specs.declared.Answer.TheVariants.{Done}
use Rattle.model.specs.declared.Call.TheVariants.{Create}
use Rattle.pool.specs.Pools.{state_of}
use Rattle.model.proofs.Keeps.{steps_keep_sound}
use Rattle.pool.proofs.Places.{joins, no_change, nothing_changed}
use Rattle.pool.proofs.Pool.create.Goals as goal

pub returns-in_err-add_row : goal.returns-in_err-add_row
returns-in_err-add_row g c = record { step = λ i. absurd (never i.1); sound = λ i. absurd (never i.1); refused = λ i. absurd (never i.1) }
  where
    never : Sound (state_of g.A.BlockAllocator.meaning c.args.self.now) → ⊥
    never s =
        let place = joins c.args.self.now.rows c.args.number c.args.height c.new_head.result c.new_head.ensures.value (c.in_ok-unused.ensures.cases s.shape.ordered) c.in_ok-free_row.ensures.cases in
        let placed = (c.in_err-add_row.ensures.adds s.shape.ordered place).0 in
        let z : ◌≡◌ {A = ℕ} 0 1 = cc in
        omega arith

pub returns : goal.returns
returns g c = record {
  step = λ i. step i.1;
  refused = λ i. tt;
  sound = λ i. (
    subst g.A.BlockAllocator.sound (sym c.in_ok-add_row.ensures.allocator) i.0,
    steps_keep_sound _ (Create c.args.number c.args.height) (Ok (Done c.default.result)) _ i.1 (step i.1),
  );
}
  where
    step : Sound (state_of g.A.BlockAllocator.meaning c.args.self.now) → Step (state_of g.A.BlockAllocator.meaning c.args.self.now) (Create c.args.number c.args.height) (Ok (Done c.default.result)) (state_of g.A.BlockAllocator.meaning c.add_row.new.self)
    step s =
        let unused = c.in_ok-unused.ensures.cases s.shape.ordered in
        let free = c.in_ok-free_row.ensures.cases in
        let place = joins c.args.self.now.rows c.args.number c.args.height c.new_head.result c.new_head.ensures.value unused free in
        let added = c.in_ok-add_row.ensures.adds s.shape.ordered place in
        let is = added.1 ∙ ap (with_row (state_of g.A.BlockAllocator.meaning c.args.self.now)) c.new_head.ensures.value in (
          (c.in_ok-dataset_number.ensures.cases, (unused, (c.in_ok-height.ensures.cases, (free, tt)))),
          (ap Done (no_change c.default.ensures.0 c.default.ensures.1 ∙ nothing_changed (state_of g.A.BlockAllocator.meaning c.args.self.now) (state_of g.A.BlockAllocator.meaning c.add_row.new.self) (ap (λ (t : State). t.owns) is)), is),
        )
