use Rattle.std.proofs.Common.{ℕ, suc, ◌+◌, refl, subst, inl, inr, add-one, arith}
use Rattle.std.proofs.lemmas.Result.{err_from_is_err_and}
use Rattle.model.specs.Datasets.{State}
use Rattle.model.specs.Steps.{Step}
use Rattle.model.specs.declared.Call.TheVariants.{Write}
use Rattle.model.proofs.Keeps.{steps_keep_sound}
use Rattle.pool.specs.Paths.{IsWritable, Replaces, Routed}
use Rattle.pool.specs.Pools.{Intact, done, state_of}
use Rattle.pool.proofs.Calls.{of_position, routed, write_step}
use Rattle.pool.proofs.Trees.{no_position, nothing_lost}
use Rattle.pool.proofs.Pool.write.Goals as goal

pub returns-in_err-position : goal.returns-in_err-position
returns-in_err-position g c = record {
  step = λ i.
      let s : State = state_of g.A.BlockAllocator.meaning c.args.self.now in
      let is : IsWritable s c.args.number c.in_ok-row.row = c.in_ok-row.ensures.cases i.1.shape.ordered in
      let out = c.in_err-position.ensures.cases (i.1.shape.heights c.args.number c.in_ok-row.row is.found).1 in
      let p = err_from_is_err_and c.from_residual-in_err-position.result c.from_residual-in_err-position.ensures.1 in
      rw (p.1, p.2, out.0)
      (inr (is.number, inr ((c.in_ok-row.row, is.found), inr ((is.origin, (c.in_ok-row.row, is.found, is.head)), inl (λ x. no_position s c.args.number c.args.position c.in_ok-row.row is.found out.1 x.0, refl)))), refl);
  refused = λ i. let p = err_from_is_err_and c.from_residual-in_err-position.result c.from_residual-in_err-position.ensures.1 in rw p.1 refl;
  sound = λ i. i;
}

pub returns-in_err-route : goal.returns-in_err-route
returns-in_err-route g c = record { step = λ i. absurd (never i); sound = λ i. absurd (never i); refused = λ i. absurd (never i) }
  where
    never : Intact g.A.BlockAllocator.sound g.A.BlockAllocator.meaning c.args.self.now → ⊥
    never i =
        let s : State = state_of g.A.BlockAllocator.meaning c.args.self.now in
        let is : IsWritable s c.args.number c.in_ok-row.row = c.in_ok-row.ensures.cases i.1.shape.ordered in
        let high = (i.1.shape.heights c.args.number c.in_ok-row.row is.found).1 in
        nothing_lost s c.args.number c.in_ok-row.row i.1 is.found (c.in_err-route.ensures.surveyed.1 high (c.in_ok-position.ensures.cases high))

pub returns : goal.returns
returns g c = record {
  step = step;
  refused = λ i. c.replace_path.ensures.refused i (way i);
  sound = λ i. (
    c.replace_path.ensures.sound i.0,
    steps_keep_sound (state_of g.A.BlockAllocator.meaning c.args.self.now) (Write c.args.number c.args.position c.args.text) (done c.replace_path.result) (state_of g.A.BlockAllocator.meaning c.replace_path.new.self) i.1 (step i),
  );
}
  where
    way : Intact g.A.BlockAllocator.sound g.A.BlockAllocator.meaning c.args.self.now → Routed (state_of g.A.BlockAllocator.meaning c.args.self.now) c.in_ok-row.row c.in_ok-route.route.path.position c.in_ok-route.route (c.in_ok-row.row.height + 1) c.args.text.now
    way i =
        let s : State = state_of g.A.BlockAllocator.meaning c.args.self.now in
        let t : State = state_of g.A.BlockAllocator.meaning c.replace_path.new.self in
        let r = c.in_ok-row.row in
        let is : IsWritable s c.args.number c.in_ok-row.row = c.in_ok-row.ensures.cases i.1.shape.ordered in
        let position = c.in_ok-position.ensures.cases (i.1.shape.heights c.args.number c.in_ok-row.row is.found).1 in
        let short = c.in_ok-text.ensures.cases in
        let path = c.in_ok-route.ensures.surveyed.1 in
        routed s c.args.number c.in_ok-row.row c.args.position c.in_ok-route.route (c.in_ok-row.row.height + 1) c.args.text.now is.found position path c.in_ok-route.ensures.surveyed.2 (omega arith) short

    step : Intact g.A.BlockAllocator.sound g.A.BlockAllocator.meaning c.args.self.now
        → Step (state_of g.A.BlockAllocator.meaning c.args.self.now) (Write c.args.number c.args.position c.args.text) (done c.replace_path.result) (state_of g.A.BlockAllocator.meaning c.replace_path.new.self)
    step i =
        let s : State = state_of g.A.BlockAllocator.meaning c.args.self.now in
        let t : State = state_of g.A.BlockAllocator.meaning c.replace_path.new.self in
        let r = c.in_ok-row.row in
        let is : IsWritable s c.args.number c.in_ok-row.row = c.in_ok-row.ensures.cases i.1.shape.ordered in
        let position = c.in_ok-position.ensures.cases (i.1.shape.heights c.args.number c.in_ok-row.row is.found).1 in
        let short = c.in_ok-text.ensures.cases in
        let path = c.in_ok-route.ensures.surveyed.1 in
        write_step s t c.args.number c.args.position c.args.text c.in_ok-row.row c.replace_path.result is position short
        (of_position s t c.in_ok-row.row c.args.position (suc c.in_ok-row.row.height) c.in_ok-route.route c.args.text.now c.replace_path.result path
        (subst (λ (k : ℕ). Replaces s c.in_ok-row.row c.in_ok-route.route.path.position k c.args.text.now c.replace_path.result t) (add-one c.in_ok-row.row.height) (c.replace_path.ensures.replaces i (way i))))
