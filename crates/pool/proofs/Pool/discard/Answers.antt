use Rattle.std.proofs.Common.{◌≡◌, ℕ, Bool, subst, ap, true, false, not, [], get_or, is_some, Some, None, Ok, Option, sym, refl, ◌∙◌, inl, inr, le_refl, arith}
use Rattle.std.proofs.lemmas.Result.{err_from_is_err_and}
use Rattle.tree.specs.declared.paths.Path.{Path}
use Rattle.tree.specs.declared.paths.Route.{Route}
use Rattle.model.specs.Datasets.{State}
use Rattle.model.specs.Paths.{Hole}
use Rattle.model.specs.Steps.{Step}
use Rattle.model.specs.declared.Answer.TheVariants.{Done}
use Rattle.model.specs.declared.Changed.{Changed}
use Rattle.model.specs.declared.Call.TheVariants.{Discard}
use Rattle.model.proofs.Keeps.{steps_keep_sound}
use Rattle.pool.specs.Paths.{IsWritable, Routed}
use Rattle.pool.specs.Pools.{Intact, done, state_of}
use Rattle.pool.proofs.Calls.{discard_step, hole_step, of_position, routed}
use Rattle.pool.proofs.Places.{no_change}
use Rattle.pool.proofs.Trees.{no_position, nothing_lost}
use Rattle.pool.proofs.Pool.discard.Goals as goal

-- what is not there is nothing
nothing : {A : Type 0} (o : Option A) → not (is_some o) ≡ true → o ≡ None
nothing None e = refl
nothing (Some x) e = absurd (let z : ◌≡◌ {A = ℕ} 0 1 = cc in omega arith)

something : {A : Type 0} (o : Option A) → not (is_some o) ≡ false → o ≡ None → ⊥
something None e n = let z : ◌≡◌ {A = ℕ} 0 1 = cc in omega arith
something (Some x) e n = let z : ◌≡◌ {A = ℕ} 0 1 = cc in omega arith

-- what the test of the route says of its last pointer
ends : (route : Route) (h p : ℕ) (b v : Bool) → b ≡ not (is_some (get_or route.old route.path.height None)) → b ≡ v → route.path ≡ record { height = h; position = p }
    → not (is_some (get_or route.old h None)) ≡ v
ends route h p b v told is path = subst (λ (n : ℕ). not (is_some (get_or route.old n None)) ≡ v) (ap (λ (x : Path). x.height) path) (sym told ∙ is)

pub returns-in_err-position : goal.returns-in_err-position
returns-in_err-position g c = record {
  step = λ i.
      let s : State = state_of g.A.BlockAllocator.meaning c.args.self.now in
      let is : IsWritable s c.args.number c.in_ok-row.row = c.in_ok-row.ensures.cases i.1.shape.ordered in
      let out = c.in_err-position.ensures.cases (i.1.shape.heights c.args.number c.in_ok-row.row is.found).1 in
      let p = err_from_is_err_and c.from_residual-in_err-position.result c.from_residual-in_err-position.ensures.1 in
      rw (p.1, p.2, out.0)
      (inr (is.number, inr ((c.in_ok-row.row, is.found), inr ((is.origin, (c.in_ok-row.row, is.found, is.head)), inl (no_position s c.args.number c.args.position c.in_ok-row.row is.found out.1, refl)))), refl);
  refused = λ i. let p = err_from_is_err_and c.from_residual-in_err-position.result c.from_residual-in_err-position.ensures.1 in rw p.1 refl;
  sound = λ i. i;
}

pub returns-in_err-route : goal.returns-in_err-route
returns-in_err-route g c = record { step = λ i. absurd (never i); sound = λ i. absurd (never i); refused = λ i. absurd (never i) }
  where
    never : Intact g.A.BlockAllocator.sound g.A.BlockAllocator.meaning c.args.self.now → ⊥
    never i =
        let s : State = state_of g.A.BlockAllocator.meaning c.args.self.now in
        let is : IsWritable s c.args.number c.in_ok-row.row = c.in_ok-row.ensures.cases i.1.shape.ordered in
        let high = (i.1.shape.heights c.args.number c.in_ok-row.row is.found).1 in
        nothing_lost s c.args.number c.in_ok-row.row i.1 is.found (c.in_err-route.ensures.surveyed.1 high (c.in_ok-position.ensures.cases high))

pub returns-then-ends_in_hole : goal.returns-then-ends_in_hole
returns-then-ends_in_hole g c = record {
  step = λ i.
      let s : State = state_of g.A.BlockAllocator.meaning c.args.self.now in
      let is : IsWritable s c.args.number c.in_ok-row.row = c.in_ok-row.ensures.cases i.1.shape.ordered in
      let position = c.in_ok-position.ensures.cases (i.1.shape.heights c.args.number c.in_ok-row.row is.found).1 in
      let hole : Hole s c.in_ok-row.row c.args.position =
      sym (c.in_ok-route.ensures.surveyed.2.pointers c.in_ok-row.row.height (le_refl c.in_ok-row.row.height))
      ∙ nothing (get_or c.in_ok-route.route.old c.in_ok-row.row.height None) (ends c.in_ok-route.route c.in_ok-row.row.height c.args.position _ true c.ends_in_hole.ensures.value c.if-ends_in_hole.true c.in_ok-route.ensures.surveyed.1) in
      subst (λ (x : Changed). Step s (Discard c.args.number c.args.position) (Ok (Done x)) s) (sym (no_change c.default.ensures.0 c.default.ensures.1))
      (hole_step s c.args.number c.args.position c.in_ok-row.row is position i.1.shape.dead_fit hole);
  sound = λ i. i;
  refused = λ i. tt;
}

pub returns : goal.returns
returns g c = record {
  step = step;
  refused = λ i. c.replace_path.ensures.refused i (way i);
  sound = λ i. (
    c.replace_path.ensures.sound i.0,
    steps_keep_sound (state_of g.A.BlockAllocator.meaning c.args.self.now) (Discard c.args.number c.args.position) (done c.replace_path.result) (state_of g.A.BlockAllocator.meaning c.replace_path.new.self) i.1 (step i),
  );
}
  where
    way : Intact g.A.BlockAllocator.sound g.A.BlockAllocator.meaning c.args.self.now → Routed (state_of g.A.BlockAllocator.meaning c.args.self.now) c.in_ok-row.row c.in_ok-route.route.path.position c.in_ok-route.route c.in_ok-route.route.kept []
    way i =
        let s : State = state_of g.A.BlockAllocator.meaning c.args.self.now in
        let t : State = state_of g.A.BlockAllocator.meaning c.replace_path.new.self in
        let is : IsWritable s c.args.number c.in_ok-row.row = c.in_ok-row.ensures.cases i.1.shape.ordered in
        let position = c.in_ok-position.ensures.cases (i.1.shape.heights c.args.number c.in_ok-row.row is.found).1 in
        let path = c.in_ok-route.ensures.surveyed.1 in
        let seen = c.in_ok-route.ensures.surveyed.2 in
        routed s c.args.number c.in_ok-row.row c.args.position c.in_ok-route.route c.in_ok-route.route.kept [] is.found position path seen (omega (arith, seen.stay.within)) (omega arith)

    step : Intact g.A.BlockAllocator.sound g.A.BlockAllocator.meaning c.args.self.now
        → Step (state_of g.A.BlockAllocator.meaning c.args.self.now) (Discard c.args.number c.args.position) (done c.replace_path.result) (state_of g.A.BlockAllocator.meaning c.replace_path.new.self)
    step i =
        let s : State = state_of g.A.BlockAllocator.meaning c.args.self.now in
        let t : State = state_of g.A.BlockAllocator.meaning c.replace_path.new.self in
        let is : IsWritable s c.args.number c.in_ok-row.row = c.in_ok-row.ensures.cases i.1.shape.ordered in
        let position = c.in_ok-position.ensures.cases (i.1.shape.heights c.args.number c.in_ok-row.row is.found).1 in
        let path = c.in_ok-route.ensures.surveyed.1 in
        let seen = c.in_ok-route.ensures.surveyed.2 in
        let full : Hole s c.in_ok-row.row c.args.position → ⊥ =
        λ hole. something (get_or c.in_ok-route.route.old c.in_ok-row.row.height None) (ends c.in_ok-route.route c.in_ok-row.row.height c.args.position _ false c.ends_in_hole.ensures.value c.if-ends_in_hole.false path) (seen.pointers c.in_ok-row.row.height (le_refl c.in_ok-row.row.height) ∙ hole) in
        discard_step s t c.args.number c.args.position c.in_ok-route.route.kept c.in_ok-row.row c.replace_path.result is position full seen.stay
        (of_position s t c.in_ok-row.row c.args.position c.in_ok-route.route.kept c.in_ok-route.route [] c.replace_path.result path (c.replace_path.ensures.replaces i (way i)))
