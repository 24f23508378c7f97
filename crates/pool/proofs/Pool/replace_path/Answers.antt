use Rattle.std.proofs.Common.{◌≡◌, ℕ, ◌+◌, ◌^◌, ◌<◌, true, ltb, List, length, is_some, sym, refl, ap, ◌∙◌, subst, inr, arith, MutBor}
use Rattle.std.proofs.lemmas.Result.{err_from_is_err_and, MatchResult-at_ok, MatchResult-at_err}
use Rattle.ordered.specs.Lent.{records, room}
use Rattle.ordered.specs.declared.tables.Table.{Table}
use Rattle.records.specs.declared.dead.DeadRecord.{DeadRecord}
use Rattle.records.specs.declared.rows.Row.{Row}
use Rattle.model.specs.Datasets.{State, base}
use Rattle.model.specs.Paths.{sinking}
use Rattle.model.specs.Steps.{Replaced, changed}
use Rattle.tree.specs.Paths.{filled}
use Rattle.records.specs.Keys.{number_of}
use Rattle.ordered.specs.Tables.{replaced}
use Rattle.reclaim.specs.Leaving.{DeadOrdered}
use Rattle.pool.specs.Paths.{Planted, Fits, Routed}
use Rattle.pool.specs.Pools.{Intact, RowsOrdered, in_rows, state_of}
use Rattle.pool.proofs.Exchange.{after, base_is, departs, exchange, few_born, same_state, sinks_is}
use Rattle.pool.proofs.Pool.replace_path.Goals as goal

pub returns-in_err-dead_fits : goal.returns-in_err-dead_fits
returns-in_err-dead_fits g c = record {
  replaces = λ i way.
      let s : State = state_of g.A.BlockAllocator.meaning c.args.self.now in
      let since : c.stamp-stamp.result ≡ base s c.args.row = base_is s c.args.row c.stamp-stamp.result (c.stamp-stamp.ensures.value i.1.shape.ordered) in
      let sinks : c.sinking_count.result ≡ length (sinking s c.args.row c.args.route.now.path.position) =
      sinks_is s c.args.row c.args.route.now.path.position c.args.count c.args.route.now c.args.text.now c.sinking_count.result c.stamp-stamp.result i.1 way since c.sinking_count.ensures.value in
      let none = c.in_err-dead_fits.ensures.cases in
      let p = err_from_is_err_and c.from_residual-in_err-dead_fits.result c.from_residual-in_err-dead_fits.ensures.1 in
      rw (p.1, p.2, none.0) (inr (c.in_ok-free_blocks.ensures.cases i.0, λ fits. none.1 (omega (arith, fits, sinks)), refl), refl);
  refused = λ i way. let p = err_from_is_err_and c.from_residual-in_err-dead_fits.result c.from_residual-in_err-dead_fits.ensures.1 in rw p.1 refl;
  sound = λ ok. ok;
}

pub returns-in_err-given : goal.returns-in_err-given
returns-in_err-given g c = record { replaces = λ i way. absurd (never i way); refused = λ i way. absurd (never i way); sound = λ ok. c.leave_path.ensures.sound (c.plant.ensures.sound ok) }
  where
    never : Intact g.A.BlockAllocator.sound g.A.BlockAllocator.meaning c.args.self.now
        → Routed (state_of g.A.BlockAllocator.meaning c.args.self.now) c.args.row c.args.route.now.path.position c.args.route.now c.args.count c.args.text.now → ⊥
    never i way =
        let s : State = state_of g.A.BlockAllocator.meaning c.args.self.now in
        let since : c.stamp-stamp.result ≡ base s c.args.row = base_is s c.args.row c.stamp-stamp.result (c.stamp-stamp.ensures.value i.1.shape.ordered) in
        let sinks : c.sinking_count.result ≡ length (sinking s c.args.row c.args.route.now.path.position) =
        sinks_is s c.args.row c.args.route.now.path.position c.args.count c.args.route.now c.args.text.now c.sinking_count.result c.stamp-stamp.result i.1 way since c.sinking_count.ensures.value in
        let free = c.in_ok-free_blocks.ensures.cases i.0 in
        let fits : Fits s c.args.row c.args.route.now.path.position = omega (arith, c.in_ok-dead_fits.ensures.cases, sinks) in
        let new : Planted s (g.A.BlockAllocator.meaning c.args.self.now.allocator) (g.A.BlockAllocator.meaning c.plant.new.self.allocator) c.plant.new.self.memory.now c.args.row c.args.route.now.path.position c.args.count c.args.text.now c.in_ok-root.root =
        c.in_ok-root.ensures.planted i way free in
        let ordered : DeadOrdered c.plant.new.self.dead = subst (λ (x : Table DeadRecord). DeadOrdered x) (sym c.plant.ensures.dead) i.1.shape.dead_ordered in
        let left =
        departs s c.args.row c.args.route.now.path.position c.args.count c.args.route.now c.args.text.now (g.A.BlockAllocator.meaning c.args.self.now.allocator) (g.A.BlockAllocator.meaning c.plant.new.self.allocator) (g.A.BlockAllocator.meaning c.leave_path.new.allocator) c.plant.new.self.memory.now c.in_ok-root.root c.plant.new.self.dead
        (records c.leave_path.new.dead) c.stamp-stamp.result c.leave_path.result i.1 refl way new fits since (ap records c.plant.ensures.dead) (ap room c.plant.ensures.dead)
        (c.leave_path.ensures.left (c.plant.ensures.sound i.0) ordered) in
        MatchResult-at_err _ _ _ c.in_err-given.was left

pub returns-in_err-put_row : goal.returns-in_err-put_row
returns-in_err-put_row g c = record { replaces = λ i way. absurd (never i way); refused = λ i way. absurd (never i way); sound = λ ok. subst g.A.BlockAllocator.sound (sym c.in_err-put_row.ensures.allocator) (c.leave_path.ensures.sound (c.plant.ensures.sound ok)) }
  where
    never : Intact g.A.BlockAllocator.sound g.A.BlockAllocator.meaning c.args.self.now
        → Routed (state_of g.A.BlockAllocator.meaning c.args.self.now) c.args.row c.args.route.now.path.position c.args.route.now c.args.count c.args.text.now → ⊥
    never i way =
        let s : State = state_of g.A.BlockAllocator.meaning c.args.self.now in
        let since : c.stamp-stamp.result ≡ base s c.args.row = base_is s c.args.row c.stamp-stamp.result (c.stamp-stamp.ensures.value i.1.shape.ordered) in
        let sinks : c.sinking_count.result ≡ length (sinking s c.args.row c.args.route.now.path.position) =
        sinks_is s c.args.row c.args.route.now.path.position c.args.count c.args.route.now c.args.text.now c.sinking_count.result c.stamp-stamp.result i.1 way since c.sinking_count.ensures.value in
        let free = c.in_ok-free_blocks.ensures.cases i.0 in
        let fits : Fits s c.args.row c.args.route.now.path.position = omega (arith, c.in_ok-dead_fits.ensures.cases, sinks) in
        let new : Planted s (g.A.BlockAllocator.meaning c.args.self.now.allocator) (g.A.BlockAllocator.meaning c.plant.new.self.allocator) c.plant.new.self.memory.now c.args.row c.args.route.now.path.position c.args.count c.args.text.now c.in_ok-root.root =
        c.in_ok-root.ensures.planted i way free in
        let ordered : DeadOrdered c.plant.new.self.dead = subst (λ (x : Table DeadRecord). DeadOrdered x) (sym c.plant.ensures.dead) i.1.shape.dead_ordered in
        let left =
        departs s c.args.row c.args.route.now.path.position c.args.count c.args.route.now c.args.text.now (g.A.BlockAllocator.meaning c.args.self.now.allocator) (g.A.BlockAllocator.meaning c.plant.new.self.allocator) (g.A.BlockAllocator.meaning c.leave_path.new.allocator) c.plant.new.self.memory.now c.in_ok-root.root c.plant.new.self.dead
        (records c.leave_path.new.dead) c.stamp-stamp.result c.leave_path.result i.1 refl way new fits since (ap records c.plant.ensures.dead) (ap room c.plant.ensures.dead)
        (c.leave_path.ensures.left (c.plant.ensures.sound i.0) ordered) in
        let given = MatchResult-at_ok _ _ _ c.in_ok-given.was left in
        let few : c.args.row.born + c.args.count < 2 ^ 32 =
        omega (arith, few_born s c.args.row.number c.args.row i.1 way.found, i.1.shape.size.1, way.deep, (i.1.shape.heights c.args.row.number c.args.row way.found).1) in
        let row = c.rerooted.ensures.value few in
        let there : is_some (in_rows c.plant.new.self.rows c.rerooted.result.number) ≡ true =
        ap (λ (x : Table Row). is_some (in_rows x c.rerooted.result.number)) c.plant.ensures.rows ∙ (ap (λ (x : Row). is_some (in_rows c.args.self.now.rows x.number)) row ∙ ap is_some way.found) in
        let up : RowsOrdered c.plant.new.self.rows = subst (λ (x : Table Row). RowsOrdered x) (sym c.plant.ensures.rows) i.1.shape.ordered in
        let placed = (c.in_err-put_row.ensures.rows up there).0 in
        let z : ◌≡◌ {A = ℕ} 0 1 = cc in
        omega arith

pub returns : goal.returns
returns g c = record {
  replaces = λ i way.
      let s : State = state_of g.A.BlockAllocator.meaning c.args.self.now in
      let since : c.stamp-stamp.result ≡ base s c.args.row = base_is s c.args.row c.stamp-stamp.result (c.stamp-stamp.ensures.value i.1.shape.ordered) in
      let sinks : c.sinking_count.result ≡ length (sinking s c.args.row c.args.route.now.path.position) =
      sinks_is s c.args.row c.args.route.now.path.position c.args.count c.args.route.now c.args.text.now c.sinking_count.result c.stamp-stamp.result i.1 way since c.sinking_count.ensures.value in
      let free = c.in_ok-free_blocks.ensures.cases i.0 in
      let fits : Fits s c.args.row c.args.route.now.path.position = omega (arith, c.in_ok-dead_fits.ensures.cases, sinks) in
      let new : Planted s (g.A.BlockAllocator.meaning c.args.self.now.allocator) (g.A.BlockAllocator.meaning c.plant.new.self.allocator) c.plant.new.self.memory.now c.args.row c.args.route.now.path.position c.args.count c.args.text.now c.in_ok-root.root =
      c.in_ok-root.ensures.planted i way free in
      let ordered : DeadOrdered c.plant.new.self.dead = subst (λ (x : Table DeadRecord). DeadOrdered x) (sym c.plant.ensures.dead) i.1.shape.dead_ordered in
      let left =
      departs s c.args.row c.args.route.now.path.position c.args.count c.args.route.now c.args.text.now (g.A.BlockAllocator.meaning c.args.self.now.allocator) (g.A.BlockAllocator.meaning c.plant.new.self.allocator) (g.A.BlockAllocator.meaning c.leave_path.new.allocator) c.plant.new.self.memory.now c.in_ok-root.root c.plant.new.self.dead
      (records c.leave_path.new.dead) c.stamp-stamp.result c.leave_path.result i.1 refl way new fits since (ap records c.plant.ensures.dead) (ap room c.plant.ensures.dead)
      (c.leave_path.ensures.left (c.plant.ensures.sound i.0) ordered) in
      let given = MatchResult-at_ok _ _ _ c.in_ok-given.was left in
      let few : c.args.row.born + c.args.count < 2 ^ 32 =
      omega (arith, few_born s c.args.row.number c.args.row i.1 way.found, i.1.shape.size.1, way.deep, (i.1.shape.heights c.args.row.number c.args.row way.found).1) in
      let row = c.rerooted.ensures.value few in
      let there : is_some (in_rows c.plant.new.self.rows c.rerooted.result.number) ≡ true =
      ap (λ (x : Table Row). is_some (in_rows x c.rerooted.result.number)) c.plant.ensures.rows ∙ (ap (λ (x : Row). is_some (in_rows c.args.self.now.rows x.number)) row ∙ ap is_some way.found) in
      let up : RowsOrdered c.plant.new.self.rows = subst (λ (x : Table Row). RowsOrdered x) (sym c.plant.ensures.rows) i.1.shape.ordered in
      let end = c.in_ok-put_row.ensures in
      let whole =
      exchange s c.args.row c.args.route.now.path.position c.args.count c.args.route.now c.args.text.now (g.A.BlockAllocator.meaning c.args.self.now.allocator) (g.A.BlockAllocator.meaning c.plant.new.self.allocator) (g.A.BlockAllocator.meaning c.leave_path.new.allocator) c.plant.new.self.memory.now c.in_ok-root.root (records c.leave_path.new.dead) c.in_ok-given.given i.1 refl refl way new given in
      let t : State = after s c.args.row c.plant.new.self.memory.now c.in_ok-root.root (records c.leave_path.new.dead) (g.A.BlockAllocator.meaning c.leave_path.new.allocator) c.args.count c.in_ok-given.given in
      let is : state_of g.A.BlockAllocator.meaning c.put_row.new.self ≡ t =
      same_state t (state_of g.A.BlockAllocator.meaning c.put_row.new.self) (ap (λ (x : MutBor (List ℕ)). x.now) end.memory)
      ((end.rows up there).1 ∙ (ap (λ (x : Table Row). replaced number_of ltb (records x) c.rerooted.result) c.plant.ensures.rows ∙ ap (replaced number_of ltb s.rows) row))
      (end.room ∙ ap room c.plant.ensures.rows) (ap records end.dead) (ap room end.dead ∙ (c.leave_path.ensures.room ∙ ap room c.plant.ensures.dead)) (end.group ∙ c.plant.ensures.group)
      (ap (λ x. (g.A.BlockAllocator.meaning x).size) end.allocator) (ap (λ x. (g.A.BlockAllocator.meaning x).owns) end.allocator) in
      (free, fits, subst (λ (x : State). record { taken = c.args.count; given = c.in_ok-given.given } ≡ changed s x) (sym is) whole.0, subst (λ (x : State). Replaced s x c.args.row.number c.args.row c.args.route.now.path.position c.args.count (filled c.args.text.now)) (sym is) whole.1);
  refused = λ i way. tt;
  sound = λ ok. subst g.A.BlockAllocator.sound (sym c.in_ok-put_row.ensures.allocator) (c.leave_path.ensures.sound (c.plant.ensures.sound ok));
}
