use Rattle.std.proofs.Common.{◌≤◌, refl, arith}
use Rattle.std.proofs.lemmas.Result.{MatchResult-at_ok, MatchResult-at_err}
use Rattle.model.specs.Datasets.{State}
use Rattle.pool.specs.Pools.{state_of}
use Rattle.pool.proofs.Planting.{planted}
use Rattle.pool.proofs.Pool.plant.Goals as goal

pub returns-in_err-path : goal.returns-in_err-path
returns-in_err-path g c = record {
  planted = λ i way free.
      let five : c.args.count ≤ 5 = omega (arith, way.deep, (i.1.shape.heights c.args.row.number c.args.row way.found).1) in
      absurd (omega (arith, (c.in_err-path.ensures.took i.0).1 five, free));
  sound = c.take_path.ensures.sound;
  rows = refl;
  dead = refl;
  group = refl;
}

pub returns-in_err-root : goal.returns-in_err-root
returns-in_err-root g c = record {
  planted = λ i way free.
      let s : State = state_of g.A.BlockAllocator.meaning c.args.self.now in
      let done =
      planted s c.args.row c.args.route.now.path.position c.args.route.now (g.A.BlockAllocator.meaning c.args.self.now.allocator) (g.A.BlockAllocator.meaning c.take_path.new.allocator) c.in_ok-path.path c.args.count c.args.text.now c.rewrite.new.memory c.rewrite.result i.1 way refl refl
      (c.in_ok-path.ensures.took i.0) c.in_ok-path.ensures.few c.rewrite.ensures.rewritten in
      absurd (MatchResult-at_err _ _ _ c.in_err-root.was done);
  sound = c.take_path.ensures.sound;
  rows = refl;
  dead = refl;
  group = refl;
}

pub returns : goal.returns
returns g c = record {
  planted = λ i way free.
      let s : State = state_of g.A.BlockAllocator.meaning c.args.self.now in
      let done =
      planted s c.args.row c.args.route.now.path.position c.args.route.now (g.A.BlockAllocator.meaning c.args.self.now.allocator) (g.A.BlockAllocator.meaning c.take_path.new.allocator) c.in_ok-path.path c.args.count c.args.text.now c.rewrite.new.memory c.rewrite.result i.1 way refl refl
      (c.in_ok-path.ensures.took i.0) c.in_ok-path.ensures.few c.rewrite.ensures.rewritten in
      MatchResult-at_ok _ _ _ c.in_ok-root.was done;
  sound = c.take_path.ensures.sound;
  rows = refl;
  dead = refl;
  group = refl;
}
