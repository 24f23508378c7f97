use Rattle.std.proofs.Common.{◌≡◌, ℕ, ltb, refl}
use Rattle.blocks.specs.Meanings.{Meaning}
use Rattle.ordered.specs.Lent.{records}
use Rattle.ordered.specs.Tables.{without_key}
use Rattle.records.specs.Keys.{number_of}
use Rattle.model.specs.Datasets.{State, Young, base}
use Rattle.model.specs.Steps.{altered}
use Rattle.reclaim.specs.Giving.{GivenBack}
use Rattle.reclaim.specs.Leaving.{DeadOrdered}
use Rattle.reclaim.proofs.Readies.{tree_ready}
use Rattle.pool.specs.Pools.{state_of}
use Rattle.pool.proofs.Clearing.{cleared}
use Rattle.pool.proofs.Exchange.{base_is, same_state}
use Rattle.pool.proofs.Releasing.{released, released_number, young_given}
use Rattle.pool.proofs.Pool.destroy_head.Goals as goal

pub returns-in_err-given : goal.returns-in_err-given
returns-in_err-given g c = record {
  destroyed = λ o i found head.
      let s : State = state_of g.A.BlockAllocator.meaning c.args.self.now in
      absurd (c.in_err-given.ensures.given i.0 (tree_ready s c.args.row.number c.stamp-stamp.result c.args.row (g.A.BlockAllocator.meaning c.args.self.now.allocator) i.1 found (λ b held. held)));
  sound = c.give_tree.ensures.sound;
}

pub returns : goal.returns
returns g c = record {
  destroyed = λ o i found head.
      let s : State = state_of g.A.BlockAllocator.meaning c.args.self.now in
      let n : ℕ = c.args.row.number in
      let m : Meaning = g.A.BlockAllocator.meaning c.args.self.now.allocator in
      let w : Meaning = g.A.BlockAllocator.meaning c.give_tree.new.allocator in
      let t : State = altered s (without_key number_of ltb s.rows n) (records c.remove_list.new.dead) s.group w.owns in
      let since : c.stamp-stamp.result ≡ base s c.args.row = base_is s c.args.row c.stamp-stamp.result (c.stamp-stamp.ensures.value i.1.shape.ordered) in
      let ready = tree_ready s n c.stamp-stamp.result c.args.row m i.1 found (λ b held. held) in
      let gave : GivenBack m w (Young s n) = young_given s n c.stamp-stamp.result c.args.row m w found since (c.in_ok-given.ensures.given i.0 ready) in
      let up : DeadOrdered c.args.self.now.dead = i.1.shape.dead_ordered in (
        record {
          rest = same_state t _ refl (c.remove.ensures.items i.1.shape.ordered) c.remove.ensures.room refl c.remove_list.ensures.room refl gave.size refl;
          dead = cleared s _ n (c.remove_list.ensures.others up (i.1.shape.numbers n c.args.row found).1) (c.remove_list.ensures.ordered up);
          owned = released m w (Young s n) gave s t refl refl;
        },
        released_number m w (Young s n) gave s t refl refl c.in_ok-given.given refl (c.in_ok-given.ensures.counted i.0),
      );
  sound = c.give_tree.ensures.sound;
}
