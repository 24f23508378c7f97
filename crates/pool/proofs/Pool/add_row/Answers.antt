use Rattle.std.proofs.Common.{refl, ap, ◌∙◌}
use Rattle.ordered.specs.Lent.{records, room}
use Rattle.pool.specs.Pools.{state_of}
use Rattle.pool.proofs.Places.{is_placed, with_rows}
use Rattle.pool.proofs.Pool.add_row.Goals as goal

pub returns : goal.returns
returns g c = record {
  adds = λ up free.
      let placed = c.insert.ensures.value up ∙ is_placed _ _ c.args.row free.0 free.1 in (
        rw placed at c.map_err.ensures.cases,
        ap (λ n. with_rows (state_of g.A.BlockAllocator.meaning c.args.self.now) (records c.insert.new.self) n) c.insert.ensures.room
            ∙ ap (λ rows. with_rows (state_of g.A.BlockAllocator.meaning c.args.self.now) rows (room c.args.self.now.rows)) (rw placed at c.insert.ensures.items up),
      );
  allocator = refl;
}
