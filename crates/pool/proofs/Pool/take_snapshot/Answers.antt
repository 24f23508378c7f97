use Rattle.std.proofs.Common.{◌≡◌, ℕ, ltb, List, refl, ap, ◌∙◌, ap₂, arith, MutBor}
use Rattle.ordered.specs.Lent.{records, room}
use Rattle.ordered.specs.Tables.{replaced, with_record}
use Rattle.records.specs.Keys.{number_of}
use Rattle.model.specs.Datasets.{State}
use Rattle.model.specs.Steps.{snapshot_row}
use Rattle.pool.specs.Pools.{state_of}
use Rattle.pool.proofs.Copies.{handed_over, head_there, snapshot_joins}
use Rattle.pool.proofs.Exchange.{same_state}
use Rattle.pool.proofs.Pool.take_snapshot.Goals as goal

pub returns-in_err-add_row-clause-snapped : goal.returns-in_err-add_row-clause-snapped
returns-in_err-add_row-clause-snapped g c i found asked =
    let s : State = state_of g.A.BlockAllocator.meaning c.args.self.now in
    let live = c.starts_from.ensures.value in
    let put = c.in_ok-put_row.ensures in
    let rows = (put.rows i.1.shape.ordered (head_there s c.args.row c.starts_from.result c.args.snapshot found live)).1 ∙ ap (replaced number_of ltb s.rows) live in
    let joins = snapshot_joins s c.put_row.new.self.rows c.args.snapshot c.put_row.new.self.group c.args.row c.snapshot_of.result i.1 found asked rows put.room c.snapshot_of.ensures.value in
    let placed = (c.in_err-add_row.ensures.adds joins.0 joins.1).0 in
    absurd (let z : ◌≡◌ {A = ℕ} 0 1 = cc in omega arith)

pub returns-clause-snapped : goal.returns-clause-snapped
returns-clause-snapped g c i found asked =
    let s : State = state_of g.A.BlockAllocator.meaning c.args.self.now in
    let live = c.starts_from.ensures.value in
    let put = c.in_ok-put_row.ensures in
    let rows = (put.rows i.1.shape.ordered (head_there s c.args.row c.starts_from.result c.args.snapshot found live)).1 ∙ ap (replaced number_of ltb s.rows) live in
    let joins = snapshot_joins s c.put_row.new.self.rows c.args.snapshot c.put_row.new.self.group c.args.row c.snapshot_of.result i.1 found asked rows put.room c.snapshot_of.ensures.value in
    let added = (c.in_ok-add_row.ensures.adds joins.0 joins.1).1 in
    let copy = c.snapshot_of.ensures.value ∙ ap (snapshot_row c.args.snapshot c.args.row) put.group in
    let dead = ap (λ (x : State). x.dead) added ∙ ap records put.dead in
    let group = ap (λ (x : State). x.group) added ∙ put.group in (
      refl,
      record {
        rest =
            same_state _ _ (ap (λ (x : State). x.memory) added ∙ ap (λ (x : MutBor (List ℕ)). x.now) put.memory)
            (ap (λ (x : State). x.rows) added ∙ ap₂ (with_record number_of ltb) rows copy)
            (ap (λ (x : State). x.row_room) added ∙ put.room)
            refl
            (c.join_list.ensures.room ∙ (ap (λ (x : State). x.dead_room) added ∙ ap room put.dead))
            (omega (arith, group, asked.1.1.1.1.1.1.0))
            (ap (λ (x : State). x.size) added ∙ ap (λ x. (g.A.BlockAllocator.meaning x).size) put.allocator)
            (ap (λ (x : State). x.owns) added ∙ ap (λ x. (g.A.BlockAllocator.meaning x).owns) put.allocator);
        dead = handed_over s _ c.args.row.number c.args.snapshot (records c.add_row.new.self.dead) i.1 asked.1.1.1.1.0 dead c.join_list.ensures.ordered c.join_list.ensures.stands;
      },
    )
