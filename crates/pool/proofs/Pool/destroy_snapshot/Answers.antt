use Rattle.std.proofs.Common.{◌≡◌, ℕ, ltb, ◌+◌, ◌-◌, List, sym, refl, ap, ◌∙◌, subst, arith, MutBor}
use Rattle.ordered.specs.Lent.{records, room}
use Rattle.ordered.specs.Tables.{replaced, without_key}
use Rattle.records.specs.Keys.{number_of}
use Rattle.records.specs.declared.rows.Row.{Row}
use Rattle.model.specs.Datasets.{State, base}
use Rattle.model.specs.Steps.{Released, with_previous}
use Rattle.reclaim.specs.Giving.{ListReady}
use Rattle.pool.specs.Pools.{state_of}
use Rattle.pool.proofs.Lists.{ready}
use Rattle.pool.proofs.Releasing.{released, released_number}
use Rattle.pool.proofs.Removing.{Follower, destroyed, few_follow, given_back, given_part, kept_part, lists_after, still_there}
use Rattle.pool.proofs.Pool.destroy_snapshot.Goals as goal

pub returns-in_err-next-clause-destroyed : goal.returns-in_err-next-clause-destroyed
returns-in_err-next-clause-destroyed g c h i here kind =
    let (m, x, found, previous, owner) = i.1.family.next c.args.row.number h c.args.row here kind in
    absurd ((c.in_err-next.ensures.cases i.1.shape.ordered).1 m x found previous owner)

pub returns-in_err-given-clause-destroyed : goal.returns-in_err-given-clause-destroyed
returns-in_err-given-clause-destroyed g c h i here kind =
    let s : State = state_of g.A.BlockAllocator.meaning c.args.self.now in
    let m = g.A.BlockAllocator.meaning c.args.self.now.allocator in
    let (found, previous, owner) = c.in_ok-next.ensures.cases i.1.shape.ordered in
    let f : Follower s c.args.row c.in_ok-next.next = record { sound = i.1; here = here; found = found; previous = previous; owner = owner } in
    let part = c.part.ensures.first i.1.shape.dead_ordered ∙ given_part f _ _ _ (c.stamp-stamp.ensures.value i.1.shape.ordered) c.young_ends.ensures.first c.young_ends.ensures.second in
    let granted = c.in_err-given.ensures.granted i.0 (subst (ListReady m) (sym part) (ready s c.in_ok-next.next.number (base s c.args.row) i.1 m refl)) in
    let z : ◌≡◌ {A = ℕ} 0 1 = cc in
    absurd (omega arith)

pub returns-in_err-put_row-clause-destroyed : goal.returns-in_err-put_row-clause-destroyed
returns-in_err-put_row-clause-destroyed g c h i here kind =
    let s : State = state_of g.A.BlockAllocator.meaning c.args.self.now in
    let (found, previous, owner) = c.in_ok-next.ensures.cases i.1.shape.ordered in
    let f : Follower s c.args.row c.in_ok-next.next = record { sound = i.1; here = here; found = found; previous = previous; owner = owner } in
    let there = still_there f _ _ _ (c.remove.ensures.items i.1.shape.ordered) (c.follows.ensures.value (few_follow f)) in
    let placed = (c.in_err-put_row.ensures.rows (c.remove.ensures.ordered i.1.shape.ordered) there).0 in
    let z : ◌≡◌ {A = ℕ} 0 1 = cc in
    absurd (omega arith)

pub returns-clause-destroyed : goal.returns-clause-destroyed
returns-clause-destroyed g c h i here kind =
    let s : State = state_of g.A.BlockAllocator.meaning c.args.self.now in
    let t : State = state_of g.A.BlockAllocator.meaning c.put_row.new.self in
    let m = g.A.BlockAllocator.meaning c.args.self.now.allocator in
    let w = g.A.BlockAllocator.meaning c.give_list.new.allocator in
    let r = c.args.row in
    let x = c.in_ok-next.next in
    let (found, previous, owner) = c.in_ok-next.ensures.cases i.1.shape.ordered in
    let f : Follower s r x = record { sound = i.1; here = here; found = found; previous = previous; owner = owner } in
    let since = c.stamp-stamp.ensures.value i.1.shape.ordered in
    let end = c.in_ok-put_row.ensures in
    let part = c.part.ensures.first i.1.shape.dead_ordered ∙ given_part f _ _ _ since c.young_ends.ensures.first c.young_ends.ensures.second in
    let back = given_back f m w _ part (c.in_ok-given.ensures.given i.0).1 in
    let owns : w.owns ≡ t.owns = ap (λ a. (g.A.BlockAllocator.meaning a).owns) (sym end.allocator) in
    let number = released_number m w (Released s x.number r) back s t refl owns c.in_ok-given.given refl (c.in_ok-given.ensures.counted i.0) in
    let kept = c.remove_part.ensures.items i.1.shape.dead_ordered ∙ kept_part f _ _ _ since c.young_ends.ensures.first c.young_ends.ensures.second in
    let dead = lists_after f t _ _ kept (c.remove_part.ensures.ordered i.1.shape.dead_ordered) c.join_list.ensures.ordered c.join_list.ensures.stands (ap records end.dead) in
    let without = c.remove.ensures.items i.1.shape.ordered in
    let follows = c.follows.ensures.value (few_follow f) in
    let placed = (end.rows (c.remove.ensures.ordered i.1.shape.ordered) (still_there f _ _ _ without follows)).1 in
    let rows =
    placed ∙ ap (λ (xs : List Row). replaced number_of ltb xs c.follows.result) without
    ∙ ap (replaced number_of ltb (without_key number_of ltb s.rows r.number)) (follows ∙ ap (λ (k : ℕ). with_previous x r.previous (x.born + r.born - k)) number) in (
      destroyed f t (released m w (Released s x.number r) back s t refl owns) dead rows (ap (λ (b : MutBor (List ℕ)). b.now) end.memory)
          (end.room ∙ c.remove.ensures.room) (ap room end.dead ∙ (c.join_list.ensures.room ∙ c.remove_part.ensures.room)) end.group
          (ap (λ a. (g.A.BlockAllocator.meaning a).size) end.allocator ∙ back.size),
      number,
    )
