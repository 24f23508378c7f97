use Rattle.std.proofs.Common.{◌≡◌, ℕ, ◌*◌, Bool, List, [], length, sym, refl, ap, ◌∙◌, subst}
use Rattle.ordered.specs.Lent.{records, room}
use Rattle.tree.specs.Trees.{block_size}
use Rattle.records.specs.declared.dead.DeadRecord.{DeadRecord}
use Rattle.records.specs.declared.rows.Row.{Row}
use Rattle.model.specs.Datasets.{State, formatted}
use Rattle.model.specs.Limits.{PoolSize, RowRoom, DeadRoom}
use Rattle.model.specs.Questions.{AllYes, format_questions}
use Rattle.model.specs.Soundness.{Sound}
use Rattle.pool.specs.Pools.{state_of, Intact}
use Rattle.model.proofs.Starts.{formatted_sound}
use Rattle.pool.proofs.Pool.format.Goals as goal

pub returns : goal.returns
returns g c = record { cases = granted; keeps = refl }
  where
    memory : List ℕ
    memory = c.args.memory.now

    size : ℕ
    size = (g.A.BlockAllocator.meaning c.args.allocator).size

    owns : ℕ → Bool
    owns = (g.A.BlockAllocator.meaning c.args.allocator).owns

    -- the state of two tables
    over : List Row → ℕ → List DeadRecord → ℕ → State
    over rows room dead dead_room =
        record { memory = memory; rows = rows; row_room = room; dead = dead; dead_room = dead_room; group = 1; size = size; owns = owns }

    granted : g.A.BlockAllocator.sound c.args.allocator → AllYes (format_questions memory (length c.args.rows.now) (length c.args.dead.now) size owns)
        × (state_of g.A.BlockAllocator.meaning (record { memory = c.args.memory; rows = c.new.result; dead = c.new-2.result; group = 1; allocator = c.args.allocator })
        ≡ formatted memory (length c.args.rows.now) (length c.args.dead.now) size owns)
        × Intact g.A.BlockAllocator.sound g.A.BlockAllocator.meaning (record { memory = c.args.memory; rows = c.new.result; dead = c.new-2.result; group = 1; allocator = c.args.allocator })
    granted ok =
        let shape : PoolSize size × (length memory ≡ block_size * size) × RowRoom (length c.args.rows.now) × DeadRoom (length c.args.dead.now) =
        subst (λ (n : ℕ). PoolSize n × (length memory ≡ block_size * n) × RowRoom (length c.args.rows.now) × DeadRoom (length c.args.dead.now))
        (c.size.ensures.value ok) c.in_ok-shape.ensures.cases in
        let asked : AllYes (format_questions memory (length c.args.rows.now) (length c.args.dead.now) size owns) =
        (shape, (c.in_ok-owns_nothing.ensures.cases ok, tt)) in
        let is : over (records c.new.result) (room c.new.result) (records c.new-2.result) (room c.new-2.result)
        ≡ formatted memory (length c.args.rows.now) (length c.args.dead.now) size owns =
        ap (λ rows. over rows (room c.new.result) (records c.new-2.result) (room c.new-2.result)) c.new.ensures.empty
        ∙ (ap (λ (places : List Row). over [] (length places) (records c.new-2.result) (room c.new-2.result)) c.new.ensures.same
        ∙ (ap (λ dead. over [] (length c.args.rows.now) dead (room c.new-2.result)) c.new-2.ensures.empty
        ∙ ap (λ (places : List DeadRecord). over [] (length c.args.rows.now) [] (length places)) c.new-2.ensures.same)) in
        (asked, is, (ok, subst Sound (sym is) (formatted_sound memory _ _ size owns asked)))
