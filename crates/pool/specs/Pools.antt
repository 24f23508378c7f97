-- A pool in lent memory, by the state that it holds.
--     in_rows t n             the row with number n in a row table, or nothing
--     RowsOrdered t           the rows stand in the order of their numbers
--     HasPlace t r            the row r can join a row table
--     HasOrigin t m n         the row with number m is of a head with the origin n
--     state_of meaning p      the state that the pool p holds, where `meaning` is what its allocator means
--     Intact sound meaning p  the pool p and its allocator are sound
--     done r, bytes_read r, counted r, part_told r    what a change, a read, a figure and a bucket answer, as answers of a call
use Rattle.std.specs.Prelude.{◌≡◌, ℕ, ◌<◌, List, length, Some, None, Ok, Err, Option, Result, nat_lt}
use Rattle.std.specs.Borrow.{Bor}
use Rattle.std.specs.Option.{option_map}
use Rattle.faults.specs.declared.Layer.{Layer}
use Rattle.blocks.specs.Meanings.{Meaning}
use Rattle.ordered.specs.Lent.{Ordered, records, room}
use Rattle.ordered.specs.Tables.{record_of}
use Rattle.ordered.specs.declared.tables.Table.{Table}
use Rattle.records.specs.Keys.{number_of}
use Rattle.records.specs.declared.dead.DeadRecord.{DeadRecord}
use Rattle.records.specs.declared.rows.Kind.TheVariants.{Head}
use Rattle.records.specs.declared.rows.Row.{Row}
use Rattle.model.specs.Datasets.{State}
use Rattle.model.specs.Soundness.{Sound}
use Rattle.model.specs.declared.Answer.{Answer}
use Rattle.model.specs.declared.Answer.TheVariants.{Done, Bytes, Count, Part}
use Rattle.model.specs.declared.Changed.{Changed}
use Rattle.pool.specs.declared.Pool.{Pool}

-- the row with number n, or nothing
abbrev pub in_rows : Table Row → ℕ → Option Row
in_rows t n = record_of number_of nat_lt (records t) n

-- the rows stand in the order of their numbers
abbrev pub RowsOrdered : Table Row → Type 0
RowsOrdered t = Ordered number_of nat_lt t

-- no row has the number of r, and there is a free place
abbrev pub HasPlace : Table Row → Row → Type 0
HasPlace t r = (in_rows t r.number ≡ None) × (length (records t) < room t)

-- the row with number m is of a head, and its origin is n
abbrev pub HasOrigin : Table Row → ℕ → ℕ → Type 0
HasOrigin t m n = (r : Row) × (in_rows t m ≡ Some r) × (r.kind ≡ Head (Some n))

-- the state that a pool holds
abbrev pub state_of : {X : Type 0} → (X → Meaning) → Pool X → State
state_of meaning p =
    record {
      memory = p.memory.now;
      rows = records p.rows;
      row_room = room p.rows;
      dead = records p.dead;
      dead_room = room p.dead;
      group = p.group;
      size = (meaning p.allocator).size;
      owns = (meaning p.allocator).owns;
    }

-- the pool and its allocator are sound
abbrev pub Intact : {X : Type 0} → (X → Type 0) → (X → Meaning) → Pool X → Type 0
Intact sound meaning p = sound p.allocator × Sound (state_of meaning p)

-- what a change answers
abbrev pub done : Result Changed Layer → Result Answer Layer
done (Ok c) = Ok (Done c)
done (Err l) = Err l

-- what a read answers
abbrev pub bytes_read : Result (Option (Bor (List ℕ))) Layer → Result Answer Layer
bytes_read (Ok b) = Ok (Bytes (option_map (λ (x : Bor (List ℕ)). x.now) b))
bytes_read (Err l) = Err l

-- what a figure answers
abbrev pub counted : Result ℕ Layer → Result Answer Layer
counted (Ok k) = Ok (Count k)
counted (Err l) = Err l

-- what a bucket answers: the place of a part of the dead table, and how many records it has
abbrev pub part_told : Result (Bor (List DeadRecord) × ℕ) Layer → Result Answer Layer
part_told (Ok p) = Ok (Part p.1 (length p.0.now))
part_told (Err l) = Err l
