-- Rows that can join the row table.
use Rattle.std.proofs.Common.{◌≡◌, ℕ, ◌<◌, Bool, true, false, not, ◌&&◌, ltb, List, length, is_some, None, Ok, sym, refl, ap, ◌∙◌, subst}
use Rattle.std.proofs.lemmas.Bool.{cond-true, cond-false, lt-ltb}
use Rattle.ordered.specs.Lent.{records, room}
use Rattle.ordered.specs.Tables.{record_of, answer}
use Rattle.ordered.specs.declared.tables.Table.{Table}
use Rattle.ordered.proofs.Additions.{no_index_of}
use Rattle.records.specs.Keys.{number_of}
use Rattle.records.specs.declared.rows.Row.{Row}
use Rattle.model.specs.Datasets.{State, head_row}
use Rattle.blocks.specs.Sets.{count}
use Rattle.blocks.proofs.Counts.{count_empty}
use Rattle.model.specs.Steps.{changed}
use Rattle.model.specs.declared.Changed.{Changed}
use Rattle.pool.specs.Pools.{in_rows, HasPlace}

-- a row whose number is unused is placed where there is room
pub is_placed : (room : ℕ) (rows : List Row) (r : Row) → record_of number_of ltb rows r.number ≡ None → length rows < room → answer number_of ltb room rows r ≡ Ok tt
is_placed room rows r new free =
    cond-false _ _ _ (ap is_some (no_index_of number_of ltb rows r.number new)) ∙ cond-true _ _ _ (lt-ltb _ _ free)

-- a new head can join where its number is unused
pub joins : (t : Table Row) (n h : ℕ) (r : Row) → r ≡ head_row n h → in_rows t n ≡ None → length (records t) < room t → HasPlace t r
joins t n h r is new free = subst (HasPlace t) (sym is) (new, free)

-- the state with other rows, in so many places
abbrev pub with_rows : State → List Row → ℕ → State
with_rows s rows room =
    record { memory = s.memory; rows = rows; row_room = room; dead = s.dead; dead_room = s.dead_room; group = s.group; size = s.size; owns = s.owns }

-- no block is owned and not owned
never : (b : Bool) → (b && not b) ≡ false
never true = refl
never false = refl

-- where the same blocks are owned, none was taken and none given back
pub nothing_changed : (s t : State) → t.owns ≡ s.owns → record { taken = 0; given = 0 } ≡ changed s t
nothing_changed s t same =
    let none : count (λ b. s.owns b && not (s.owns b)) s.size ≡ 0 = count_empty (λ b. s.owns b && not (s.owns b)) s.size (λ b _. never (s.owns b)) in
    let counts : (ℕ → Bool) → Changed =
    λ owns. record { taken = count (λ b. owns b && not (s.owns b)) s.size; given = count (λ b. s.owns b && not (owns b)) s.size } in
    sym (ap counts same ∙ ap (λ (n : ℕ). record { taken = n; given = n }) none)

-- a change that takes and gives nothing
pub no_change : {taken given : ℕ} → taken ≡ 0 → given ≡ 0 → ◌≡◌ {A = Changed} (record { taken = taken; given = given }) (record { taken = 0; given = 0 })
no_change taken given = λ i. record { taken = taken i; given = given i }
