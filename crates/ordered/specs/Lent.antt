-- A table, by its records and by the places that it was lent. Assumes nothing.
--     records t, room t      its records, in their order; how many places it was lent
--     Ordered key below t    its records are ascending
--     Unchanged t u          u holds what t holds, also in the places that no record uses
--     KeptPast t u           the places past the records of u hold what they held in t
use Rattle.std.specs.Prelude.{◌≡◌, ℕ, Bool, List, length, take, drop}
use Rattle.ordered.specs.Order.{Holds}
use Rattle.ordered.specs.Tables.{Ascending}
use Rattle.ordered.specs.declared.tables.Table.{Table}

-- what the first `count` places hold, or all of them where there are fewer
abbrev pub records : {R : Type 0} → Table R → List R
records t = take t.count t.places.now

-- how many places there are
abbrev pub room : {R : Type 0} → Table R → ℕ
room t = length t.places.now

-- the table is in order
abbrev pub Ordered : {R K : Type 0} → (R → K) → (K → K → Bool) → Table R → Type 0
Ordered key below t = Ascending key (Holds below) (records t)

-- the same places and the same count
abbrev pub Unchanged : {R : Type 0} → Table R → Table R → Type 0
Unchanged t u = (u.places.now ≡ t.places.now) × (u.count ≡ t.count)

-- from the first place on that no record of u uses
abbrev pub KeptPast : {R : Type 0} → Table R → Table R → Type 0
KeptPast t u = drop (length (records u)) u.places.now ≡ drop (length (records u)) t.places.now
