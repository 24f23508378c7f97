-- From the rows and the dead list that a snapshot or a clone leaves to its step.
--     has_place                       a row that can join
--     clone_asked, clone_step         a clone
--     handed_over                     the dead list of the snapshot
--     head_there, snapshot_joins      the rows of the head and of the snapshot
--     snapshot_asked, snapshot_step   a snapshot
use Rattle.std.proofs.Common.{◌≡◌, ℕ, ◌<◌, ltb, ◌↔◌, true, List, length, is_some, Some, None, Ok, Option, sym, refl, ap, ◌∙◌, subst, inl, inr, arith}
use Rattle.ordered.specs.Lent.{records, room}
use Rattle.ordered.specs.Lists.{Apart, Joined, Stands}
use Rattle.ordered.specs.Order.{Holds}
use Rattle.ordered.specs.Tables.{Ascending, replaced}
use Rattle.ordered.specs.declared.tables.Table.{Table}
use Rattle.records.specs.Keys.{number_of, dead_key, dead_below, dead_list, dead_moved}
use Rattle.records.specs.declared.dead.DeadRecord.{DeadRecord}
use Rattle.records.specs.declared.rows.Kind.TheVariants.{Head, Snapshot as OfSnapshot}
use Rattle.records.specs.declared.rows.Pointer.{Pointer}
use Rattle.records.specs.declared.rows.Row.{Row}
use Rattle.model.specs.Datasets.{State, Dataset, Unused, Buried, dead_of}
use Rattle.model.specs.Limits.{IsDatasetNumber}
use Rattle.model.specs.Questions.{AllYes, questions}
use Rattle.model.specs.Soundness.{Sound}
use Rattle.model.specs.Steps.{DeadAfter, HandedOver, Snapped, Step, clone_row, snapshot_row, with_previous, with_row}
use Rattle.model.specs.declared.Answer.TheVariants.{Done}
use Rattle.model.specs.declared.Call.TheVariants.{Clone, Snapshot}
use Rattle.model.proofs.Rows.{length_replaced, order_replaced, replaced_other, row_number, row_of, some_none}
use Rattle.pool.specs.Pools.{HasPlace, RowsOrdered, in_rows}
use Rattle.pool.proofs.Places.{no_change, nothing_changed}

-- a row can join where its number is unused
pub has_place : (t : Table Row) (r x : Row) → r ≡ x → in_rows t x.number ≡ None → length (records t) < room t → HasPlace t r
has_place t r x is new free = subst (HasPlace t) (sym is) (new, free)

-- the questions of a clone
pub clone_asked : (s : State) (m n : ℕ) (r : Row) → IsDatasetNumber m → IsDatasetNumber n → Dataset s m r → (g : ℕ) × (r.kind ≡ OfSnapshot g) → Unused s n → length s.rows < s.row_room
    → AllYes (questions s (Clone m n))
clone_asked s m n r old new found (g, kind) unused free = (old, (new, ((r, found), ((g, (r, found, kind)), (unused, (free, tt))))))

-- a clone
pub clone_step : (s t : State) (m n : ℕ) (r : Row) (taken given : ℕ) → Dataset s m r → AllYes (questions s (Clone m n)) → t ≡ with_row s (clone_row n r) → taken ≡ 0 → given ≡ 0
    → Step s (Clone m n) (Ok (Done (record { taken = taken; given = given }))) t
clone_step s t m n r taken given found asked is no_taken no_given =
    (asked, (ap Done (no_change no_taken no_given ∙ nothing_changed s t (ap (λ (x : State). x.owns) is)), (r, found, is)))

-- no record is in the dead list of a number that is unused
none_buried : (s : State) (m : ℕ) (q : Pointer) → Sound s → Unused s m → Buried s m q → ⊥
none_buried s m q sound unused there =
    let (_, (r, found, _), _, _) = (sound.dead m q).0 there in some_none _ r found unused

-- dead records in their order; those of n can move to m; what stands when they have
abbrev pub DeadOrdered : List DeadRecord → Type 0
DeadOrdered = Ascending dead_key (Holds dead_below)

abbrev pub DeadApart : List DeadRecord → ℕ → ℕ → Type 0
DeadApart = Apart dead_key dead_below dead_list dead_moved

abbrev pub DeadJoined : List DeadRecord → ℕ → ℕ → List DeadRecord → Type 0
DeadJoined xs n m ys = (r : DeadRecord) → Stands dead_key dead_below ys r ↔ Joined dead_key dead_below dead_list dead_moved xs n m r

-- where m is unused, the dead list of n becomes that of m
pub handed_over : (s t : State) (n m : ℕ) (xs : List DeadRecord) → Sound s → Unused s m → xs ≡ s.dead
    → (DeadOrdered xs → DeadApart xs n m → DeadOrdered t.dead) → (DeadOrdered xs → DeadApart xs n m → DeadJoined xs n m t.dead) → DeadAfter t (HandedOver s n m)
handed_over s t n m xs sound unused same ordered joined = record { ordered = ordered up apart; members = λ k q. (forth k q, back k q) }
  where
    up : DeadOrdered xs
    up = subst DeadOrdered (sym same) sound.shape.dead_ordered

    none : (x : DeadRecord) → Stands dead_key dead_below s.dead x → x.dataset ≡ m → ⊥
    none x there is =
        none_buried s m (record { block = x.block; birth = x.birth }) sound unused (subst (λ (d : ℕ). Stands dead_key dead_below s.dead (dead_moved x d)) is there)

    apart : DeadApart xs n m
    apart = subst (λ (ys : List DeadRecord). DeadApart ys n m) (sym same) (λ x y at_x at_y of_n of_m _. none y at_y of_m)

    stands : DeadJoined s.dead n m t.dead
    stands = subst (λ (ys : List DeadRecord). DeadJoined ys n m t.dead) same (joined up apart)

    forth : (k : ℕ) (q : Pointer) → Buried t k q → HandedOver s n m k q
    forth k q there = go ((stands (dead_of k q)).0 there)
      where
        go : Joined dead_key dead_below dead_list dead_moved s.dead n m (dead_of k q) → HandedOver s n m k q
        go (inl (x, was, of_n, is)) =
            let from : x ≡ dead_of n q = ap (dead_moved x) of_n ∙ ap (λ (y : DeadRecord). dead_moved y n) (sym is) in
            inl (ap dead_list is, subst (Stands dead_key dead_below s.dead) from was)
        go (inr (was, away)) = inr (none (dead_of k q) was, away, was)

    back : (k : ℕ) (q : Pointer) → HandedOver s n m k q → Buried t k q
    back k q (inl (is, was)) = (stands (dead_of k q)).1 (inl (dead_of n q, was, refl, ap (λ (d : ℕ). dead_of d q) is))
    back k q (inr (_, away, was)) = (stands (dead_of k q)).1 (inr (was, away))

-- the row of a head is there to be exchanged
pub head_there : (s : State) (r x : Row) (m : ℕ) → Dataset s r.number r → x ≡ with_previous r (Some m) 0 → is_some (row_of s.rows x.number) ≡ true
head_there s r x m found is = ap is_some (ap (λ (y : Row). row_of s.rows y.number) is ∙ found)

-- the row of a snapshot can join once that of the head is exchanged
pub snapshot_joins : (s : State) (t : Table Row) (m g : ℕ) (r y : Row) → Sound s → Dataset s r.number r → AllYes (questions s (Snapshot r.number m))
    → records t ≡ replaced number_of ltb s.rows (with_previous r (Some m) 0) → room t ≡ s.row_room → y ≡ snapshot_row m r g → RowsOrdered t × HasPlace t y
snapshot_joins s t m g r y sound found (_, (_, (_, (_, (unused, (free, _)))))) rows places is = (
  subst (Ascending number_of (Holds ltb)) (sym rows) (order_replaced s.rows live sound.shape.ordered),
  has_place t y (snapshot_row m r g) is (ap (λ (xs : List Row). row_of xs m) rows ∙ (replaced_other s.rows live m other ∙ unused)) (omega (arith, ap length rows, length_replaced s.rows live)),
)
  where
    live : Row
    live = with_previous r (Some m) 0

    other : m ≡ r.number → ⊥
    other e = some_none _ r found (sym (ap (row_of s.rows) e) ∙ unused)

-- the questions of a snapshot, by the number in the head's row
pub snapshot_asked : (s : State) (n m : ℕ) (r : Row) → IsDatasetNumber n → IsDatasetNumber m → Dataset s n r → (o : Option ℕ) × (r.kind ≡ Head o) → Unused s m → length s.rows < s.row_room → s.group < 65535
    → Dataset s r.number r × AllYes (questions s (Snapshot r.number m))
snapshot_asked s n m r old new found (o, kind) unused free left =
    subst (λ (k : ℕ). Dataset s k r × AllYes (questions s (Snapshot k m))) (sym (row_number s.rows n r found))
    (found, (old, (new, ((r, found), ((o, (r, found, kind)), (unused, (free, (left, tt))))))))

-- a snapshot
pub snapshot_step : (s t : State) (n m : ℕ) (r : Row) (taken given : ℕ) → Dataset s n r → Dataset s r.number r × AllYes (questions s (Snapshot r.number m)) → Snapped s t r.number m r → taken ≡ 0 → given ≡ 0
    → Step s (Snapshot n m) (Ok (Done (record { taken = taken; given = given }))) t
snapshot_step s t n m r taken given found (there, asked) snap no_taken no_given =
    subst (λ (k : ℕ). Step s (Snapshot k m) (Ok (Done (record { taken = taken; given = given }))) t) (row_number s.rows n r found)
    (asked, (ap Done (no_change no_taken no_given ∙ nothing_changed s t (ap (λ (x : State). x.owns) snap.rest)), (r, there, snap)))
