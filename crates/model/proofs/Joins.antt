-- The row of a new head joins the rows of a sound pool: which rows there are then, and the pool's shape and families.
--     Joins s x                     the row x of a new head may join the rows of s
--     row_new, row_kept, row_old    the new row is there, and all other rows are as before
--     row_other                     what was there has another number
--     each_row                      what is so of the new row, and of each that was there, is so of each row
use Rattle.std.proofs.Common.{◌≡◌, ℕ, ◌<◌, ◌≤◌, ltb, ◌⊎◌, length, Some, None, Option, sym, refl, ap, ◌∙◌, subst, inl, inr, arith}
use Rattle.std.proofs.lemmas.Bool.{cases_eq}
use Rattle.ordered.proofs.Additions.{no_index_of, length_with}
use Rattle.ordered.proofs.Edits.{ascending_with}
use Rattle.records.specs.Keys.{number_of}
use Rattle.records.specs.declared.rows.Kind.TheVariants.{Head, Snapshot}
use Rattle.records.specs.declared.rows.Row.{Row}
use Rattle.model.specs.Datasets.{State, Dataset, Unused, IsHead, IsSnapshot, kind_stamp}
use Rattle.model.specs.Limits.{IsDatasetNumber, Height}
use Rattle.model.specs.Soundness.{Shape, Family, Sound}
use Rattle.model.specs.Steps.{with_row}
use Rattle.model.proofs.Ancestors.{not_both}
use Rattle.model.proofs.Rows.{chain, one, some_none, row_of, same_row, added_here, added_other}

pub record Joins (s : State) (x : Row) : Type 0 where
  -- the number is unused, number and height are in range, and there is a place for the row
  pub unused : Unused s x.number
  pub number : IsDatasetNumber x.number
  pub height : Height x.height
  pub room : length s.rows < s.row_room
  -- the head owns itself, its previous is its origin, and nothing was born since
  pub owner : x.owner ≡ x.number
  pub kind : x.kind ≡ Head x.previous
  pub born : x.born ≡ 0
  -- its previous is a snapshot, whose tree it has; without one, its root is a hole
  pub tree : (j : ℕ) → x.previous ≡ Some j → (y : Row) × (g : ℕ) × Dataset s j y × (y.kind ≡ Snapshot g) × (y.height ≡ x.height) × (y.root ≡ x.root)
  pub hole : x.previous ≡ None → x.root ≡ None

module _ (s : State) (new : Row) (joins : Joins s new) where
  -- the state with the new row
  abbrev t : State
  t = with_row s new

  -- the new row is there
  pub row_new : Dataset t new.number new
  row_new = added_here s.rows new new.number refl joins.unused

  -- what was there has another number, and is as before
  pub row_other : (m : ℕ) (x : Row) → Dataset s m x → m ≡ new.number → ⊥
  row_other m x old e = some_none _ x old (ap (row_of s.rows) e ∙ joins.unused)

  pub row_kept : (m : ℕ) (x : Row) → Dataset s m x → Dataset t m x
  row_kept m x old = added_other s.rows new m joins.unused (row_other m x old) ∙ old

  pub row_old : (m : ℕ) (x y : Row) → Dataset s m y → Dataset t m x → Dataset s m x
  row_old m x y old there = sym (added_other s.rows new m joins.unused (row_other m y old)) ∙ there

  -- what is so of the new row, and of each that was there, is so of each row
  pub each_row : {P : ℕ → Row → Type 0} → P new.number new → ((m : ℕ) (x : Row) → Dataset s m x → P m x) → (m : ℕ) (x : Row) → Dataset t m x → P m x
  each_row {P} now before m x there = go (cases_eq m new.number)
    where
      go : (m ≡ new.number) ⊎ (m ≡ new.number → ⊥) → P m x
      go (inl e) =
          let is : new ≡ x = same_row t.rows new.number new x row_new (subst (λ j. Dataset t j x) e there) in
          subst (λ j. P j x) (sym e) (subst (P new.number) is now)
      go (inr other) = before m x (sym (added_other s.rows new m joins.unused other) ∙ there)

  -- the new row is no snapshot
  no_snapshot : {A : Type 0} (g : ℕ) → new.kind ≡ Snapshot g → A
  no_snapshot g is = absurd (not_both new.kind new.previous g joins.kind is)

  module _ (sound : Sound s) where
    -- sizes, ranges and orders
    pub shape_joined : Shape t
    shape_joined = record {
      size = sound.shape.size;
      memory = sound.shape.memory;
      row_room = sound.shape.row_room;
      dead_room = sound.shape.dead_room;
      rows_fit = omega (arith, length_with number_of ltb s.rows new, joins.room);
      dead_fit = sound.shape.dead_fit;
      ordered = ascending_with number_of ltb one chain s.rows new (no_index_of number_of ltb s.rows new.number joins.unused) sound.shape.ordered;
      dead_ordered = sound.shape.dead_ordered;
      numbers = each_row joins.number sound.shape.numbers;
      heights = each_row joins.height sound.shape.heights;
      group = sound.shape.group;
      stamps = λ m g (x, there, is). stamps g m x there is;
      below = sound.shape.below;
    }
      where
        stamps : (g m : ℕ) (x : Row) → Dataset t m x → x.kind ≡ Snapshot g → (1 ≤ g) × (g < s.group)
        stamps g = each_row (no_snapshot g) (λ m x old is. sound.shape.stamps m g (x, old, is))

    -- heads stay heads, and snapshots snapshots
    head_kept : (m : ℕ) (o : Option ℕ) → IsHead s m o → IsHead t m o
    head_kept m o (x, old, is) = (x, row_kept m x old, is)

    snapshot_kept : (m g : ℕ) → IsSnapshot s m g → IsSnapshot t m g
    snapshot_kept m g (x, old, is) = (x, row_kept m x old, is)

    -- the new head owns itself, and nothing that was there
    owner_new : Dataset t new.owner new
    owner_new = ap (row_of t.rows) joins.owner ∙ row_new

    owner_other : (m : ℕ) (x : Row) → Dataset s m x → x.owner ≡ new.number → ⊥
    owner_other m x old e = let (o, (y, found, _)) = sound.family.owner m x old in row_other x.owner y found e

    -- its origin is its previous
    origin_new : (o : Option ℕ) → new.kind ≡ Head o → o ≡ new.previous
    origin_new o is = cc joins.kind

    -- dataset j is an older snapshot of the height of the row x
    abbrev Older : ℕ → Row → Type 0
    Older j x = (y : Row) × (g : ℕ) × Dataset t j y × (y.kind ≡ Snapshot g) × (y.height ≡ x.height) × (g < kind_stamp s.group x.kind)

    previous : (j m : ℕ) (x : Row) → Dataset t m x → x.previous ≡ Some j → Older j x
    previous j = each_row now before
      where
        now : new.previous ≡ Some j → Older j new
        now is =
            let (y, g, found, kind, height, _) = joins.tree j is in
            (y, g, row_kept j y found, kind, height, omega (arith, ap (kind_stamp s.group) joins.kind, sound.shape.stamps j g (y, found, kind)))

        before : (m : ℕ) (x : Row) → Dataset s m x → x.previous ≡ Some j → Older j x
        before m x old is = let (y, g, found, kind, height, low) = sound.family.previous m j x old is in (y, g, row_kept j y found, kind, height, low)

    -- the row y of dataset j has the owner of the row x, unless j is the owner's origin o
    abbrev Within : ℕ → Row → Option ℕ → Row → Type 0
    Within j y o x = ((y.owner ≡ x.owner) × (o ≡ Some j → ⊥)) ⊎ ((y.owner ≡ x.owner → ⊥) × (o ≡ Some j))

    within : (j : ℕ) (y : Row) (o : Option ℕ) → Dataset t j y → (m : ℕ) (x : Row) → Dataset t m x → x.previous ≡ Some j → IsHead t x.owner o → Within j y o x
    within j y o beside = each_row now before
      where
        now : new.previous ≡ Some j → IsHead t new.owner o → Within j y o new
        now is (z, found, head) =
            let old = row_old j y (joins.tree j is).0 (joins.tree j is).2 beside in
            let row : z ≡ new = same_row t.rows new.owner z new found owner_new in
            inr ((λ same. owner_other j y old (same ∙ joins.owner)), origin_new o (ap (λ (x : Row). x.kind) (sym row) ∙ head) ∙ is)

        before : (m : ℕ) (x : Row) → Dataset s m x → x.previous ≡ Some j → IsHead t x.owner o → Within j y o x
        before m x old is (z, found, head) =
            let up = sound.family.previous m j x old is in
            let (_, (w, own, _)) = sound.family.owner m x old in
            sound.family.within m j x y old (row_old j y up.0 up.2 beside) is o (z, row_old x.owner z w own found, head)

    alone : (m : ℕ) (x : Row) → Dataset t m x → (j : ℕ) (y : Row) → Dataset t j y → x.owner ≡ y.owner → x.previous ≡ y.previous → m ≡ j
    alone = each_row now before
      where
        now : (j : ℕ) (y : Row) → Dataset t j y → new.owner ≡ y.owner → new.previous ≡ y.previous → new.number ≡ j
        now = each_row (λ owners previous. refl)
            (λ j y old owners previous. absurd (owner_other j y old (sym owners ∙ joins.owner)))

        before : (m : ℕ) (x : Row) → Dataset s m x → (j : ℕ) (y : Row) → Dataset t j y → x.owner ≡ y.owner → x.previous ≡ y.previous → m ≡ j
        before m x old = each_row
            (λ owners previous. absurd (owner_other m x old (owners ∙ joins.owner)))
            (λ j y beside. sound.family.alone m j x y old beside)

    -- previous, owner and origin
    pub family_joined : Family t
    family_joined = record {
      head = λ m o. each_row (λ is. joins.owner) (λ m. sound.family.head m o) m;
      owner = each_row (new.previous, (new, owner_new, joins.kind))
          (λ m x old. (let (o, head) = sound.family.owner m x old in (o, head_kept x.owner o head)));
      origin = λ m j (x, there, is). origin j m x there is;
      previous = λ m j. previous j m;
      within = λ m j x y there beside is o. within j y o beside m x there is;
      first = each_row (λ is. (new, owner_new, joins.kind ∙ ap Head is))
          (λ m x old is. head_kept x.owner None (sound.family.first m x old is));
      alone = λ m j x y there beside. alone m x there j y beside;
      next = λ m g. next g m;
    }
      where
        origin : (j m : ℕ) (x : Row) → Dataset t m x → x.kind ≡ Head (Some j) → (g : ℕ) × IsSnapshot t j g
        origin j = each_row
            (λ is. (let (y, g, found, kind, _, _) = joins.tree j (sym (origin_new (Some j) is)) in (g, snapshot_kept j g (y, found, kind))))
            (λ m x old is. (let (g, snapshot) = sound.family.origin m j (x, old, is) in (g, snapshot_kept j g snapshot)))

        next : (g m : ℕ) (x : Row) → Dataset t m x → x.kind ≡ Snapshot g → (j : ℕ) × (y : Row) × Dataset t j y × (y.previous ≡ Some m) × (y.owner ≡ x.owner)
        next g = each_row (no_snapshot g)
            (λ m x old is. (let (j, y, found, previous, owner) = sound.family.next m g x old is in (j, y, row_kept j y found, previous, owner)))
