-- Rows that differ in root and count alone: a replaced path keeps families and the shape of a pool.
use Rattle.std.proofs.Common.{◌≡◌, ℕ, ◌*◌, ◌<◌, ◌≤◌, true, ltb, ◌⊎◌, List, length, Some, None, Option, sym, ap, ◌∙◌, subst, ap₂, inl, inr, arith}
use Rattle.ordered.specs.Order.{Holds}
use Rattle.ordered.specs.Tables.{Ascending}
use Rattle.records.specs.Keys.{number_of, dead_key, dead_below}
use Rattle.records.specs.declared.rows.Kind.TheVariants.{Snapshot}
use Rattle.records.specs.declared.rows.Row.{Row}
use Rattle.tree.specs.Trees.{block_size}
use Rattle.model.specs.Datasets.{State, Dataset, IsHead, IsSnapshot, kind_stamp}
use Rattle.model.specs.Limits.{Height, Group, PoolSize, RowRoom, DeadRoom}
use Rattle.model.specs.Soundness.{Sound, Shape, Family}
use Rattle.model.specs.Steps.{Replaced}
use Rattle.model.proofs.Moves.{Kin, Moved}
use Rattle.model.proofs.Rows.{length_replaced, order_replaced}

module _ (s t : State) (n : ℕ) (r : Row) (p k : ℕ) (new : ℕ → ℕ) (sound : Sound s) (moved : Moved s t n r p k new) where
  -- heads and snapshots stay what they are
  pub head_after : (m : ℕ) (o : Option ℕ) → IsHead t m o → IsHead s m o
  head_after m o (x, here, is) = let old = moved.row_after m x here in (old.0, old.1, sym old.2.kind ∙ is)

  pub head_before : (m : ℕ) (o : Option ℕ) → IsHead s m o → IsHead t m o
  head_before m o (x, here, is) = let now = moved.row_before m x here in (now.0, now.1, now.2.kind ∙ is)

  pub snapshot_after : (m u : ℕ) → IsSnapshot t m u → IsSnapshot s m u
  snapshot_after m u (x, here, is) = let old = moved.row_after m x here in (old.0, old.1, sym old.2.kind ∙ is)

  pub snapshot_before : (m u : ℕ) → IsSnapshot s m u → IsSnapshot t m u
  snapshot_before m u (x, here, is) = let now = moved.row_before m x here in (now.0, now.1, now.2.kind ∙ is)

  -- the owner of a row is a head where the owner of its kin was one
  owner_before : (x y : Row) (o : Option ℕ) → Kin y x → IsHead s y.owner o → IsHead t x.owner o
  owner_before x y o kin is = subst (λ m. IsHead t m o) (sym kin.owner) (head_before y.owner o is)

  owner_after : (x y : Row) (o : Option ℕ) → Kin y x → IsHead t x.owner o → IsHead s y.owner o
  owner_after x y o kin is = subst (λ m. IsHead s m o) kin.owner (head_after x.owner o is)

  -- the youngest birth that a dataset may have is as before
  pub kind_stamp_same : (x y : Row) → Kin y x → kind_stamp t.group x.kind ≡ kind_stamp s.group y.kind
  kind_stamp_same x y kin = ap₂ kind_stamp moved.group kin.kind

  -- families are as before
  pub family_moved : Family t
  family_moved = record {
    head = λ m o x here is. (let old = moved.row_after m x here in old.2.owner ∙ sound.family.head m o old.0 old.1 (sym old.2.kind ∙ is));
    owner = λ m x here. (let old = moved.row_after m x here in let up = sound.family.owner m old.0 old.1 in (up.0, owner_before x old.0 up.0 old.2 up.1));
    origin = λ m j is. (let up = sound.family.origin m j (head_after m (Some j) is) in (up.0, snapshot_before j up.0 up.1));
    previous = λ m j x here is. previous m j x here is;
    within = λ m j x z here there is o head. within m j x z o here there is head;
    first = λ m x here is. (let old = moved.row_after m x here in
        owner_before x old.0 None old.2 (sound.family.first m old.0 old.1 (sym old.2.previous ∙ is)));
    alone = λ m j x z here there owners previous.
        (let old = moved.row_after m x here in
        let beside = moved.row_after j z there in
        sound.family.alone m j old.0 beside.0 old.1 beside.1
        (sym old.2.owner ∙ owners ∙ beside.2.owner) (sym old.2.previous ∙ previous ∙ beside.2.previous));
    next = λ m u x here is.
        (let old = moved.row_after m x here in
        let up = sound.family.next m u old.0 old.1 (sym old.2.kind ∙ is) in
        let now = moved.row_before up.0 up.1 up.2 in
        (up.0, now.0, now.1, now.2.previous ∙ up.3, now.2.owner ∙ up.4 ∙ sym old.2.owner));
  }
    where
      previous : (m j : ℕ) (x : Row) → Dataset t m x → x.previous ≡ Some j
          → (z : Row) × (u : ℕ) × Dataset t j z × (z.kind ≡ Snapshot u) × (z.height ≡ x.height) × (u < kind_stamp t.group x.kind)
      previous m j x here is =
          let old = moved.row_after m x here in
          let up = sound.family.previous m j old.0 old.1 (sym old.2.previous ∙ is) in
          let now = moved.row_before j up.0 up.2 in
          let young = up.5 in
          (now.0, up.1, now.1, now.2.kind ∙ up.3, now.2.height ∙ up.4 ∙ sym old.2.height, omega (arith, kind_stamp_same x old.0 old.2))

      within : (m j : ℕ) (x z : Row) (o : Option ℕ) → Dataset t m x → Dataset t j z → x.previous ≡ Some j → IsHead t x.owner o
          → ((z.owner ≡ x.owner) × (o ≡ Some j → ⊥)) ⊎ ((z.owner ≡ x.owner → ⊥) × (o ≡ Some j))
      within m j x z o here there is head =
          let old = moved.row_after m x here in
          let beside = moved.row_after j z there in
          go old.0 beside.0 old.2 beside.2
          (sound.family.within m j old.0 beside.0 old.1 beside.1 (sym old.2.previous ∙ is) o (owner_after x old.0 o old.2 head))
        where
          go : (a b : Row) → Kin a x → Kin b z → ((b.owner ≡ a.owner) × (o ≡ Some j → ⊥)) ⊎ ((b.owner ≡ a.owner → ⊥) × (o ≡ Some j))
              → ((z.owner ≡ x.owner) × (o ≡ Some j → ⊥)) ⊎ ((z.owner ≡ x.owner → ⊥) × (o ≡ Some j))
          go a b u v (inl (same, other)) = inl (v.owner ∙ same ∙ sym u.owner, other)
          go a b u v (inr (apart, origin)) = inr (λ e. apart (sym v.owner ∙ e ∙ u.owner), origin)

-- the shape of a pool after a path was replaced, where dead records and owned blocks keep theirs
pub shape_moved : (s t : State) (n : ℕ) (r : Row) (p k : ℕ) (bytes : List ℕ) → Sound s → (rep : Replaced s t n r p k bytes) → Moved s t n r p k rep.new
    → Ascending dead_key (Holds dead_below) t.dead → length t.dead ≤ t.dead_room → ((b : ℕ) → t.owns b ≡ true → b < t.size) → Shape t
shape_moved s t n r p k bytes sound rep moved dead_ordered dead_fit below = record {
  size = subst PoolSize (sym rep.size) sound.shape.size;
  memory = rep.memory.len ∙ sound.shape.memory ∙ ap (λ (x : ℕ). block_size * x) (sym rep.size);
  row_room = subst RowRoom (sym rep.row_room) sound.shape.row_room;
  dead_room = subst DeadRoom (sym rep.dead_room) sound.shape.dead_room;
  rows_fit = (let long = ap length rep.rows ∙ length_replaced s.rows _ in let fit = sound.shape.rows_fit in let room = rep.row_room in omega arith);
  dead_fit = dead_fit;
  ordered = subst (Ascending number_of (Holds ltb)) (sym rep.rows) (order_replaced s.rows _ sound.shape.ordered);
  dead_ordered = dead_ordered;
  numbers = λ m x here. (let old = moved.row_after m x here in sound.shape.numbers m old.0 old.1);
  heights = λ m x here. (let old = moved.row_after m x here in subst Height (sym old.2.height) (sound.shape.heights m old.0 old.1));
  group = subst Group (sym rep.group) sound.shape.group;
  stamps = λ m u is. subst (λ g. (1 ≤ u) × (u < g)) (sym rep.group) (sound.shape.stamps m u (snapshot_after s t n r p k rep.new sound moved m u is));
  below = below;
}
