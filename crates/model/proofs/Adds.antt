-- The row of a new head joins the rows of a sound pool: its places are those of its previous, and the pool stays sound.
--     at_hole     below a hole there are holes
--     some_place  each place was there before, in some dataset
--     joined      a sound pool with the row of a new head is sound
--     head_joins  the row of a new head may join the rows
--     created     create keeps a sound pool sound
use Rattle.std.proofs.Common.{◌≡◌, ℕ, zero, suc, ◌/◌, ◌%◌, ◌<◌, ◌≤◌, List, Some, None, Option, sym, refl, ap, ◌∙◌, subst, arith}
use Rattle.records.specs.declared.rows.Pointer.{Pointer}
use Rattle.records.specs.declared.rows.Row.{Row}
use Rattle.tree.specs.Trees.{fan, child, at, Holds}
use Rattle.tree.proofs.Places.{at_root, at_down, hole_child}
use Rattle.model.specs.Datasets.{State, Dataset, kind_stamp, row_stamp, stamp, base, Has, Reaches, Young, Dead, Buried, head_row}
use Rattle.model.specs.Figures.{HowMany}
use Rattle.model.specs.Questions.{questions, AllYes}
use Rattle.model.specs.Soundness.{Pointers, BirthLaw, OwnedReached, DeadLists, Born, Sound}
use Rattle.model.specs.Steps.{with_row}
use Rattle.model.specs.declared.Call.TheVariants.{Create}
use Rattle.model.proofs.Ancestors.{base_some}
use Rattle.model.proofs.Joins.{Joins, row_new, row_other, row_kept, row_old, each_row, shape_joined, family_joined}
use Rattle.model.proofs.Rows.{some_none, same_row, added_other}
use Rattle.model.proofs.Sums.{alike, none}

-- below a hole there are holes
pub at_hole : (mem : List ℕ) (d i : ℕ) → at mem None d i ≡ None
at_hole mem zero i = at_root mem None i
at_hole mem (suc d) i =
    at_down mem None d i ∙ ap (λ (o : Option Pointer). child mem o (i % fan)) (at_hole mem d (i / fan)) ∙ hole_child mem (i % fan)

-- rows with one tree have the same places
same_tree : (mem : List ℕ) (x y : Row) (d i : ℕ) (q : Pointer) → x.height ≡ y.height → x.root ≡ y.root → Holds mem x.root x.height d i q → Holds mem y.root y.height d i q
same_tree mem x y d i q height root holds = record { deep = omega (arith, holds.deep); wide = holds.wide; here = ap (λ (o : Option Pointer). at mem o d i) (sym root) ∙ holds.here }

module _ (s : State) (new : Row) (joins : Joins s new) (sound : Sound s) where
  abbrev t : State
  t = with_row s new

  abbrev n : ℕ
  n = new.number

  -- what is so of the new row, and of each that was there, is so of each row
  each : {P : ℕ → Row → Type 0} → P n new → ((m : ℕ) (x : Row) → Dataset s m x → P m x) → (m : ℕ) (x : Row) → Dataset t m x → P m x
  each = each_row s new joins

  -- a place that was there is as before
  place_kept : (m d i : ℕ) (q : Pointer) → Has s m d i q → Has t m d i q
  place_kept m d i q has = record { row = has.row; found = row_kept s new joins m has.row has.found; holds = has.holds }

  place_old : (m d i : ℕ) (x : Row) (q : Pointer) → Dataset s m x → Has t m d i q → Has s m d i q
  place_old m d i x q old has = record { row = has.row; found = row_old s new joins m has.row x old has.found; holds = has.holds }

  -- the places of the new head are those of its previous
  place_new : (d i : ℕ) (q : Pointer) → Has t n d i q → (j : ℕ) × (new.previous ≡ Some j) × Has s j d i q
  place_new d i q has = go new.previous refl
    where
      holds : Holds s.memory new.root new.height d i q
      holds = subst (λ (x : Row). Holds s.memory x.root x.height d i q) (same_row t.rows n has.row new has.found (row_new s new joins)) has.holds

      go : (o : Option ℕ) → new.previous ≡ o → (j : ℕ) × (new.previous ≡ Some j) × Has s j d i q
      go None is = absurd (some_none _ q holds.here (ap (λ (o : Option Pointer). at s.memory o d i) (joins.hole is) ∙ at_hole s.memory d i))
      go (Some j) is =
          let (y, _, found, _, height, root) = joins.tree j is in
          (j, is, record { row = y; found = found; holds = same_tree s.memory new y d i q (sym height) (sym root) holds })

  place_previous : (j d i : ℕ) (q : Pointer) → new.previous ≡ Some j → Has s j d i q → Has t n d i q
  place_previous j d i q is has =
      let (y, _, found, _, height, root) = joins.tree j is in
      let holds = subst (λ (x : Row). Holds s.memory x.root x.height d i q) (same_row s.rows j has.row y has.found found) has.holds in
      record { row = new; found = row_new s new joins; holds = same_tree s.memory y new d i q height root holds }

  -- each place was there before, in some dataset
  pub some_place : (m d i : ℕ) (q : Pointer) → Has t m d i q → (j : ℕ) × Has s j d i q
  some_place m d i q has = each now before m has.row has.found has
    where
      now : Has t n d i q → (j : ℕ) × Has s j d i q
      now has = let (j, _, up) = place_new d i q has in (j, up)

      before : (m : ℕ) (x : Row) → Dataset s m x → Has t m d i q → (j : ℕ) × Has s j d i q
      before m x old has = (m, place_old m d i x q old has)

  reach_kept : (m b : ℕ) → Reaches s m b → Reaches t m b
  reach_kept m b (q, (d, i, has), e) = (q, (d, i, place_kept m d i q has), e)

  reach_old : (m b : ℕ) (x : Row) → Dataset s m x → Reaches t m b → Reaches s m b
  reach_old m b x old (q, (d, i, has), e) = (q, (d, i, place_old m d i x q old has), e)

  -- a previous that was there has the stamp that it had
  base_kept : (m : ℕ) (x : Row) → Dataset s m x → base t x ≡ base s x
  unfolding base
  base_kept m x old = go x.previous (λ j is. (let (y, _, found, _, _, _) = sound.family.previous m j x old is in row_other s new joins j y found))
    where
      go : (o : Option ℕ) → ((j : ℕ) → o ≡ Some j → j ≡ n → ⊥) → stamp t o ≡ stamp s o
      go None other = refl
      go (Some j) other = ap (row_stamp s.group) (added_other s.rows new j joins.unused (other j refl))

  -- what the new head has is no younger than its previous, which is older than the group
  births_new : (d i : ℕ) (q : Pointer) → Has t n d i q → (1 ≤ q.birth) × (q.birth ≤ base t new) × (base t new < s.group)
  births_new d i q has =
      let (j, is, up) = place_new d i q has in
      let (y, g, found, kind, _, _) = joins.tree j is in
      let born = sound.pointers.births j d i y q found up in
      let stamp = base_some t new y j g is (row_kept s new joins j y found) kind in
      (born.0, omega (arith, born.1, ap (kind_stamp s.group) kind, stamp), omega (arith, stamp, sound.shape.stamps j g (y, found, kind)))

  young_kept : (m b : ℕ) → Young s m b → Young t m b
  young_kept m b (x, q, old, (d, i, has), young, e) = (x, q, row_kept s new joins m x old, (d, i, place_kept m d i q has), omega (arith, base_kept m x old), e)

  -- the new head has no young blocks, and every other dataset has those that it had
  young_old : (m b : ℕ) → Young t m b → Young s m b
  young_old m b (x, q, there, (d, i, has), young, e) = each now before m x there has young
    where
      now : Has t n d i q → base t new < q.birth → Young s n b
      now has young = absurd (omega (arith, (births_new d i q has).1))

      before : (m : ℕ) (x : Row) → Dataset s m x → Has t m d i q → base t x < q.birth → Young s m b
      before m x old has young = (x, q, old, (d, i, place_old m d i x q old has), omega (arith, base_kept m x old), e)

  -- blocks, births and pointers
  pointers : Pointers t
  pointers = record {
    inside = λ m d i q has. (let (j, up) = some_place m d i q has in sound.pointers.inside j d i q up);
    births = λ m d i x q there has. births d i q m x there has;
    falls = λ m d i q y has above. falls d i q y m has.row has.found has above;
    full = λ m d i x q there deep has. full d i q m x there deep has;
  }
    where
      births : (d i : ℕ) (q : Pointer) (m : ℕ) (x : Row) → Dataset t m x → Has t m d i q → (1 ≤ q.birth) × (q.birth ≤ kind_stamp s.group x.kind)
      births d i q = each now (λ m x old has. sound.pointers.births m d i x q old (place_old m d i x q old has))
        where
          now : Has t n d i q → (1 ≤ q.birth) × (q.birth ≤ kind_stamp s.group new.kind)
          now has = let (first, old, low) = births_new d i q has in (first, omega (arith, ap (kind_stamp s.group) joins.kind))

      falls : (d i : ℕ) (q y : Pointer) (m : ℕ) (x : Row) → Dataset t m x → Has t m (suc d) i q → Has t m d (i / fan) y → q.birth ≤ y.birth
      falls d i q y = each now before
        where
          now : Has t n (suc d) i q → Has t n d (i / fan) y → q.birth ≤ y.birth
          now has above =
              let (j, is, up) = place_new (suc d) i q has in
              let (l, also, high) = place_new d (i / fan) y above in
              let same : l ≡ j = cc in
              sound.pointers.falls j d i q y up (subst (λ k. Has s k d (i / fan) y) same high)

          before : (m : ℕ) (x : Row) → Dataset s m x → Has t m (suc d) i q → Has t m d (i / fan) y → q.birth ≤ y.birth
          before m x old has above = sound.pointers.falls m d i q y (place_old m (suc d) i x q old has) (place_old m d (i / fan) x y old above)

      full : (d i : ℕ) (q : Pointer) (m : ℕ) (x : Row) → Dataset t m x → d < x.height → Has t m d i q → (l : ℕ) × (y : Pointer) × (l / fan ≡ i) × Has t m (suc d) l y
      full d i q = each now before
        where
          now : d < new.height → Has t n d i q → (l : ℕ) × (y : Pointer) × (l / fan ≡ i) × Has t n (suc d) l y
          now deep has =
              let (j, is, up) = place_new d i q has in
              let (x, _, found, _, height, _) = joins.tree j is in
              let (l, y, e, down) = sound.pointers.full j d i x q found (omega (arith, height)) up in
              (l, y, e, place_previous j (suc d) l y is down)

          before : (m : ℕ) (x : Row) → Dataset s m x → d < x.height → Has t m d i q → (l : ℕ) × (y : Pointer) × (l / fan ≡ i) × Has t m (suc d) l y
          before m x old deep has =
              let (l, y, e, down) = sound.pointers.full m d i x q old deep (place_old m d i x q old has) in
              (l, y, e, place_kept m (suc d) l y down)

  -- all that the new head has, its previous has
  birth_law : BirthLaw t
  birth_law m d i x q = each now before m x
    where
      now : Has t n d i q → q.birth ≤ base t new → (j : ℕ) × (new.previous ≡ Some j) × Has t j d i q
      now has low = let (j, is, up) = place_new d i q has in (j, is, place_kept j d i q up)

      before : (m : ℕ) (x : Row) → Dataset s m x → Has t m d i q → q.birth ≤ base t x → (j : ℕ) × (x.previous ≡ Some j) × Has t j d i q
      before m x old has low =
          let (j, is, up) = sound.birth_law m d i x q old (place_old m d i x q old has) (omega (arith, base_kept m x old)) in
          (j, is, place_kept j d i q up)

  -- no block is reached that was not
  owned : OwnedReached t
  owned b = (
    (λ own. (let (m, reach) = (sound.owned b).0 own in (m, reach_kept m b reach))),
    (λ (m, (q, (d, i, has), e)). (let (j, up) = some_place m d i q has in (sound.owned b).1 (j, (q, (d, i, up), e)))),
  )

  -- the dead list of the new head is empty, and all others are as before
  dead : DeadLists t
  dead m q = ((λ buried. there ((sound.dead m q).0 buried)), λ (j, (x, found, is), (d, i, has), lost). back j d i has m x found is lost)
    where
      there : Dead s m q → Dead t m q
      there (j, (x, old, is), (d, i, has), lost) =
          (j, (x, row_kept s new joins m x old, is), (d, i, place_kept j d i q has), λ reach. lost (reach_old m q.block x old reach))

      back : (j d i : ℕ) → Has t j d i q → (m : ℕ) (x : Row) → Dataset t m x → x.previous ≡ Some j → (Reaches t m q.block → ⊥) → Buried s m q
      back j d i has = each now before
        where
          now : new.previous ≡ Some j → (Reaches t n q.block → ⊥) → Buried s n q
          now is lost =
              let (y, _, found, _, _, _) = joins.tree j is in
              absurd (lost (q, (d, i, place_previous j d i q is (place_old j d i y q found has)), refl))

          before : (m : ℕ) (x : Row) → Dataset s m x → x.previous ≡ Some j → (Reaches t m q.block → ⊥) → Buried s m q
          before m x old is lost =
              let (y, _, found, _, _, _) = sound.family.previous m j x old is in
              (sound.dead m q).1 (j, (x, old, is), (d, i, place_old j d i y q found has), λ reach. lost (reach_kept m q.block reach))

  -- the new head counts no young block, and every other dataset those that it had
  born : Born t
  born = each now before
    where
      now : HowMany (Young t n) s.size new.born
      now = subst (HowMany (Young t n) s.size) (sym joins.born) (none (Young t n) s.size (λ b young. (let (x, _, old, _, _, _) = young_old n b young in row_other s new joins n x old refl)))

      before : (m : ℕ) (x : Row) → Dataset s m x → HowMany (Young t m) s.size x.born
      before m x old = alike (Young s m) (Young t m) s.size x.born (λ b low. (young_kept m b, young_old m b)) (sound.born m x old)

  -- a sound pool with the row of a new head is sound
  pub joined : Sound t
  joined = record {
    shape = shape_joined s new joins sound;
    family = family_joined s new joins sound;
    pointers = pointers;
    identity = λ m l d e i j q x has also same.
        (let (a, was) = some_place m d i q has in let (b, beside) = some_place l e j x also in sound.identity a b d e i j q x was beside same);
    birth_law = birth_law;
    one_young = λ m l b young also. sound.one_young m l b (young_old m b young) (young_old l b also);
    owned = owned;
    dead = dead;
    born = born;
  }

-- the row of a new head may join the rows
pub head_joins : (s : State) (n h : ℕ) → AllYes (questions s (Create n h)) → Joins s (head_row n h)
head_joins s n h (number, (unused, (height, (room, _)))) = record {
  unused = unused;
  number = number;
  height = height;
  room = room;
  owner = refl;
  kind = refl;
  born = refl;
  tree = λ j is. absurd (some_none _ j is refl);
  hole = λ is. refl;
}

-- create keeps a sound pool sound
pub created : (s : State) (n h : ℕ) → Sound s → AllYes (questions s (Create n h)) → Sound (with_row s (head_row n h))
created s n h sound asked = joined s (head_row n h) (head_joins s n h asked) sound
