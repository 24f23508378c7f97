-- A replaced path keeps the dead table the dead lists of all datasets.
use Rattle.std.proofs.Common.{◌≡◌, ℕ, suc, ◌+◌, ◌<◌, ◌≤◌, leb, ◌⊎◌, List, length, Some, None, Option, sym, refl, ap, ◌∙◌, subst, inl, inr, arith}
use Rattle.std.proofs.lemmas.Bool.{cases_eq, cases_lt, both_ways, le-leb, leb-true}
use Rattle.ordered.specs.Order.{Holds}
use Rattle.ordered.specs.Tables.{Ascending, record_of}
use Rattle.records.specs.Keys.{dead_key, dead_below}
use Rattle.records.specs.declared.dead.DeadRecord.{DeadRecord}
use Rattle.records.specs.declared.rows.Pointer.{Pointer}
use Rattle.records.specs.declared.rows.Row.{Row}
use Rattle.tree.specs.Trees.{at, index_at}
use Rattle.model.specs.Datasets.{State, Dataset, base, kind_stamp, Has, Reaches, Dead, Buried, dead_of}
use Rattle.model.specs.Paths.{Leaves, path_of, old_path, sinking}
use Rattle.model.specs.Soundness.{Sound, DeadLists}
use Rattle.model.specs.Steps.{Replaced}
use Rattle.model.proofs.Ancestors.{same_row, base_some, previous_no_head}
use Rattle.model.proofs.Burials.{dead_one, Absent, found_key, buried_length, buried_ascending, buried_found, buried_old, buried_new}
use Rattle.model.proofs.Members.{In, Distinct, kept_in, in_kept, distinct_kept, pointers_in, in_pointers, distinct_pointers}
use Rattle.model.proofs.Moves.{Kin, On, Moved, new_pointer}
use Rattle.model.proofs.Owners.{on_or_off, leaves_has, has_leaves, previous_kept}

-- the pointer q leaves the path, and the previous has it too
abbrev pub Sinks : State → Row → ℕ → Pointer → Type 0
Sinks s r p q = Leaves s r p q × (q.birth ≤ base s r)

-- the list of them has just these
pub sinks_in : (s : State) (r : Row) (p : ℕ) (q : Pointer) → Sinks s r p q → In q (sinking s r p)
sinks_in s r p q ((d, deep, here), old) =
    in_kept (λ x. leb x.birth (base s r)) q (old_path s r p) (in_pointers (path_of s r p) q (suc r.height) d (omega arith) here) (le-leb q.birth (base s r) old)

pub in_sinks : (s : State) (r : Row) (p : ℕ) (q : Pointer) → In q (sinking s r p) → Sinks s r p q
in_sinks s r p q i =
    let kept = kept_in (λ x. leb x.birth (base s r)) q (old_path s r p) i in
    let there = pointers_in (path_of s r p) q (suc r.height) kept.0 in
    ((there.0, omega (arith, there.1), there.2), leb-true q.birth (base s r) kept.1)

module _ (s : State) (sound : Sound s) where
  -- where some dataset has q at a place, another has it there too, or does not reach its block
  pub there_or_nowhere : (a d i : ℕ) (q : Pointer) → Has s a d i q → (m : ℕ) (y : Row) → Dataset s m y → Has s m d i q ⊎ (Reaches s m q.block → ⊥)
  there_or_nowhere a d i q has m y found = depth (cases_lt y.height d)
    where
      -- wherever m reaches the block, it is at this place
      only : Reaches s m q.block → (d ≤ y.height) × (at s.memory y.root d i ≡ Some q)
      only (x, (e, j, there), same) =
          let place = sound.identity m a e d j i x q there has same in
          let row : there.row ≡ y = same_row there.row y there.found found in (
            omega (arith, there.holds.deep, place.0, ap (λ (z : Row). z.height) row),
            subst (λ (z : Pointer). at s.memory y.root d i ≡ Some z) place.2
                (subst (λ (z : Row). at s.memory z.root d i ≡ Some x) row
                (subst (λ (g : ℕ). at s.memory there.row.root g i ≡ Some x) place.0
                (subst (λ (g : ℕ). at s.memory there.row.root e g ≡ Some x) place.1 there.holds.here))),
          )

      depth : (y.height < d) ⊎ (d ≤ y.height) → Has s m d i q ⊎ (Reaches s m q.block → ⊥)
      depth (inl low) = inr (λ reach. omega (arith, (only reach).0))
      depth (inr deep) = go (at s.memory y.root d i) refl
        where
          go : (o : Option Pointer) → at s.memory y.root d i ≡ o → Has s m d i q ⊎ (Reaches s m q.block → ⊥)
          go None e = inr (λ reach. (let z : ◌≡◌ {A = ℕ} 0 1 = cc (only reach).1 in omega arith))
          go (Some x) e = block (cases_eq x.block q.block)
            where
              block : (x.block ≡ q.block) ⊎ (x.block ≡ q.block → ⊥) → Has s m d i q ⊎ (Reaches s m q.block → ⊥)
              block (inl same) =
                  let there : Has s m d i x = record { row = y; found = found; holds = record { deep = deep; wide = has.holds.wide; here = e } } in
                  inl (subst (Has s m d i) (sound.identity m a d d i i x q there has same).2 there)
              block (inr other) = inr (λ reach. (let is : x ≡ q = cc (only reach).1 in other (ap (λ (z : Pointer). z.block) is)))

  -- what the previous has is no younger than its stamp
  pub previous_old : (n m d i : ℕ) (r : Row) (q : Pointer) → Dataset s n r → r.previous ≡ Some m → Has s m d i q → q.birth ≤ base s r
  previous_old n m d i r q found e has =
      let y = sound.family.previous n m r found e in
      let birth = (sound.pointers.births m d i y.0 q y.2 has).1 in
      omega (arith, birth, ap (kind_stamp s.group) y.3, base_some s r y.0 m y.1 e y.2 y.3)

module _ (s t : State) (n : ℕ) (r : Row) (p k : ℕ) (new : ℕ → ℕ) (sound : Sound s) (moved : Moved s t n r p k new) where
  -- a block that some dataset reached is not new: a dataset reaches it in t where it did in s, off the path
  pub old_place : (a e j m d i : ℕ) (q x : Pointer) → Has s a e j q → Has t m d i x → x.block ≡ q.block → Has s m d i x × (On n r p m d i → ⊥)
  old_place a e j m d i q x was has same = go (moved.after m d i x has)
    where
      go : (On n r p m d i × (d < k) × (x ≡ new_pointer s new d)) ⊎ (Has s m d i x × (On n r p m d i → ⊥)) → Has s m d i x × (On n r p m d i → ⊥)
      go (inl (_, less, is)) =
          let block : q.block ≡ new d = sym same ∙ ap (λ (z : Pointer). z.block) is in
          absurd (both_ways (s.owns (new d)) (moved.free d less).1 ((sound.owned (new d)).1 (a, (q, (e, j, was), block))))
      go (inr old) = old

  -- the pointers that sink have different blocks
  sinking_distinct : Distinct (sinking s r p)
  sinking_distinct = distinct_kept (λ q. leb q.birth (base s r)) (old_path s r p) (distinct_pointers (path_of s r p) (suc r.height) apart)
    where
      apart : (d e : ℕ) (q x : Pointer) → d < e → e < suc r.height → path_of s r p d ≡ Some q → path_of s r p e ≡ Some x → q.block ≡ x.block → ⊥
      apart d e q x less deep at_d at-e same =
          let has_d = leaves_has s t n r p k new sound moved q (d, omega arith, at_d) in
          let has_e = leaves_has s t n r p k new sound moved x (e, omega arith, at-e) in
          omega (arith, (sound.identity n n d e (index_at r.height p d) (index_at r.height p e) q x has_d has_e same).0)

  -- and none of them has a record yet
  sinking_absent : Absent n s.dead (sinking s r p)
  sinking_absent q i = go (record_of dead_key dead_below s.dead (dead_key (dead_of n q))) refl
    where
      go : (o : Option DeadRecord) → record_of dead_key dead_below s.dead (dead_key (dead_of n q)) ≡ o → record_of dead_key dead_below s.dead (dead_key (dead_of n q)) ≡ None
      go None e = e
      go (Some x) e =
          let key = found_key dead_key dead_below dead_one s.dead (dead_key (dead_of n q)) x e in
          let is : x ≡ dead_of n q = ap (λ (z : DeadRecord). record { dataset = z.dataset; birth = z.birth; block = z.block }) key in
          let leaves = (in_sinks s r p q i).0 in
          absurd (((sound.dead n q).0 (e ∙ ap Some is)).3 (q, (leaves.0, index_at r.height p leaves.0, leaves_has s t n r p k new sound moved q leaves), refl))

  -- what is in a dead list was in it, or sinks for n
  dead_before : (m : ℕ) (q : Pointer) → Dead t m q → Dead s m q ⊎ ((m ≡ n) × Sinks s r p q)
  dead_before m q (a, (x, found, prev), (d, i, has), gone) = origin (moved.after a d i q has)
    where
      y : (y : Row) × Dataset s m y × (y.previous ≡ Some a)
      y = let was = moved.row_after m x found in (was.0, was.1, sym was.2.previous ∙ prev)

      place : Has s a d i q → Has s m d i q ⊎ (Reaches s m q.block → ⊥) → Dead s m q ⊎ ((m ≡ n) × Sinks s r p q)
      place was (inl there) = path (on_or_off n r p m d i)
        where
          path : On n r p m d i ⊎ (On n r p m d i → ⊥) → Dead s m q ⊎ ((m ≡ n) × Sinks s r p q)
          path (inl on) =
              let row : y.0 ≡ r = same_row y.0 r y.1 (subst (λ (z : ℕ). Dataset s z r) (sym on.0) moved.found) in
              inr (on.0, (has_leaves s t n r p k new sound moved m d i q there on, subst (λ (z : Row). q.birth ≤ base s z) row (previous_old s sound m a d i y.0 q y.1 y.2 was)))
          path (inr off) = absurd (gone (q, (d, i, moved.kept m d i q there off), refl))
      place was (inr nowhere) = inl (a, (y.0, y.1, y.2), (d, i, was), nowhere)

      origin : (On n r p a d i × (d < k) × (q ≡ new_pointer s new d)) ⊎ (Has s a d i q × (On n r p a d i → ⊥)) → Dead s m q ⊎ ((m ≡ n) × Sinks s r p q)
      origin (inl (on, _, _)) = absurd (previous_no_head s sound m a y.0 r moved.origin y.1 y.2 (subst (λ (z : ℕ). Dataset s z r) (sym on.0) moved.found) moved.head)
      origin (inr (was, _)) = place was (there_or_nowhere s sound a d i q was m y.0 y.1)

  -- what was in a dead list stays in it
  dead_after : (m : ℕ) (q : Pointer) → Dead s m q → Dead t m q
  dead_after m q (a, (y, found, prev), (d, i, has), gone) =
      let x = moved.row_before m y found in (
        a,
        (x.0, x.1, x.2.previous ∙ prev),
        (d, i, previous_kept s t n r p k new sound moved m a d i y q found prev has),
        λ reach. gone (reach.0, (reach.1.0, reach.1.1, (old_place a d i m reach.1.0 reach.1.1 q reach.0 has reach.1.2 reach.2).0), reach.2),
      )

  -- what sinks is in the dead list of n
  dead_sinks : (q : Pointer) → Sinks s r p q → Dead t n q
  dead_sinks q (leaves, old) = (law.0, (now.0, now.1, now.2.previous ∙ law.1), (d, i, kept), gone)
    where
      d : ℕ
      d = leaves.0

      i : ℕ
      i = index_at r.height p d

      now : (x : Row) × Dataset t n x × Kin r x
      now = moved.row_before n r moved.found

      has : Has s n d i q
      has = leaves_has s t n r p k new sound moved q leaves

      law : (m : ℕ) × (r.previous ≡ Some m) × Has s m d i q
      law = sound.birth_law n d i r q moved.found has old

      kept : Has t law.0 d i q
      kept = previous_kept s t n r p k new sound moved n law.0 d i r q moved.found law.1 law.2

      gone : Reaches t n q.block → ⊥
      gone (x, (e, j, there), same) =
          let was = old_place n d i n e j q x has there same in
          let place = sound.identity n n e d j i x q was.0 has same in
          was.1 (refl, place.1 ∙ ap (index_at r.height p) (sym place.0))

module _ (s t : State) (n : ℕ) (r : Row) (p k : ℕ) (bytes : List ℕ) (sound : Sound s) (rep : Replaced s t n r p k bytes) (moved : Moved s t n r p k rep.new) where
  -- the dead table is the dead lists of all datasets
  pub dead_moved : DeadLists t
  dead_moved m q = (
    (λ is. there (buried_found n s.dead (sinking s r p) absent distinct (dead_key (dead_of m q)) (dead_of m q) (subst (Finds m) rep.dead is))),
    (λ dead. back (dead_before s t n r p k rep.new sound moved m q dead)),
  )
    where
      Finds : ℕ → List DeadRecord → Type 0
      Finds a dead = record_of dead_key dead_below dead (dead_key (dead_of a q)) ≡ Some (dead_of a q)

      absent : Absent n s.dead (sinking s r p)
      absent = sinking_absent s t n r p k rep.new sound moved

      distinct : Distinct (sinking s r p)
      distinct = sinking_distinct s t n r p k rep.new sound moved

      there : Buried s m q ⊎ ((x : Pointer) × In x (sinking s r p) × (dead_of m q ≡ dead_of n x)) → Dead t m q
      there (inl was) = dead_after s t n r p k rep.new sound moved m q ((sound.dead m q).0 was)
      there (inr (x, i, e)) =
          let same : x ≡ q = ap (λ (z : DeadRecord). record { block = z.block; birth = z.birth }) (sym e) in
          let owner : n ≡ m = ap (λ (z : DeadRecord). z.dataset) (sym e) in
          subst (λ (z : ℕ). Dead t z q) owner (dead_sinks s t n r p k rep.new sound moved q (subst (Sinks s r p) same (in_sinks s r p x i)))

      back : Dead s m q ⊎ ((m ≡ n) × Sinks s r p q) → Buried t m q
      back (inl was) =
          subst (Finds m) (sym rep.dead) (buried_old n s.dead (sinking s r p) absent distinct (dead_key (dead_of m q)) (dead_of m q) ((sound.dead m q).1 was))
      back (inr (same, sinks)) =
          subst (λ (z : ℕ). Buried t z q) (sym same) (subst (Finds n) (sym rep.dead) (buried_new n s.dead (sinking s r p) absent distinct q (sinks_in s r p q sinks)))

  -- the dead records stand in the order of their keys
  pub dead_ordered_moved : Ascending dead_key (Holds dead_below) t.dead
  dead_ordered_moved = subst (Ascending dead_key (Holds dead_below)) (sym rep.dead)
      (buried_ascending n s.dead (sinking s r p) (sinking_absent s t n r p k rep.new sound moved) (sinking_distinct s t n r p k rep.new sound moved) sound.shape.dead_ordered)

  -- one record for each pointer that sinks
  pub dead_length_moved : length t.dead ≡ length s.dead + length (sinking s r p)
  dead_length_moved = ap length rep.dead ∙ buried_length n s.dead (sinking s r p)
