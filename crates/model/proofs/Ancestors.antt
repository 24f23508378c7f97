-- Datasets and their previous: what a sound pool says of them, and whom a block can be shared with.
use Rattle.std.proofs.Common.{◌≡◌, ℕ, zero, suc, ◌<◌, ◌≤◌, ◌⊎◌, Some, None, Option, sym, refl, ap, ◌∙◌, subst, inl, inr, arith}
use Rattle.std.proofs.lemmas.Bool.{cases_lt}
use Rattle.records.specs.declared.rows.Kind.{Kind}
use Rattle.records.specs.declared.rows.Kind.TheVariants.{Head, Snapshot}
use Rattle.records.specs.declared.rows.Pointer.{Pointer}
use Rattle.records.specs.declared.rows.Row.{Row}
use Rattle.model.specs.Datasets.{State, Dataset, Previous, stamp, row_stamp, kind_stamp, base, Has, Reaches, Young}
use Rattle.model.specs.Figures.{Only}
use Rattle.model.specs.Soundness.{Sound}

-- a number has one row
pub same_row : {o : Option Row} (x y : Row) → o ≡ Some x → o ≡ Some y → x ≡ y
same_row x y p q = cc

-- a head is no snapshot
pub not_both : (k : Kind) (o : Option ℕ) (t : ℕ) → k ≡ Head o → k ≡ Snapshot t → ⊥
not_both k o t head snapshot = let z : ◌≡◌ {A = ℕ} 0 1 = cc in omega arith

-- with no previous, the base is 0
pub base_none : (s : State) (r : Row) → r.previous ≡ None → base s r ≡ 0
unfolding base
base_none s r e = ap (stamp s) e

-- with a snapshot as previous, the base is its stamp
pub base_some : (s : State) (r x : Row) (m t : ℕ) → r.previous ≡ Some m → Dataset s m x → x.kind ≡ Snapshot t → base s r ≡ t
unfolding base
base_some s r x m t e found kind = ap (stamp s) e ∙ ap (row_stamp s.group) found ∙ ap (kind_stamp s.group) kind

module _ (s : State) (sound : Sound s) where
  -- a previous is no head
  pub previous_no_head : (n m : ℕ) (r x : Row) (o : Option ℕ) → Dataset s n r → r.previous ≡ Some m → Dataset s m x → x.kind ≡ Head o → ⊥
  previous_no_head n m r x o found e there head =
      let y = sound.family.previous n m r found e in
      not_both x.kind o y.1 head (ap (λ (z : Row). z.kind) (same_row x y.0 there y.2) ∙ y.3)

  -- the base of a dataset is below its stamp, or below the group number where it is a head
  pub base_below : (n : ℕ) (r : Row) → Dataset s n r → base s r < kind_stamp s.group r.kind
  base_below n r found = go r.previous refl r.kind refl
    where
      go : (p : Option ℕ) → r.previous ≡ p → (k : Kind) → r.kind ≡ k → base s r < kind_stamp s.group k
      go None e (Head o) kind = omega (arith, base_none s r e, sound.shape.group)
      go None e (Snapshot t) kind = omega (arith, base_none s r e, sound.shape.stamps n t (r, found, kind))
      go (Some m) e k kind =
          let y = sound.family.previous n m r found e in
          let less : y.1 < kind_stamp s.group k = subst (λ (j : Kind). y.1 < kind_stamp s.group j) kind y.5 in
          omega (arith, base_some s r y.0 m y.1 e y.2 y.3)

  -- a previous is another dataset
  pub previous_other : (n m : ℕ) → Previous s n m → m ≡ n → ⊥
  previous_other n m (r, found, e) is =
      let y = sound.family.previous n m r found e in
      let same : y.0 ≡ r = same_row y.0 r y.2 (subst (λ (z : ℕ). Dataset s z r) (sym is) found) in
      let stamp : kind_stamp s.group r.kind ≡ y.1 = ap (λ (z : Row). kind_stamp s.group z.kind) (sym same) ∙ ap (kind_stamp s.group) y.3 in
      omega (arith, y.5)

  -- who reaches a block that is young in n is n, or has it from a dataset whose previous is n
  pub young_through : (n b : ℕ) → Young s n b → (m : ℕ) → Reaches s m b → (m ≡ n) ⊎ ((k : ℕ) × Previous s k n × Reaches s k b)
  young_through n b young m (q, (d, i, has), e) = climb (suc (top m has)) m has (omega arith)
    where
      top : (m : ℕ) → Has s m d i q → ℕ
      top m has = kind_stamp s.group has.row.kind

      climb : (g m : ℕ) (has : Has s m d i q) → top m has < g → (m ≡ n) ⊎ ((k : ℕ) × Previous s k n × Reaches s k b)
      climb zero m has less = absurd (omega arith)
      climb (suc g) m has less = go (climb g) (cases_lt (base s has.row) q.birth)
        where
          above : (l : ℕ) → has.row.previous ≡ Some l → (l ≡ n) ⊎ ((k : ℕ) × Previous s k n × Reaches s k b) → (m ≡ n) ⊎ ((k : ℕ) × Previous s k n × Reaches s k b)
          above l previous (inl is) = inr (m, (has.row, has.found, previous ∙ ap (λ (z : ℕ). Some z) is), (q, (d, i, has), e))
          above l previous (inr found) = inr found

          go : ((m : ℕ) (has : Has s m d i q) → top m has < g → (m ≡ n) ⊎ ((k : ℕ) × Previous s k n × Reaches s k b))
              → (base s has.row < q.birth) ⊎ (q.birth ≤ base s has.row) → (m ≡ n) ⊎ ((k : ℕ) × Previous s k n × Reaches s k b)
          go up (inl newer) = inl (sound.one_young m n b (has.row, q, has.found, (d, i, has), newer, e) young)
          go up (inr older) =
              let law = sound.birth_law m d i has.row q has.found has older in
              let y = sound.family.previous m law.0 has.row has.found law.1 in
              let kind : law.2.row.kind ≡ Snapshot y.1 = ap (λ (z : Row). z.kind) (same_row law.2.row y.0 law.2.found y.2) ∙ y.3 in
              above law.0 law.1 (up law.0 law.2 (omega (arith, y.5, ap (kind_stamp s.group) kind)))

  -- a block that a head has and its previous has not, no other dataset has
  pub young_alone : (n : ℕ) (r : Row) (o : Option ℕ) (d i : ℕ) (q : Pointer) → Dataset s n r → r.kind ≡ Head o → Has s n d i q → base s r < q.birth
      → (m e j : ℕ) (x : Pointer) → Has s m e j x → x.block ≡ q.block → m ≡ n
  young_alone n r o d i q found head has young m e j x there same =
      go (young_through n q.block (r, q, found, (d, i, has), young, refl) m (x, (e, j, there), same))
    where
      go : (m ≡ n) ⊎ ((k : ℕ) × Previous s k n × Reaches s k q.block) → m ≡ n
      go (inl is) = is
      go (inr (k, (y, at, previous), _)) = absurd (previous_no_head k n y r o at previous found head)

  -- what only n reaches is young in n
  pub only_young : (n b : ℕ) → Only s n b → Young s n b
  only_young n b ((q, (d, i, has), e), only) = go (cases_lt (base s has.row) q.birth)
    where
      go : (base s has.row < q.birth) ⊎ (q.birth ≤ base s has.row) → Young s n b
      go (inl newer) = (has.row, q, has.found, (d, i, has), newer, e)
      go (inr older) =
          let (l, previous, up) = sound.birth_law n d i has.row q has.found has older in
          absurd (previous_other n l (has.row, has.found, previous) (only l (q, (d, i, up), e)))
