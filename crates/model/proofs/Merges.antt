-- Dead lists after a snapshot is gone: its next keeps what it had no younger than the snapshot's previous, and takes in the
-- snapshot's.
--     dead_skipped         they are the dead lists of the datasets after
--     dead_fits_skipped    there are no more dead records than before
use Rattle.std.proofs.Common.{◌≡◌, ℕ, ◌≤◌, cond, ◌⊎◌, length, Some, sym, refl, ap, ◌∙◌, subst, inl, inr, arith, eqb}
use Rattle.std.proofs.lemmas.Bool.{cond-true, cond-false, eq-eqb, ne_eqb}
use Rattle.records.specs.Keys.{dead_key, dead_below}
use Rattle.records.specs.declared.dead.DeadRecord.{DeadRecord}
use Rattle.records.specs.declared.rows.Pointer.{Pointer}
use Rattle.records.specs.declared.rows.Row.{Row}
use Rattle.model.specs.Datasets.{State, Dataset, base, Has, Reaches, Dead, Buried, dead_of}
use Rattle.model.specs.Soundness.{Sound, DeadLists}
use Rattle.model.specs.Steps.{Merged, DeadAfter, with_previous}
use Rattle.model.proofs.Ancestors.{same_row, previous_other}
use Rattle.model.proofs.Burials.{dead_one, dead_chain}
use Rattle.model.proofs.Deads.{there_or_nowhere, previous_old}
use Rattle.model.proofs.Fewer.{Finds, no_more}
use Rattle.model.proofs.Skips.{Source, Skipped}

module _ (s t : State) (n m : ℕ) (r x : Row) (c : ℕ) (sound : Sound s) (skip : Skipped s t n m r x c) where
  -- a dataset reaches what it reached
  reach_after : (k b : ℕ) → Reaches t k b → Reaches s k b
  reach_after k b (q, (d, i, has), e) = (q, (d, i, (skip.after k d i q has).1), e)

  reach_kept : (k b : ℕ) → (k ≡ n → ⊥) → Reaches s k b → Reaches t k b
  reach_kept k b far (q, (d, i, has), e) = (q, (d, i, skip.kept k d i q far has), e)

  -- the snapshot's previous is another dataset
  up : (l : ℕ) → r.previous ≡ Some l → l ≡ n → ⊥
  up l e = previous_other s sound n l (r, skip.found, e)

  -- the snapshot has what its previous has and its next reaches
  between : (l d i : ℕ) (q : Pointer) → r.previous ≡ Some l → Has s l d i q → Reaches s m q.block → Reaches s n q.block
  between l d i q e has (p, (a, j, there), same) =
      let (depth, index, is) = sound.identity l m d a i j q p has there (sym same) in
      let at : Has s m d i q = subst (Has s m d i) (sym is) (subst (λ (g : ℕ). Has s m d g p) (sym index) (subst (λ (g : ℕ). Has s m g j p) (sym depth) there)) in
      let old = previous_old s sound n l d i r q skip.found e has in
      (q, (d, i, skip.shared d i q at (omega (arith, skip.older))), refl)

  -- the next takes in the snapshot's dead list
  from_snapshot : (q : Pointer) → Dead s n q → Dead t m q
  from_snapshot q (l, (y, there, e), (d, i, has), nowhere) =
      let is : r.previous ≡ Some l = ap (λ (z : Row). z.previous) (same_row r y skip.found there) ∙ e in
      (l, (with_previous x r.previous c, skip.now, is), (d, i, skip.kept l d i q (up l is) has), λ reach. nowhere (between l d i q is has (reach_after m q.block reach)))

  -- and keeps of its own what the snapshot's previous has too
  from_next : (q : Pointer) → Dead s m q → q.birth ≤ base s r → Dead t m q
  from_next q (a, (y, there, e), (d, i, has), nowhere) old =
      let both : Some a ≡ Some n = sym e ∙ ap (λ (z : Row). z.previous) (same_row y x there skip.next) ∙ skip.previous in
      let is : a ≡ n = cc in
      let (l, previous, above) = sound.birth_law n d i r q skip.found (subst (λ (j : ℕ). Has s j d i q) is has) old in
      (l, (with_previous x r.previous c, skip.now, previous), (d, i, skip.kept l d i q (up l previous) above), λ reach. nowhere (reach_after m q.block reach))

  -- others keep theirs
  from_other : (k : ℕ) (q : Pointer) → (k ≡ m → ⊥) → (k ≡ n → ⊥) → Dead s k q → Dead t k q
  from_other k q past far (a, (y, there, e), (d, i, has), nowhere) =
      let apart : a ≡ n → ⊥ = λ is. past (skip.alone k (y, there, e ∙ ap (λ (j : ℕ). Some j) is)) in
      (a, (y, skip.row_kept k y far past there, e), (d, i, skip.kept a d i q apart has), λ reach. nowhere (reach_after k q.block reach))

  -- nothing else is in a dead list after
  to_merged : (k : ℕ) (q : Pointer) → Dead t k q → Merged s n m r k q
  to_merged k q (l, (y, there, e), (d, i, now), nowhere) = which from.which
    where
      from : Source s t n m k y
      from = skip.source k y there

      has : Has s l d i q
      has = (skip.after l d i q now).1

      far : k ≡ n → ⊥
      far = (skip.row_after k y there).0

      which : ((k ≡ m) × (from.dataset ≡ n)) ⊎ ((k ≡ m → ⊥) × (from.dataset ≡ k)) → Merged s n m r k q
      which (inr (past, is)) =
          let found : Dataset s k from.row = subst (λ (j : ℕ). Dataset s j from.row) is from.found in
          inr (past, far, (sound.dead k q).1 (l, (from.row, found, from.previous ∙ e), (d, i, has), λ reach. nowhere (reach_kept k q.block far reach)))
      which (inl (is, at)) = inl (is, place (there_or_nowhere s sound l d i q has n r skip.found))
        where
          previous : r.previous ≡ Some l
          previous = ap (λ (z : Row). z.previous) (same_row r from.row skip.found (subst (λ (j : ℕ). Dataset s j from.row) at from.found)) ∙ from.previous ∙ e

          unreached : Reaches s m q.block → ⊥
          unreached reach = nowhere (subst (λ (j : ℕ). Reaches t j q.block) (sym is) (reach_kept m q.block skip.apart reach))

          place : Has s n d i q ⊎ (Reaches s n q.block → ⊥) → (Buried s m q × (q.birth ≤ base s r)) ⊎ Buried s n q
          place (inl mine) = inl ((sound.dead m q).1 (n, (x, skip.next, skip.previous), (d, i, mine), unreached), previous_old s sound n l d i r q skip.found previous has)
          place (inr none) = inr ((sound.dead n q).1 (l, (r, skip.found, previous), (d, i, has), none))

  of_merged : (k : ℕ) (q : Pointer) → Merged s n m r k q → Dead t k q
  of_merged k q (inl (is, inl (mine, old))) = subst (λ (j : ℕ). Dead t j q) (sym is) (from_next q ((sound.dead m q).0 mine) old)
  of_merged k q (inl (is, inr taken)) = subst (λ (j : ℕ). Dead t j q) (sym is) (from_snapshot q ((sound.dead n q).0 taken))
  of_merged k q (inr (past, far, kept)) = from_other k q past far ((sound.dead k q).0 kept)

  -- they are the dead lists of the datasets after
  pub dead_skipped : DeadAfter t (Merged s n m r) → DeadLists t
  dead_skipped after k q = ((λ buried. of_merged k q ((after.members k q).0 buried)), (λ dead. (after.members k q).1 (to_merged k q dead)))

  -- each record after comes from one before, the snapshot's by another dataset
  abbrev moved : DeadRecord → DeadRecord
  moved d = dead_of (cond (eqb d.dataset n) m d.dataset) (record { block = d.block; birth = d.birth })

  moved_here : (q : Pointer) → moved (dead_of n q) ≡ dead_of m q
  moved_here q = ap (λ (k : ℕ). dead_of k q) (cond-true (eqb n n) m n (eq-eqb n n refl))

  moved_not : (k : ℕ) (q : Pointer) → (k ≡ n → ⊥) → moved (dead_of k q) ≡ dead_of k q
  moved_not k q far = ap (λ (j : ℕ). dead_of j q) (cond-false (eqb k n) m k (ne_eqb k n far))

  origin : (k : ℕ) (q : Pointer) → Merged s n m r k q → (d : DeadRecord) × Finds dead_key dead_below s.dead d × (moved d ≡ dead_of k q)
  origin k q (inl (is, inl (mine, _))) = (dead_of m q, mine, moved_not m q skip.apart ∙ ap (λ (j : ℕ). dead_of j q) (sym is))
  origin k q (inl (is, inr taken)) = (dead_of n q, taken, moved_here q ∙ ap (λ (j : ℕ). dead_of j q) (sym is))
  origin k q (inr (_, far, kept)) = (dead_of k q, kept, moved_not k q far)

  -- there are no more dead records than before
  pub dead_fits_skipped : DeadAfter t (Merged s n m r) → length t.dead ≤ length s.dead
  dead_fits_skipped after =
      no_more dead_key dead_below dead_one dead_chain moved t.dead s.dead after.ordered sound.shape.dead_ordered
      (λ d found. origin d.dataset (record { block = d.block; birth = d.birth }) ((after.members d.dataset (record { block = d.block; birth = d.birth })).0 found))
