-- Families, pointers and births after a snapshot is gone.
--     family_skipped       families: the next has the snapshot's previous
--     pointers_skipped     the pointers are those of the other datasets
--     identity_skipped     a block stands at one place
--     birth_law_skipped    what is not younger than the previous stands in it too
--     young_skipped        what is young in a dataset was young in it, or in the snapshot and now in the next
--     one_young_skipped    a block is young in one dataset
use Rattle.std.proofs.Common.{◌≡◌, ℕ, suc, ◌/◌, ◌<◌, ◌≤◌, ◌⊎◌, Some, None, Option, sym, ap, ◌∙◌, subst, inl, inr, arith}
use Rattle.std.proofs.lemmas.Bool.{cases_eq, cases_lt}
use Rattle.records.specs.declared.rows.Kind.TheVariants.{Snapshot}
use Rattle.records.specs.declared.rows.Row.{Row}
use Rattle.tree.specs.Trees.{fan}
use Rattle.model.specs.Datasets.{State, Dataset, IsHead, IsSnapshot, kind_stamp, base, Has, Young}
use Rattle.model.specs.Families.{IsClone}
use Rattle.model.specs.Soundness.{Sound, Family, Pointers, Identity, BirthLaw, OneYoung}
use Rattle.model.specs.Steps.{with_previous}
use Rattle.model.proofs.Ancestors.{same_row, previous_no_head}
use Rattle.model.proofs.Skips.{Alike, Source, Skipped}

module _ (s t : State) (n m : ℕ) (r x : Row) (c : ℕ) (sound : Sound s) (skip : Skipped s t n m r x c) where
  -- heads and snapshots stay what they are
  head_after : (k : ℕ) (o : Option ℕ) → IsHead t k o → IsHead s k o
  head_after k o (y, there, is) = let (_, (z, found, alike)) = skip.row_after k y there in (z, found, sym alike.kind ∙ is)

  head_before : (k : ℕ) (o : Option ℕ) → IsHead s k o → IsHead t k o
  head_before k o (z, there, is) = let (y, found, alike) = skip.row_before k z far there in (y, found, alike.kind ∙ is)
    where
      far : k ≡ n → ⊥
      far e =
          let same : z ≡ r = same_row z r (subst (λ (j : ℕ). Dataset s j z) e there) skip.found in
          previous_no_head s sound m n x r o skip.next skip.previous skip.found (ap (λ (y : Row). y.kind) (sym same) ∙ is)

  pub snapshot_after : (k u : ℕ) → IsSnapshot t k u → IsSnapshot s k u
  snapshot_after k u (y, there, is) = let (_, (z, found, alike)) = skip.row_after k y there in (z, found, sym alike.kind ∙ is)

  snapshot_before : (k u : ℕ) → (k ≡ n → ⊥) → IsSnapshot s k u → IsSnapshot t k u
  snapshot_before k u far (z, there, is) = let (y, found, alike) = skip.row_before k z far there in (y, found, alike.kind ∙ is)

  -- no two datasets have the previous of one
  source_once : (k l : ℕ) (y w : Row) → Dataset t k y → Dataset t l w → (a : Source s t n m k y) (b : Source s t n m l w) → a.dataset ≡ b.dataset → k ≡ l
  source_once k l y w there beside a b same = go a.which b.which
    where
      go : ((k ≡ m) × (a.dataset ≡ n)) ⊎ ((k ≡ m → ⊥) × (a.dataset ≡ k)) → ((l ≡ m) × (b.dataset ≡ n)) ⊎ ((l ≡ m → ⊥) × (b.dataset ≡ l)) → k ≡ l
      go (inl (e, _)) (inl (f, _)) = e ∙ sym f
      go (inl (_, e)) (inr (_, f)) = absurd ((skip.row_after l w beside).0 (sym f ∙ sym same ∙ e))
      go (inr (_, e)) (inl (_, f)) = absurd ((skip.row_after k y there).0 (sym e ∙ same ∙ f))
      go (inr (_, e)) (inr (_, f)) = sym e ∙ same ∙ f

  -- families: the next has the snapshot's previous
  pub family_skipped : ((k : ℕ) → IsClone s n k → ⊥) → Family t
  family_skipped clones = record {
    head = λ k o y there is. (let (_, (z, found, alike)) = skip.row_after k y there in alike.owner ∙ sound.family.head k o z found (sym alike.kind ∙ is));
    owner = λ k y there.
        (let (_, (z, found, alike)) = skip.row_after k y there in
        let (o, head) = sound.family.owner k z found in
        (o, subst (λ (j : ℕ). IsHead t j o) (sym alike.owner) (head_before z.owner o head)));
    origin = λ k l is.
        (let head = head_after k (Some l) is in
        let (u, snapshot) = sound.family.origin k l head in
        (u, snapshot_before l u (λ e. clones k (subst (λ (j : ℕ). IsHead s k (Some j)) e head)) snapshot));
    previous = previous;
    within = within;
    first = λ k y there is.
        (let from = skip.source k y there in
        subst (λ (j : ℕ). IsHead t j None) from.owner (head_before from.row.owner None (sound.family.first from.dataset from.row from.found (from.previous ∙ is))));
    alone = λ k l y w there beside owners same.
        (let a = skip.source k y there in
        let b = skip.source l w beside in
        source_once k l y w there beside a b
        (sound.family.alone a.dataset b.dataset a.row b.row a.found b.found (a.owner ∙ owners ∙ sym b.owner) (a.previous ∙ same ∙ sym b.previous)));
    next = next;
  }
    where
      previous : (k l : ℕ) (y : Row) → Dataset t k y → y.previous ≡ Some l
          → (w : Row) × (u : ℕ) × Dataset t l w × (w.kind ≡ Snapshot u) × (w.height ≡ y.height) × (u < kind_stamp t.group y.kind)
      previous k l y there is =
          let from = skip.source k y there in
          let (z, u, found, kind, height, less) = sound.family.previous from.dataset l from.row from.found (from.previous ∙ is) in
          let (w, now, alike) = skip.row_before l z (from.other l is) found in
          let stamps : kind_stamp t.group y.kind ≡ kind_stamp s.group y.kind = ap (λ (g : ℕ). kind_stamp g y.kind) skip.group in
          (w, u, now, alike.kind ∙ kind, alike.height ∙ height ∙ from.height, omega (arith, from.no_younger))

      within : (k l : ℕ) (y w : Row) → Dataset t k y → Dataset t l w → y.previous ≡ Some l → (o : Option ℕ) → IsHead t y.owner o
          → ((w.owner ≡ y.owner) × (o ≡ Some l → ⊥)) ⊎ ((w.owner ≡ y.owner → ⊥) × (o ≡ Some l))
      within k l y w there beside is o head =
          go (sound.family.within from.dataset l from.row old.0 from.found old.1 (from.previous ∙ is) o
          (subst (λ (j : ℕ). IsHead s j o) (sym from.owner) (head_after y.owner o head)))
        where
          from : Source s t n m k y
          from = skip.source k y there

          old : (z : Row) × Dataset s l z × Alike z w
          old = (skip.row_after l w beside).1

          go : ((old.0.owner ≡ from.row.owner) × (o ≡ Some l → ⊥)) ⊎ ((old.0.owner ≡ from.row.owner → ⊥) × (o ≡ Some l))
              → ((w.owner ≡ y.owner) × (o ≡ Some l → ⊥)) ⊎ ((w.owner ≡ y.owner → ⊥) × (o ≡ Some l))
          go (inl (same, other)) = inl (old.2.owner ∙ same ∙ from.owner, other)
          go (inr (apart, origin)) = inr ((λ e. apart (sym old.2.owner ∙ e ∙ sym from.owner)), origin)

      next : (k u : ℕ) (y : Row) → Dataset t k y → y.kind ≡ Snapshot u → (l : ℕ) × (w : Row) × Dataset t l w × (w.previous ≡ Some k) × (w.owner ≡ y.owner)
      next k u y there is = go (skip.row_after k y there)
        where
          go : (k ≡ n → ⊥) × ((z : Row) × Dataset s k z × Alike z y) → (l : ℕ) × (w : Row) × Dataset t l w × (w.previous ≡ Some k) × (w.owner ≡ y.owner)
          go (far, (z, found, alike)) = by_whom (sound.family.next k u z found (sym alike.kind ∙ is))
            where
              by_whom : (l : ℕ) × (w : Row) × Dataset s l w × (w.previous ≡ Some k) × (w.owner ≡ z.owner)
                  → (l : ℕ) × (w : Row) × Dataset t l w × (w.previous ≡ Some k) × (w.owner ≡ y.owner)
              by_whom (l, w, at, previous, owner) = side (cases_eq l n) (cases_eq l m)
                where
                  row : (j : ℕ) → l ≡ j → Dataset s j w
                  row j e = subst (λ (i : ℕ). Dataset s i w) e at

                  side : (l ≡ n) ⊎ (l ≡ n → ⊥) → (l ≡ m) ⊎ (l ≡ m → ⊥) → (l : ℕ) × (w : Row) × Dataset t l w × (w.previous ≡ Some k) × (w.owner ≡ y.owner)
                  side (inl e) _ =
                      let same : r ≡ w = same_row r w skip.found (row n e) in (
                        m,
                        with_previous x r.previous c,
                        skip.now,
                        ap (λ (z : Row). z.previous) same ∙ previous,
                        skip.owner ∙ ap (λ (z : Row). z.owner) same ∙ owner ∙ sym alike.owner,
                      )
                  side (inr _) (inl e) =
                      let same : w ≡ x = same_row w x (row m e) skip.next in
                      let is : Some k ≡ Some n = sym previous ∙ ap (λ (z : Row). z.previous) same ∙ skip.previous in
                      absurd (far (cc))
                  side (inr apart) (inr past) = (l, w, skip.row_kept l w apart past at, previous, owner ∙ sym alike.owner)

  -- the pointers are those of the other datasets
  pub pointers_skipped : Pointers t
  pointers_skipped = record {
    inside = λ k d i q has. omega (arith, sound.pointers.inside k d i q (skip.after k d i q has).1, skip.size);
    births = λ k d i y q there has.
        (let (_, (z, found, alike)) = skip.row_after k y there in
        let (low, high) = sound.pointers.births k d i z q found (skip.after k d i q has).1 in
        let stamps : kind_stamp t.group y.kind ≡ kind_stamp s.group z.kind = cc (skip.group, alike.kind) in
        (low, omega arith));
    falls = λ k d i q p has up. sound.pointers.falls k d i q p (skip.after k (suc d) i q has).1 (skip.after k d (i / fan) p up).1;
    full = λ k d i y q there deep has.
        (let (far, (z, found, alike)) = skip.row_after k y there in
        let (j, p, up, below) = sound.pointers.full k d i z q found (omega (arith, alike.height)) (skip.after k d i q has).1 in
        (j, p, up, skip.kept k (suc d) j p far below));
  }

  -- a block stands at one place
  pub identity_skipped : Identity t
  identity_skipped k l d e i j q p has also = sound.identity k l d e i j q p (skip.after k d i q has).1 (skip.after l e j p also).1

  -- what is not younger than the previous stands in it too
  pub birth_law_skipped : BirthLaw t
  birth_law_skipped k d i y q there has old =
      let from = skip.source k y there in
      let (l, previous, up) =
      sound.birth_law from.dataset d i from.row q from.found (from.has d i q (skip.after k d i q has).1 old) (omega (arith, from.base_same)) in
      let is = sym from.previous ∙ previous in
      (l, is, skip.kept l d i q (from.other l is) up)

  -- what is young in a dataset was young in it, or in the snapshot and now in the next
  pub young_skipped : (k b : ℕ) → Young t k b → (k ≡ n → ⊥) × (Young s k b ⊎ ((k ≡ m) × Young s n b))
  young_skipped k b (y, q, there, (d, i, has), young, e) = (far, which from.which)
    where
      far : k ≡ n → ⊥
      far = (skip.row_after k y there).0

      was : Has s k d i q
      was = (skip.after k d i q has).1

      from : Source s t n m k y
      from = skip.source k y there

      which : ((k ≡ m) × (from.dataset ≡ n)) ⊎ ((k ≡ m → ⊥) × (from.dataset ≡ k)) → Young s k b ⊎ ((k ≡ m) × Young s n b)
      which (inr (_, is)) = inl (from.row, q, subst (λ (j : ℕ). Dataset s j from.row) is from.found, (d, i, was), omega (arith, from.base_same), e)
      which (inl (next, is)) = age (cases_lt (base s x) q.birth)
        where
          row : from.row ≡ r
          row = same_row from.row r (subst (λ (j : ℕ). Dataset s j from.row) is from.found) skip.found

          at : Has s m d i q
          at = subst (λ (j : ℕ). Has s j d i q) next was

          age : (base s x < q.birth) ⊎ (q.birth ≤ base s x) → Young s k b ⊎ ((k ≡ m) × Young s n b)
          age (inl newer) = inl (x, q, subst (λ (j : ℕ). Dataset s j x) (sym next) skip.next, (d, i, was), newer, e)
          age (inr older) = inr (next, (r, q, skip.found, (d, i, skip.shared d i q at older), omega (arith, from.base_same, ap (base s) row), e))

  -- a block is young in one dataset
  pub one_young_skipped : OneYoung t
  one_young_skipped k l b young also = go (young_skipped k b young) (young_skipped l b also)
    where
      go : (k ≡ n → ⊥) × (Young s k b ⊎ ((k ≡ m) × Young s n b)) → (l ≡ n → ⊥) × (Young s l b ⊎ ((l ≡ m) × Young s n b)) → k ≡ l
      go (_, inl a) (_, inl b') = sound.one_young k l b a b'
      go (far, inl a) (_, inr (_, b')) = absurd (far (sound.one_young k n b a b'))
      go (_, inr (_, a)) (far, inl b') = absurd (far (sound.one_young l n b b' a))
      go (_, inr (e, _)) (_, inr (f, _)) = e ∙ sym f
