-- Blocks and births after a path was replaced.
--     base_below         a previous is older than the group
--     identity_moved     a block stands at one place
--     birth_law_moved    what is not younger than the previous stands in it too
--     young_cases        a young block is a new one, or was young before
--     one_young_moved    a block is young in one dataset
use Rattle.std.proofs.Common.{◌≡◌, ℕ, ◌<◌, ◌≤◌, ◌⊎◌, Some, None, Option, sym, refl, ap, ◌∙◌, inl, inr, arith}
use Rattle.std.proofs.lemmas.Bool.{cases_lt}
use Rattle.records.specs.declared.rows.Pointer.{Pointer}
use Rattle.records.specs.declared.rows.Row.{Row}
use Rattle.tree.specs.Trees.{index_at}
use Rattle.model.specs.Datasets.{State, Dataset, kind_stamp, row_stamp, stamp, base, Has, Young}
use Rattle.model.specs.Soundness.{Sound, Identity, BirthLaw, OneYoung}
use Rattle.model.proofs.Moves.{Kin, Moved, new_pointer}
use Rattle.model.proofs.Places.{Place, row_of, off_new}

-- a previous is older than the group
pub base_below : (s : State) → Sound s → (m : ℕ) (y : Row) → Dataset s m y → base s y < s.group
unfolding base
base_below s sound m y here = go y.previous refl
  where
    go : (o : Option ℕ) → y.previous ≡ o → stamp s o < s.group
    go None e = omega (arith, sound.shape.group)
    go (Some m') e =
        let (x, t, there, kind, _, _) = sound.family.previous m m' y here e in
        let is : stamp s (Some m') ≡ t = ap (row_stamp s.group) there ∙ ap (kind_stamp s.group) kind in
        omega (arith, sound.shape.stamps m' t (x, there, kind))

module _ (s t : State) (n : ℕ) (r : Row) (p k : ℕ) (new : ℕ → ℕ) (sound : Sound s) (moved : Moved s t n r p k new) where
  -- two new blocks that are one stand at one depth
  new_once : (d e : ℕ) → d < k → e < k → new d ≡ new e → d ≡ e
  new_once d e deep short same = go (cases_lt d e) (cases_lt e d)
    where
      go : (d < e) ⊎ (e ≤ d) → (e < d) ⊎ (d ≤ e) → d ≡ e
      go (inl less) _ = absurd (moved.apart d e less short same)
      go (inr _) (inl more) = absurd (moved.apart e d more deep (sym same))
      go (inr low) (inr high) = omega arith

  -- one block, one place
  identity : (m l d e i j : ℕ) (q x : Pointer) → Place s n r p k new m d i q → Place s n r p k new l e j x → q.block ≡ x.block → (d ≡ e) × (i ≡ j) × (q ≡ x)
  identity m l d e i j q x (inl ((_, on), deep, is)) (inl ((_, on'), deep', is')) same =
      let blocks : new d ≡ new e = cc in
      let depth : d ≡ e = new_once d e deep deep' blocks in
      (depth, on ∙ ap (index_at r.height p) depth ∙ sym on', is ∙ ap (new_pointer s new) depth ∙ sym is')
  identity m l d e i j q x (inl (_, deep, is)) (inr (has, _)) same = absurd (off_new s t n r p k new sound moved l e j d x has deep (cc))
  identity m l d e i j q x (inr (has, _)) (inl (_, deep, is)) same = absurd (off_new s t n r p k new sound moved m d i e q has deep (cc))
  identity m l d e i j q x (inr (has, _)) (inr (has', _)) same = sound.identity m l d e i j q x has has' same

  -- a block stands at one place
  pub identity_moved : Identity t
  identity_moved m l d e i j q x has has' = identity m l d e i j q x (moved.after m d i q has) (moved.after l e j x has')

  -- the head is no previous
  not_previous : (m l : ℕ) (y : Row) → Dataset s m y → y.previous ≡ Some l → l ≡ n → ⊥
  not_previous m l y here previous is =
      let (x, g, there, kind, _, _) = sound.family.previous m l y here previous in
      let same : x ≡ r = row_of s n l r x moved.found is there in
      let no : ◌≡◌ {A = ℕ} 0 1 = cc moved.head in omega arith

  -- what is not younger than the previous is kept, and stands in it too
  birth_law : (m d i : ℕ) (x : Row) (q : Pointer) → Dataset t m x → Place s n r p k new m d i q → q.birth ≤ base t x → (l : ℕ) × (x.previous ≡ Some l) × Has t l d i q
  birth_law m d i x q here which old = go which (moved.row_after m x here)
    where
      go : Place s n r p k new m d i q → ((y : Row) × Dataset s m y × Kin y x) → (l : ℕ) × (x.previous ≡ Some l) × Has t l d i q
      go (inl (_, _, e)) (y, there, kin) =
          let born : q.birth ≡ s.group = ap (λ (x : Pointer). x.birth) e in
          absurd (omega (arith, base_below s sound m y there, moved.base_same x y kin.previous))
      go (inr (has, _)) (y, there, kin) =
          let (l, previous, up) = sound.birth_law m d i y q there has (omega (arith, moved.base_same x y kin.previous)) in
          (l, kin.previous ∙ previous, moved.kept l d i q up (λ on. not_previous m l y there previous on.0))

  -- the birth law stays
  pub birth_law_moved : BirthLaw t
  birth_law_moved m d i x q here has = birth_law m d i x q here (moved.after m d i q has)

  -- a young block is a new one, and young in the head, or it was young before
  pub young_cases : (m b : ℕ) → Young t m b → ((m ≡ n) × ((d : ℕ) × (d < k) × (b ≡ new d))) ⊎ Young s m b
  young_cases m b (x, q, here, (d, i, has), young, is) = go (moved.after m d i q has) (moved.row_after m x here)
    where
      go : Place s n r p k new m d i q → ((y : Row) × Dataset s m y × Kin y x) → ((m ≡ n) × ((d : ℕ) × (d < k) × (b ≡ new d))) ⊎ Young s m b
      go (inl ((on, _), deep, e)) _ = inl (on, (d, deep, cc))
      go (inr (has, _)) (y, there, kin) = inr (y, q, there, (d, i, has), omega (arith, moved.base_same x y kin.previous), is)

  -- a new block was not young
  not_young : (m b d : ℕ) → Young s m b → d < k → b ≡ new d → ⊥
  not_young m b d (_, q, _, (e, i, has), _, is) deep same = off_new s t n r p k new sound moved m e i d q has deep (is ∙ same)

  -- a block is young in one dataset
  pub one_young_moved : OneYoung t
  one_young_moved m l b young young' = go (young_cases m b young) (young_cases l b young')
    where
      go : ((m ≡ n) × ((d : ℕ) × (d < k) × (b ≡ new d))) ⊎ Young s m b → ((l ≡ n) × ((d : ℕ) × (d < k) × (b ≡ new d))) ⊎ Young s l b → m ≡ l
      go (inl (is, _)) (inl (is', _)) = is ∙ sym is'
      go (inl (_, (d, deep, e))) (inr old) = absurd (not_young l b d old deep e)
      go (inr old) (inl (_, (d, deep, e))) = absurd (not_young m b d old deep e)
      go (inr old) (inr old') = sound.one_young m l b old old'
