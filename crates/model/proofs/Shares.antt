-- A snapshot and its next: which blocks nobody but the snapshot reaches.
--     next_row     the next has the snapshot as previous, and its owner
--     next_only    without clones, no other dataset has it as previous
--     only_dead    what only the snapshot reaches are the blocks of the next's dead list younger than the snapshot's previous
use Rattle.std.proofs.Common.{◌≡◌, ℕ, ◌<◌, ◌⊎◌, ◌↔◌, Some, Option, sym, refl, ap, ◌∙◌, subst, inl, inr}
use Rattle.records.specs.declared.rows.Kind.TheVariants.{Head}
use Rattle.records.specs.declared.rows.Pointer.{Pointer}
use Rattle.records.specs.declared.rows.Row.{Row}
use Rattle.model.specs.Datasets.{State, Dataset, IsHead, Previous, base, Points, Reaches, Buried}
use Rattle.model.specs.Families.{Next, IsClone}
use Rattle.model.specs.Figures.{Only}
use Rattle.model.specs.Soundness.{Sound}
use Rattle.model.proofs.Ancestors.{same_row, previous_other, young_through, only_young}
use Rattle.model.proofs.Systems.{owners_tell}

module _ (s : State) (n m : ℕ) (r : Row) (sound : Sound s) (here : Dataset s n r) (next : Next s n m) where
  -- the next has the snapshot as previous, and its owner
  pub next_row : (x : Row) × Dataset s m x × (x.previous ≡ Some n) × (x.owner ≡ r.owner)
  next_row =
      let (h, mine, beside, (x, there, previous)) = next in
      let owner = (owners_tell s h beside.0 sound beside.1 m x there).1 beside in
      let same = (owners_tell s h mine.0 sound mine.1 n r here).1 mine in
      (x, there, previous, owner ∙ sym same)

  -- the snapshot is the next's only previous
  pub previous_only : (k : ℕ) → Previous s m k → k ≡ n
  previous_only k (x, there, previous) =
      let (y, found, e, _) = next_row in
      let same : x ≡ y = same_row x y there found in
      let is : Some k ≡ Some n = sym previous ∙ ap (λ (z : Row). z.previous) same ∙ e in
      cc

  -- without clones, no other dataset has it as previous
  pub next_only : ((k : ℕ) → IsClone s n k → ⊥) → (k : ℕ) → Previous s k n → k ≡ m
  next_only none k (y, there, previous) = go (sound.family.owner k y there)
    where
      go : (o : Option ℕ) × IsHead s y.owner o → k ≡ m
      go (o, head) = side (sound.family.within k n y r there here previous o head)
        where
          side : ((r.owner ≡ y.owner) × (o ≡ Some n → ⊥)) ⊎ ((r.owner ≡ y.owner → ⊥) × (o ≡ Some n)) → k ≡ m
          side (inl (same, _)) =
              let (x, found, e, owner) = next_row in
              sound.family.alone k m y x there found (sym same ∙ sym owner) (previous ∙ sym e)
          side (inr (_, origin)) = absurd (none y.owner (head.0, head.1, head.2 ∙ ap Head origin))

  -- what the next's dead list has, younger than the snapshot's previous, only the snapshot reaches
  dead_alone : ((k : ℕ) → IsClone s n k → ⊥) → (q : Pointer) → Buried s m q → base s r < q.birth → Only s n q.block
  dead_alone none q buried young = ((q, points, refl), λ k reach. go k (young_through s sound n q.block (r, q, here, points, young, refl) k reach))
    where
      dead : (a : ℕ) × Previous s m a × Points s a q × (Reaches s m q.block → ⊥)
      dead = (sound.dead m q).0 buried

      points : Points s n q
      points = subst (λ (a : ℕ). Points s a q) (previous_only dead.0 dead.1) dead.2

      go : (k : ℕ) → (k ≡ n) ⊎ ((j : ℕ) × Previous s j n × Reaches s j q.block) → k ≡ n
      go k (inl is) = is
      go k (inr (j, previous, reach)) = absurd (dead.3 (subst (λ (z : ℕ). Reaches s z q.block) (next_only none j previous) reach))

  -- what only the snapshot reaches is in the dead list of the next
  only_buried : (q : Pointer) → Points s n q → Only s n q.block → Buried s m q
  only_buried q points (_, only) =
      let (x, there, previous, _) = next_row in
      (sound.dead m q).1 (n, (x, there, previous), points, λ reach. previous_other s sound m n (x, there, previous) (sym (only m reach)))

  -- what only the snapshot reaches are the blocks of the next's dead list that are younger than its previous
  pub only_dead : ((k : ℕ) → IsClone s n k → ⊥) → (b : ℕ) → ((q : Pointer) × Buried s m q × (base s r < q.birth) × (q.block ≡ b)) ↔ Only s n b
  only_dead none b = (
    (λ (q, buried, young, e). subst (Only s n) e (dead_alone none q buried young)),
    (λ only. (let (x, q, there, points, young, e) = only_young s sound n b only in
        let mine : Only s n q.block = subst (Only s n) (sym e) only in
        (q, only_buried q points mine, subst (λ (z : Row). base s z < q.birth) (same_row x r there here) young, e))),
  )
