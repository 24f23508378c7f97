-- Small pools of which a snapshot is destroyed.
--     small_destroy    it gives back all that was born in it, where its next counts as many blocks as its tree can have
use Rattle.std.proofs.Common.{◌≡◌, ℕ, ◌+◌, ◌-◌, ◌≤◌, true, ltb, ◌⊎◌, List, Some, Ok, Result, sym, refl, ap, ap₂, ◌∙◌, subst, inl, inr, arith}
use Rattle.std.specs.List.{AllByRecursion}
use Rattle.faults.specs.declared.Layer.{Layer}
use Rattle.blocks.specs.Sets.{count}
use Rattle.ordered.specs.Tables.{replaced, without_key}
use Rattle.records.specs.Keys.{number_of}
use Rattle.records.specs.declared.rows.Kind.TheVariants.{Head, Snapshot as OfSnapshot}
use Rattle.records.specs.declared.rows.Row.{Row}
use Rattle.model.specs.Datasets.{State, Dataset}
use Rattle.model.specs.Families.{IsClone}
use Rattle.model.specs.Histories.{done}
use Rattle.model.specs.Questions.{questions, AllYes}
use Rattle.model.specs.Soundness.{Sound}
use Rattle.model.specs.Steps.{Destroyed, Granted, Released, SnapshotDestroyed, Step, changed, given, taken, with_previous}
use Rattle.model.specs.declared.Answer.{Answer}
use Rattle.model.specs.declared.Answer.TheVariants.{Done}
use Rattle.model.specs.declared.Call.TheVariants.{Destroy}
use Rattle.model.proofs.Ancestors.{not_both}
use Rattle.model.proofs.Changes.{balances, born_most, given_born, none_taken}
use Rattle.model.proofs.Keeps.{steps_keep_sound}
use Rattle.model.proofs.Merges.{dead_fits_skipped}
use Rattle.model.proofs.Rows.{row_of, same_row, of_all}
use Rattle.model.proofs.Shares.{next_row}
use Rattle.model.proofs.Skipping.{skipped}
use Rattle.model.proofs.Skips.{Skipped}
use Rattle.model.proofs.Small.{Small, found}
use Rattle.model.proofs.Turns.{granted}

module _ {z s : State} {g w : ℕ} {rows : List Row} {owned dead : ℕ} (small : Small z s g w rows owned dead) where
  -- a snapshot without clones, whose next is full
  pub small_destroy : (n m : ℕ) {u : ℕ} {r x : Row} → row_of rows n ≡ Some r → r.kind ≡ OfSnapshot u → AllByRecursion (λ (y : Row). y.kind ≡ Head (Some n) → ⊥) rows
      → row_of rows m ≡ Some x → x.previous ≡ Some n → x.owner ≡ r.owner → x.height ≡ 1 → w ≤ x.born
      → (a : Result Answer Layer) (t : State) → Step s (Destroy n) a t
      → (a ≡ done 0 r.born) × Small z t g w (replaced number_of ltb (without_key number_of ltb rows n) (with_previous x r.previous x.born)) (owned - r.born) dead
  small_destroy n m {u} {r} {x} named kind no_clone beside previous owner low full a t step = go (granted s t (Destroy n) a asked step)
    where
      here : Dataset s n r
      here = found small n r named

      there : Dataset s m x
      there = found small m x beside

      clones : (k : ℕ) → IsClone s n k → ⊥
      clones k (y, at, is) = of_all (λ (y : Row). y.kind ≡ Head (Some n) → ⊥) rows k y no_clone (ap (λ xs. row_of xs k) (sym small.rows) ∙ at) is

      asked : AllYes (questions s (Destroy n))
      asked = (
        small.sound.shape.numbers n r here,
        ((r, here), (clones, ((λ k (o, (y, at, is), _). not_both r.kind o u (ap (λ (v : Row). v.kind) (same_row s.rows n r y here at) ∙ is) kind), tt))),
      )

      sound : Sound t
      sound = steps_keep_sound s (Destroy n) a t small.sound step

      Left : Type 0
      Left = (changed s t ≡ record { taken = 0; given = r.born })
          × Small z t g w (replaced number_of ltb (without_key number_of ltb rows n) (with_previous x r.previous x.born)) (owned - r.born) dead

      left : SnapshotDestroyed s t n r → Left
      left gone = (
        rw (takes, gives) refl,
        record {
          sound = sound;
          size = ap (λ (y : State). y.size) gone.rest ∙ small.size;
          row_room = ap (λ (y : State). y.row_room) gone.rest ∙ small.row_room;
          dead_room = ap (λ (y : State). y.dead_room) gone.rest ∙ small.dead_room;
          group = skip.group ∙ small.group;
          rows = ap (λ (y : State). y.rows) gone.rest
              ∙ ap₂ (λ xs (y : Row). replaced number_of ltb (without_key number_of ltb xs n) y) small.rows row_after;
          within = λ k d i q has. small.within k d i q (skip.after k d i q has).1;
          owned = omega (arith, balances s t, takes, gives, small.owned, ap (count t.owns) skip.size);
          dead = omega (arith, small.dead, dead_fits_skipped s t n gone.next r gone.row (gone.row.born + r.born - given s t) small.sound skip gone.dead);
        },
      )
        where
          skip : Skipped s t n gone.next r gone.row (gone.row.born + r.born - given s t)
          skip = skipped s t n r small.sound here clones gone

          is_next : gone.next ≡ m
          is_next =
              let (y, at, before, own) = next_row s n gone.next r small.sound here gone.is_next in
              small.sound.family.alone gone.next m y x at there (own ∙ sym owner) (before ∙ sym previous)

          row : gone.row ≡ x
          row = same_row s.rows m gone.row x (subst (λ (j : ℕ). Dataset s j gone.row) is_next gone.found) there

          takes : taken s t ≡ 0
          takes = none_taken s t (λ b own. was b ((gone.owned b).0 own))
            where
              was : (b : ℕ) → ⊥ ⊎ ((s.owns b ≡ true) × (Released s gone.next r b → ⊥)) → s.owns b ≡ true
              was b (inl never) = absurd never
              was b (inr (own, _)) = own

          most : gone.row.born + r.born - given s t ≤ w
          most = born_most t gone.next w _ sound skip.now (ap (λ (y : Row). y.height) row ∙ low) (λ d i q has. small.within gone.next d i q (skip.after gone.next d i q has).1)

          gives : given s t ≡ r.born
          gives =
              let born = given_born s t n r small.sound sound.owned here (λ k d i q has other. skip.kept k d i q other has) in
              omega (arith, most, ap (λ (y : Row). y.born) row)

          row_after : with_previous gone.row r.previous (gone.row.born + r.born - given s t) ≡ with_previous x r.previous x.born
          row_after =
              let born : gone.row.born + r.born - given s t ≡ x.born = omega (arith, gives, ap (λ (y : Row). y.born) row) in
              ap₂ (λ (y : Row) (b : ℕ). with_previous y r.previous b) row born

      go : (v : Answer) × (a ≡ Ok v) × Granted s (Destroy n) v t → (a ≡ done 0 r.born) × Small z t g w (replaced number_of ltb (without_key number_of ltb rows n) (with_previous x r.previous x.born)) (owned - r.born) dead
      go (v, e, (is, (y, at, gone))) =
          let same : Destroyed s t n r r.kind = subst (λ (y : Row). Destroyed s t n y y.kind) (same_row s.rows n y r at here) gone in
          let (counts, after) = left (subst (Destroyed s t n r) kind same) in
          (e ∙ ap Ok (is ∙ ap Done counts), after)
