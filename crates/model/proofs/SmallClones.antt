-- Small pools with a snapshot and its clone.
--     small_read      what a read answers
--     small_shared    unique is refused of a snapshot with a clone
--     small_alone     of a snapshot without clones it answers all that was born in it, where its next is full
--     small_leave     a head without snapshots of its own gives back all that was born in it
use Rattle.std.proofs.Common.{◌≡◌, ℕ, ◌+◌, ◌-◌, ◌^◌, ◌<◌, ◌≤◌, true, false, ltb, not, ◌&&◌, ◌⊎◌, List, [], ◌∷◌, Some, Ok, Err, Option, Result, sym, refl, ap, ◌∙◌, subst, inl, inr, arith}
use Rattle.std.specs.List.{AllByRecursion}
use Rattle.std.proofs.lemmas.Bool.{cases_Bool, both_ways, and_parts, and_from, not-true, not_from_false}
use Rattle.faults.specs.declared.Layer.{Layer}
use Rattle.faults.specs.declared.Layer.TheVariants.{Pool}
use Rattle.faults.specs.declared.PoolCause.TheVariants.{HasClones}
use Rattle.blocks.specs.Sets.{count}
use Rattle.ordered.specs.Tables.{without_key}
use Rattle.records.specs.Keys.{number_of}
use Rattle.records.specs.declared.rows.Kind.TheVariants.{Head}
use Rattle.records.specs.declared.rows.Row.{Row}
use Rattle.tree.specs.Trees.{fan}
use Rattle.model.specs.Datasets.{State, Dataset, Has, Previous, Reaches, Young, reads}
use Rattle.model.specs.Families.{IsClone, OwnSnapshot, Next}
use Rattle.model.specs.Figures.{HowMany, Only, UniqueIs}
use Rattle.model.specs.Histories.{done}
use Rattle.model.specs.Questions.{AllYes, numbered, exists, no_clones}
use Rattle.model.specs.Soundness.{Sound}
use Rattle.model.specs.Steps.{Destroyed, Granted, HeadDestroyed, Step, changed, given, taken}
use Rattle.model.specs.declared.Answer.{Answer}
use Rattle.model.specs.declared.Answer.TheVariants.{Done, Bytes, Count}
use Rattle.model.specs.declared.Call.TheVariants.{Destroy, Read, Unique}
use Rattle.model.proofs.Ancestors.{only_young, previous_other, young_through}
use Rattle.model.proofs.Borns.{young_reached}
use Rattle.model.proofs.Changes.{balances, none_taken, reached_most}
use Rattle.model.proofs.Figures.{is_next, own_snapshots}
use Rattle.model.proofs.Heads.{fewer, place_old}
use Rattle.model.proofs.Keeps.{steps_keep_sound}
use Rattle.model.proofs.Rows.{row_of, same_row, of_all}
use Rattle.model.proofs.Shares.{next_only}
use Rattle.model.proofs.Small.{Small, found}
use Rattle.model.proofs.Sums.{alike, both, one_count, single}
use Rattle.model.proofs.Turns.{first_refused, granted}

module _ {z s : State} {g w : ℕ} {rows : List Row} {owned dead : ℕ} (small : Small z s g w rows owned dead) (n : ℕ) {r : Row} (named : row_of rows n ≡ Some r) where
  here : Dataset s n r
  here = found small n r named

  number : AllYes (numbered n ∷ exists s n ∷ [])
  number = (small.sound.shape.numbers n r here, ((r, here), tt))

  -- no named row is a clone
  no_clone : AllByRecursion (λ (y : Row). y.kind ≡ Head (Some n) → ⊥) rows → (k : ℕ) → IsClone s n k → ⊥
  no_clone others k (y, at, is) = of_all (λ (y : Row). y.kind ≡ Head (Some n) → ⊥) rows k y others (ap (λ xs. row_of xs k) (sym small.rows) ∙ at) is

  -- a read answers what stands at the position
  pub small_read : (p : ℕ) → p < fan ^ r.height → (a : Result Answer Layer) (t : State) → Step s (Read n p) a t
      → (a ≡ Ok (Bytes (reads s n p))) × Small z t g w rows owned dead
  small_read p wide a t step =
      let (x, e, (is, same)) = granted s t (Read n p) a (number.0, (number.1.0, ((r, here, wide), tt))) step in
      (e ∙ ap Ok is, subst (λ (y : State). Small z y g w rows owned dead) (sym same) small)

  -- a snapshot with a clone is not asked
  pub small_shared : (m : ℕ) {x : Row} → row_of rows m ≡ Some x → x.kind ≡ Head (Some n) → (a : Result Answer Layer) (t : State) → Step s (Unique n) a t
      → (a ≡ Err (Pool HasClones)) × Small z t g w rows owned dead
  small_shared m {x} beside kind a t step = go a step
    where
      cloned : ((k : ℕ) → IsClone s n k → ⊥) → ⊥
      cloned none = none m (x, found small m x beside, kind)

      go : (a : Result Answer Layer) → Step s (Unique n) a t → (a ≡ Err (Pool HasClones)) × Small z t g w rows owned dead
      go (Ok y) (asked, _) = absurd (cloned asked.1.1.0)
      go (Err l) (first, same) = (
        ap Err (first_refused (numbered n ∷ exists s n ∷ []) (no_clones s n) [] l number cloned first),
        subst (λ (y : State). Small z y g w rows owned dead) (sym same) small,
      )

  -- a snapshot without clones, whose next is full, shares nothing that was born in it
  pub small_alone : (m : ℕ) {x : Row} → AllByRecursion (λ (y : Row). y.kind ≡ Head (Some n) → ⊥) rows
      → row_of rows m ≡ Some x → x.previous ≡ Some n → x.owner ≡ r.owner → x.height ≡ 1 → w ≤ x.born
      → (a : Result Answer Layer) (t : State) → Step s (Unique n) a t → (a ≡ Ok (Count r.born)) × Small z t g w rows owned dead
  small_alone m {x} others beside previous owner low full a t step =
      let (_, e, ((k, is, unique), same)) = granted s t (Unique n) a (number.0, (number.1.0, (clones, tt))) step in
      (e ∙ ap Ok (is ∙ ap Count (one_count (Only s n) s.size k r.born unique counted)), subst (λ (y : State). Small z y g w rows owned dead) (sym same) small)
    where
      clones : (k : ℕ) → IsClone s n k → ⊥
      clones = no_clone others

      there : Dataset s m x
      there = found small m x beside

      next : Next s n m
      next = is_next s n m r x small.sound here there previous owner

      -- what the next reaches is young in it: else it had a block too many
      apart : (b : ℕ) → Young s n b → Reaches s m b → ⊥
      apart b young reach =
          omega (
            arith,
            reached_most s m w (x.born + 1) x (λ c. Young s m c ⊎ (b ≡ c)) there low (λ d i q has. small.within m d i q has) reaches
                (both (Young s m) (λ c. b ≡ c) s.size x.born 1 other (small.sound.born m x there) (single b s.size below)),
          )
        where
          below : b < s.size
          below = small.sound.shape.below b ((small.sound.owned b).1 (young_reached s n b young))

          reaches : (c : ℕ) → Young s m c ⊎ (b ≡ c) → Reaches s m c
          reaches c (inl (_, q, _, points, _, e)) = (q, points, e)
          reaches c (inr is) = subst (Reaches s m) is reach

          other : (c : ℕ) → Young s m c → b ≡ c → ⊥
          other c also is = previous_other s small.sound m n (x, there, previous) (small.sound.one_young n m c (subst (Young s n) is young) also)

      alone : (b : ℕ) → Young s n b → Only s n b
      alone b young = (reached young, λ k reach. go k (young_through s small.sound n b young k reach))
        where
          reached : Young s n b → Reaches s n b
          reached (_, q, _, points, _, e) = (q, points, e)

          go : (k : ℕ) → (k ≡ n) ⊎ ((j : ℕ) × Previous s j n × Reaches s j b) → k ≡ n
          go k (inl is) = is
          go k (inr (j, at, reach)) = absurd (apart b young (subst (λ (i : ℕ). Reaches s i b) (next_only s n m r small.sound here next clones j at) reach))

      counted : UniqueIs s n r.born
      counted = alike (Young s n) (Only s n) s.size r.born (λ b _. (alone b, only_young s small.sound n b)) (small.sound.born n r here)

  -- a head that nothing belongs to but itself
  pub small_leave : {o : Option ℕ} → r.kind ≡ Head o → r.previous ≡ o → AllByRecursion (λ (y : Row). y.kind ≡ Head (Some n) → ⊥) rows
      → (a : Result Answer Layer) (t : State) → Step s (Destroy n) a t
      → (a ≡ done 0 r.born) × Small z t g w (without_key number_of ltb rows n) (owned - r.born) dead
  small_leave {o} kind previous others a t step = go (granted s t (Destroy n) a (number.0, (number.1.0, (no_clone others, (none, tt)))) step)
    where
      none : (k : ℕ) → OwnSnapshot s n k → ⊥
      none = (own_snapshots s n r o small.sound here kind).0 previous

      sound : Sound t
      sound = steps_keep_sound s (Destroy n) a t small.sound step

      left : HeadDestroyed s t n → (changed s t ≡ record { taken = 0; given = r.born }) × Small z t g w (without_key number_of ltb rows n) (owned - r.born) dead
      left gone = (
        rw (takes, gives) refl,
        record {
          sound = sound;
          size = ap (λ (y : State). y.size) gone.rest ∙ small.size;
          row_room = ap (λ (y : State). y.row_room) gone.rest ∙ small.row_room;
          dead_room = ap (λ (y : State). y.dead_room) gone.rest ∙ small.dead_room;
          group = ap (λ (y : State). y.group) gone.rest ∙ small.group;
          rows = ap (λ (y : State). y.rows) gone.rest ∙ ap (λ xs. without_key number_of ltb xs n) small.rows;
          within = λ k d i q has.
              small.within k d i q (place_old s t n r o small.sound here kind none gone k d i q (subst (λ (y : State). Has y k d i q) gone.rest has));
          owned = omega (arith, balances s t, takes, gives, small.owned, ap (count t.owns) (ap (λ (y : State). y.size) gone.rest));
          dead = omega (arith, small.dead, fewer s t n r o small.sound here kind none gone);
        },
      )
        where
          kept : (b : ℕ) → t.owns b ≡ true → (s.owns b ≡ true) × (Young s n b → ⊥)
          kept b own = by ((gone.owned b).0 own)
            where
              by : ⊥ ⊎ ((s.owns b ≡ true) × (Young s n b → ⊥)) → (s.owns b ≡ true) × (Young s n b → ⊥)
              by (inl never) = absurd never
              by (inr was) = was

          takes : taken s t ≡ 0
          takes = none_taken s t (λ b own. (kept b own).0)

          young : HowMany (Young s n) s.size r.born
          young = small.sound.born n r here

          gone_young : (b : ℕ) → b < s.size → (s.owns b && not (t.owns b)) ≡ true → Young s n b
          gone_young b less is = by (cases_Bool (young.test b))
            where
              parts : (s.owns b ≡ true) × (not (t.owns b) ≡ true)
              parts = and_parts (s.owns b) (not (t.owns b)) is

              by : (young.test b ≡ true) ⊎ (young.test b ≡ false) → Young s n b
              by (inl is) = (young.tells b less).0 is
              by (inr old) =
                  absurd (both_ways (t.owns b) (not-true (t.owns b) parts.1) ((gone.owned b).1 (inr (parts.0, λ mine. both_ways (young.test b) old ((young.tells b less).1 mine)))))

          young_gone : (b : ℕ) → Young s n b → (s.owns b && not (t.owns b)) ≡ true
          young_gone b mine = and_from (s.owns b) (not (t.owns b)) ((small.sound.owned b).1 (young_reached s n b mine)) (by (cases_Bool (t.owns b)))
            where
              by : (t.owns b ≡ true) ⊎ (t.owns b ≡ false) → not (t.owns b) ≡ true
              by (inl own) = absurd ((kept b own).1 mine)
              by (inr free) = not_from_false (t.owns b) free

          gives : given s t ≡ r.born
          gives =
              one_count (Young s n) s.size (given s t) r.born
              (record { test = λ b. s.owns b && not (t.owns b); tells = λ b less. (gone_young b less, young_gone b); counted = refl }) young

      go : (v : Answer) × (a ≡ Ok v) × Granted s (Destroy n) v t → (a ≡ done 0 r.born) × Small z t g w (without_key number_of ltb rows n) (owned - r.born) dead
      go (v, e, (is, (y, at, gone))) =
          let same : Destroyed s t n r r.kind = subst (λ (y : Row). Destroyed s t n y y.kind) (same_row s.rows n y r at here) gone in
          let (counts, after) = left (subst (Destroyed s t n r) kind same) in
          (e ∙ ap Ok (is ∙ ap Done counts), after)
