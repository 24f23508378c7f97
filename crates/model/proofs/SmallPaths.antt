-- Small pools whose paths are replaced.
--     few_sink, none_sink    at most two pointers sink, and none where there is no previous
--     Bounds                 what bounds a path, and what it gives back
--     small_path             what a replaced path answers and leaves
--     small_write            what a write answers and leaves
--     small_rewrite          a write at position 0 of a tree without others
--     small_short            a write with too few free blocks
--     small_discard          what a discard of data answers and leaves
use Rattle.std.proofs.Common.{◌≡◌, ℕ, zero, suc, ◌+◌, ◌-◌, ◌^◌, ◌<◌, ◌≤◌, not, ltb, leb, ◌⊎◌, List, [], ◌∷◌, length, Some, None, Ok, Err, Option, Result, sym, refl, ap, ap₂, ◌∙◌, subst, inl, inr, arith, Bor, length-append}
use Rattle.std.proofs.lemmas.List.Filters.{length-filter_both}
use Rattle.faults.specs.declared.Layer.{Layer}
use Rattle.faults.specs.declared.Layer.TheVariants.{Memory}
use Rattle.faults.specs.declared.MemoryCause.TheVariants.{BlocksShort}
use Rattle.blocks.specs.Sets.{count}
use Rattle.ordered.specs.Tables.{replaced}
use Rattle.records.specs.Keys.{number_of}
use Rattle.records.specs.declared.rows.Kind.TheVariants.{Head}
use Rattle.records.specs.declared.rows.Pointer.{Pointer}
use Rattle.records.specs.declared.rows.Row.{Row}
use Rattle.tree.specs.Trees.{fan, index_at}
use Rattle.tree.specs.Paths.{Stay, new_at, filled}
use Rattle.tree.proofs.Places.{index_wide}
use Rattle.model.specs.Datasets.{State, Dataset, Has, Position, base, free}
use Rattle.model.specs.Histories.{Fits, done}
use Rattle.model.specs.Paths.{Hole, Leaves, path_of, listed, pointers, sinking}
use Rattle.model.specs.Questions.{Question, questions, AllYes, numbered, exists, head, in_range, free_blocks, dead_fits, WriteTakes, WriteSinks, DiscardTakes, DiscardSinks}
use Rattle.model.specs.Soundness.{Sound}
use Rattle.model.specs.Steps.{Granted, Replaced, Step, changed, given, taken, with_root}
use Rattle.model.specs.declared.Answer.{Answer}
use Rattle.model.specs.declared.Answer.TheVariants.{Done}
use Rattle.model.specs.declared.Call.TheVariants.{Write, Discard}
use Rattle.model.proofs.Ancestors.{base_none}
use Rattle.model.proofs.Changes.{balances, born_most, given_born, path_taken, path_given}
use Rattle.model.proofs.Deads.{dead_length_moved, in_sinks}
use Rattle.model.proofs.Keeps.{steps_keep_sound}
use Rattle.model.proofs.Members.{In}
use Rattle.model.proofs.Moves.{On, Moved, new_pointer}
use Rattle.model.proofs.Readings.{stay_most, write_moved, discard_moved}
use Rattle.model.proofs.Rows.{row_of, same_row}
use Rattle.model.proofs.Small.{Small, found}
use Rattle.model.proofs.Turns.{first_refused, granted}

-- in a tree of height 1 the place of the path at depth d is one of the first
slot : (h p d : ℕ) → h ≡ 1 → p < fan → d ≤ h → d + index_at h p d ≤ suc p
slot h p d one small deep = subst (λ (j : ℕ). d + index_at j p d ≤ suc p) (sym one) (go d (omega arith))
  where
    go : (d : ℕ) → d ≤ 1 → d + index_at 1 p d ≤ suc p
    go zero low = omega arith
    go (suc zero) low = omega arith
    go (suc (suc d)) low = absurd (omega arith)

-- so many pointers are there at most
pointers_most : (f : ℕ → Option Pointer) (k : ℕ) → length (pointers f k) ≤ k
unfolding pointers
pointers_most f zero = omega arith
pointers_most f (suc k) = omega (arith, length-append (pointers f k) (listed (f k)), one (f k), pointers_most f k)
  where
    one : (o : Option Pointer) → length (listed o) ≤ 1
    one None = omega arith
    one (Some q) = omega arith

module _ {z s : State} {g w : ℕ} {rows : List Row} {owned dead : ℕ} (small : Small z s g w rows owned dead)
    (n : ℕ) {r : Row} {o : Option ℕ} (named : row_of rows n ≡ Some r) (low : r.height ≡ 1) (kind : r.kind ≡ Head o) where
  -- the head has its row, and its positions are those of height 1
  here : Dataset s n r
  here = found small n r named

  wide : (p : ℕ) → p < fan → p < fan ^ r.height
  wide p position = omega (arith, ap (λ (h : ℕ). fan ^ h) low)

  -- the path has places of the tree
  leaves_has : (p : ℕ) (q : Pointer) → p < fan → (l : Leaves s r p q) → Has s n l.0 (index_at r.height p l.0) q
  leaves_has p q position (d, deep, is) =
      record { row = r; found = here; holds = record { deep = deep; wide = index_wide r.height p d (wide p position) deep; here = is } }

  -- at most two pointers sink
  pub few_sink : (p : ℕ) → length (sinking s r p) ≤ 2
  few_sink p =
      let test = λ (q : Pointer). leb q.birth (base s r) in
      let old = pointers (path_of s r p) (suc r.height) in
      omega (arith, length-filter_both test (λ q. not (test q)) (λ q. refl) old, pointers_most (path_of s r p) (suc r.height))

  -- and none where there is no previous
  pub none_sink : (p : ℕ) → p < fan → r.previous ≡ None → length (sinking s r p) ≤ 0
  none_sink p position first = go (sinking s r p) (in_sinks s r p)
    where
      go : (qs : List Pointer) → ((q : Pointer) → In q qs → Leaves s r p q × (q.birth ≤ base s r)) → length qs ≤ 0
      go [] sinks = omega arith
      go (q ∷ qs) sinks =
          let (leaves, old) = sinks q (inl refl) in
          let born = small.sound.pointers.births n leaves.0 (index_at r.height p leaves.0) r q here (leaves_has p q position leaves) in
          absurd (omega (arith, base_none s r first, born.0))

  -- the path to a position past the places has no pointer but the root
  pub only_root : (p : ℕ) → p < fan → w ≤ suc p → (q : Pointer) (l : Leaves s r p q) → l.0 < 1
  only_root p position past q l = go l.0 l.1 (small.within n l.0 (index_at r.height p l.0) q (leaves_has p q position l))
    where
      go : (d : ℕ) → d ≤ r.height → d + index_at r.height p d < w → d < 1
      go zero deep within = omega arith
      go (suc zero) deep within =
          let last : index_at r.height p 1 ≡ p = subst (λ (h : ℕ). index_at h p 1 ≡ p) (sym low) (omega arith) in
          absurd (omega arith)
      go (suc (suc d)) deep within = absurd (omega arith)

  -- The path to p is replaced by k new blocks. The first v places are all that there are then, e pointers sink at most, and the
  -- old path has at most j pointers; so c blocks are given back.
  pub record Bounds (p k v j e c : ℕ) : Type 0 where
    pub new : (d : ℕ) → d < k → d + index_at r.height p d < v
    pub old : (m d i : ℕ) (q : Pointer) → Has s m d i q → (On n r p m d i → ⊥) → d + i < v
    pub short : (q : Pointer) (l : Leaves s r p q) → l.0 < j
    pub sinks : length (sinking s r p) ≤ e
    pub fits : dead + e ≤ z.dead_room
    -- at most what was born, and at most the old path; at most v blocks are left
    pub exact : (x : ℕ) → x ≤ r.born → x ≤ j → r.born + k - x ≤ v → x ≡ c

  -- the head with another root, and k blocks taken and c given back
  abbrev pub Exchanged : State → ℕ → ℕ → ℕ → ℕ → Type 0
  Exchanged t k v e c = (root : Option Pointer) × Small z t g v (replaced number_of ltb rows (with_root r root (r.born + k - c))) (owned + k - c) (dead + e)

  -- what a replaced path answers and leaves
  small_path : (t : State) (p k v j e c : ℕ) (bytes : List ℕ) → Bounds p k v j e c → Sound t → (rep : Replaced s t n r p k bytes) → Moved s t n r p k rep.new
      → (changed s t ≡ record { taken = k; given = c }) × Exchanged t k v e c
  small_path t p k v j e c bytes bounds sound rep moved = (rw (takes, gives) refl, (new_at rep.new s.group k 0, after))
    where
      takes : taken s t ≡ k
      takes = path_taken s t n r p k bytes small.sound rep moved

      within : (m d i : ℕ) (q : Pointer) → Has t m d i q → d + i < v
      within m d i q has = go (moved.after m d i q has)
        where
          go : (On n r p m d i × (d < k) × (q ≡ new_pointer s rep.new d)) ⊎ (Has s m d i q × (On n r p m d i → ⊥)) → d + i < v
          go (inl ((_, on), less, _)) = omega (arith, bounds.new d less)
          go (inr (was, off)) = bounds.old m d i q was off

      born : given s t ≤ r.born
      born = given_born s t n r small.sound sound.owned here (λ m d i q has other. moved.kept m d i q has (λ on. other on.0))

      gives : given s t ≡ c
      gives =
          let few = path_given s t n r p k bytes small.sound rep moved j bounds.short in
          let left = born_most t n v _ sound moved.row_new low (within n) in
          bounds.exact (given s t) born few (omega (arith, left, takes))

      rows_after : t.rows ≡ replaced number_of ltb rows (with_root r (new_at rep.new s.group k 0) (r.born + k - c))
      rows_after = rep.rows ∙ ap₂ (λ xs (b : ℕ). replaced number_of ltb xs (with_root r (new_at rep.new s.group k 0) b)) small.rows (rw (takes, gives) refl)

      after : Small z t g v (replaced number_of ltb rows (with_root r (new_at rep.new s.group k 0) (r.born + k - c))) (owned + k - c) (dead + e)
      after = record {
        sound = sound;
        size = rep.size ∙ small.size;
        row_room = rep.row_room ∙ small.row_room;
        dead_room = rep.dead_room ∙ small.dead_room;
        group = rep.group ∙ small.group;
        rows = rows_after;
        within = within;
        owned = omega (arith, balances s t, takes, gives, small.owned, ap (count t.owns) rep.size);
        dead = omega (arith, dead_length_moved s t n r p k bytes small.sound rep moved, small.dead, bounds.sinks);
      }

  -- what a write answers and leaves
  pub small_write : (p v j e c : ℕ) (text : Bor (List ℕ)) → Fits text → p < fan → Bounds p 2 v j e c → owned + 2 ≤ z.size
      → (a : Result Answer Layer) (t : State) → Step s (Write n p text) a t → (a ≡ done 2 c) × Exchanged t 2 v e c
  small_write p v j e c text fits position bounds blocks a t step = go (granted s t (Write n p text) a asked step)
    where
      two : suc r.height ≡ 2
      two = omega arith

      spare : (y : Row) × (k : ℕ) × Dataset s n y × (k ≡ suc y.height) × (k ≤ free s)
      spare = (r, suc r.height, here, refl, omega (arith, small.size, small.owned))

      room : (y : Row) × (k : ℕ) × Dataset s n y × (k ≡ length (sinking s y p)) × (length s.dead + k ≤ s.dead_room)
      room = (r, length (sinking s r p), here, refl, omega (arith, small.dead, small.dead_room, bounds.sinks, bounds.fits))

      asked : AllYes (questions s (Write n p text))
      asked = (small.sound.shape.numbers n r here, ((r, here), ((o, (r, here, kind)), (((r, here, wide p position), fits), (spare, (room, tt))))))

      left : Replaced s t n r p (suc r.height) (filled text.now) → (changed s t ≡ record { taken = suc r.height; given = c }) × Exchanged t (suc r.height) v e c
      left rep =
          small_path t p (suc r.height) v j e c (filled text.now) (subst (λ (k : ℕ). Bounds p k v j e c) (sym two) bounds)
          (steps_keep_sound s (Write n p text) a t small.sound step) rep (write_moved s t n p text r small.sound here asked rep)

      go : (x : Answer) × (a ≡ Ok x) × Granted s (Write n p text) x t → (a ≡ done 2 c) × Exchanged t 2 v e c
      go (x, is, (answer, (y, there, rep))) =
          let same = subst (λ (y : Row). Replaced s t n y p (suc y.height) (filled text.now)) (same_row s.rows n y r there here) rep in
          let (counts, after) = subst (λ (k : ℕ). (changed s t ≡ record { taken = k; given = c }) × Exchanged t k v e c) two (left same) in
          (is ∙ ap Ok (answer ∙ ap Done counts), after)

  -- a write at position 0 of a tree without others gives back all that was born since the previous
  pub small_rewrite : (e : ℕ) (text : Bor (List ℕ)) → Fits text → w ≤ 2 → length (sinking s r 0) ≤ e → owned + 2 ≤ z.size → dead + e ≤ z.dead_room
      → (a : Result Answer Layer) (t : State) → Step s (Write n 0 text) a t
      → (a ≡ done 2 r.born) × ((root : Option Pointer) × Small z t g 2 (replaced number_of ltb rows (with_root r root 2)) (owned + 2 - r.born) (dead + e))
  small_rewrite e text fits narrow sinks blocks buried a t step =
      let (is, (root, left)) = small_write 0 2 2 e r.born text fits (omega arith) bounds blocks a t step in
      let born : r.born + 2 - r.born ≡ 2 = omega arith in
      (is, (root, subst (λ (b : ℕ). Small z t g 2 (replaced number_of ltb rows (with_root r root b)) (owned + 2 - r.born) (dead + e)) born left))
    where
      bounds : Bounds 0 2 2 2 e r.born
      bounds = record {
        new = λ d less. omega (arith, slot r.height 0 d low (omega arith) (omega arith));
        old = λ m d i q has _. omega (arith, small.within m d i q has);
        short = λ q l. omega (arith, l.1);
        sinks = sinks;
        fits = buried;
        exact = λ x most few least. omega arith;
      }

  -- a write with too few free blocks is refused
  pub small_short : (p : ℕ) (text : Bor (List ℕ)) → Fits text → p < fan → z.size < owned + 2
      → (a : Result Answer Layer) (t : State) → Step s (Write n p text) a t → (a ≡ Err (Memory BlocksShort)) × Small z t g w rows owned dead
  small_short p text fits position short a t step = go a step
    where
      before : List Question
      before = numbered n ∷ exists s n ∷ head s n ∷ in_range (Position s n p × Fits text) ∷ []

      asked : AllYes before
      asked = (small.sound.shape.numbers n r here, ((r, here), ((o, (r, here, kind)), (((r, here, wide p position), fits), tt))))

      unfit : (y : Row) × (k : ℕ) × Dataset s n y × (k ≡ suc y.height) × (k ≤ free s) → ⊥
      unfit (y, k, there, is, fit) =
          let height : y.height ≡ 1 = ap (λ (x : Row). x.height) (same_row s.rows n y r there here) ∙ low in
          omega (arith, small.size, small.owned)

      go : (a : Result Answer Layer) → Step s (Write n p text) a t → (a ≡ Err (Memory BlocksShort)) × Small z t g w rows owned dead
      go (Ok x) (granted, _) = absurd (unfit granted.1.1.1.1.0)
      go (Err l) (first, same) = (
        ap Err (first_refused before (free_blocks s n WriteTakes) (dead_fits s n (WriteSinks s p) ∷ []) l asked unfit first),
        subst (λ (y : State). Small z y g w rows owned dead) (sym same) small,
      )

  -- what a discard of data answers and leaves, where k levels stay
  pub small_discard : (p k v e c : ℕ) → p < fan → (Hole s r p → ⊥) → Stay s.memory r.root r.height p k → Bounds p k v 2 e c → owned + k ≤ z.size
      → (a : Result Answer Layer) (t : State) → Step s (Discard n p) a t → (a ≡ done k c) × Exchanged t k v e c
  small_discard p k v e c position full stay bounds blocks a t step = go (granted s t (Discard n p) a asked step)
    where
      spare : (y : Row) × (j : ℕ) × Dataset s n y × DiscardTakes s p y j × (j ≤ free s)
      spare = (r, k, here, inr (full, stay), omega (arith, small.size, small.owned))

      room : (y : Row) × (j : ℕ) × Dataset s n y × DiscardSinks s p y j × (length s.dead + j ≤ s.dead_room)
      room = (r, length (sinking s r p), here, inr (full, refl), omega (arith, small.dead, small.dead_room, bounds.sinks, bounds.fits))

      asked : AllYes (questions s (Discard n p))
      asked = (small.sound.shape.numbers n r here, ((r, here), ((o, (r, here, kind)), ((r, here, wide p position), (spare, (room, tt))))))

      left : Replaced s t n r p k [] → (changed s t ≡ record { taken = k; given = c }) × Exchanged t k v e c
      left rep =
          small_path t p k v 2 e c [] bounds (steps_keep_sound s (Discard n p) a t small.sound step) rep
          (discard_moved s t n p k r small.sound here asked stay rep)

      Way : Row → Type 0
      Way y = (Hole s y p × (t ≡ s)) ⊎ ((Hole s y p → ⊥) × ((j : ℕ) × Stay s.memory y.root y.height p j × Replaced s t n y p j []))

      pick : (x : Answer) → a ≡ Ok x → x ≡ Done (changed s t) → Way r → (a ≡ done k c) × Exchanged t k v e c
      pick x is answer (inl (hole, _)) = absurd (full hole)
      pick x is answer (inr (_, (j, stays, rep))) =
          let same : j ≡ k = omega (arith, stay_most s r p j k stays stay, stay_most s r p k j stay stays) in
          let (counts, after) = left (subst (λ (i : ℕ). Replaced s t n r p i []) same rep) in
          (is ∙ ap Ok (answer ∙ ap Done counts), after)

      go : (x : Answer) × (a ≡ Ok x) × Granted s (Discard n p) x t → (a ≡ done k c) × Exchanged t k v e c
      go (x, is, (answer, (y, there, way))) = pick x is answer (subst Way (same_row s.rows n y r there here) way)
