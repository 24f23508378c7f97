-- What the figures of a dataset are in a sound pool, by rows and dead records.
--     is_next            the dataset of a snapshot's owner that has it as previous is its next
--     own_snapshots      a head's previous is its origin where it has no snapshots of its own
--     unique_head        a head alone reaches as many blocks as were born since its previous
--     unique_snapshot    a snapshot without clones alone reaches as many blocks as its next has young dead records
--     used_figure        what a file system uses is the sum over its rows of the blocks born since their previous
use Rattle.std.proofs.Common.{◌≡◌, ℕ, ◌<◌, Bool, true, ◌&&◌, ◌⊎◌, ◌↔◌, List, [], ◌∷◌, length, Some, None, Option, sym, refl, ap, ap₂, ◌∙◌, subst, inl, inr, arith}
use Rattle.std.specs.List.{sum_by}
use Rattle.std.specs.Prelude.{◌≢◌, ◌==◌, filter, nat_lt}
use Rattle.std.proofs.lemmas.Bool.{and_parts, and_from, eqb-true, eq-eqb, ltb-true, lt-ltb}
use Rattle.std.proofs.lemmas.List.Sums.{sum_by-cons}
use Rattle.ordered.specs.Tables.{record_of}
use Rattle.records.specs.Keys.{dead_key, dead_below}
use Rattle.records.specs.declared.dead.DeadRecord.{DeadRecord}
use Rattle.records.specs.declared.rows.Kind.TheVariants.{Head}
use Rattle.records.specs.declared.rows.Pointer.{Pointer}
use Rattle.records.specs.declared.rows.Row.{Row}
use Rattle.model.specs.Datasets.{State, Dataset, IsHead, Previous, base, dead_of, Points, Reaches, Young, Buried}
use Rattle.model.specs.Families.{Met, nearest, farther, OwnSnapshot, Next, IsClone}
use Rattle.model.specs.Figures.{HowMany, Only, UniqueIs, UsedIs}
use Rattle.model.specs.Laws.{system_rows}
use Rattle.model.specs.Soundness.{Sound}
use Rattle.model.proofs.Ancestors.{same_row, previous_no_head, young_through, only_young}
use Rattle.model.proofs.Burials.{dead_one, found_key}
use Rattle.model.proofs.Shares.{only_dead}
use Rattle.model.proofs.Sums.{alike, single, Passes, sum_passing}
use Rattle.model.proofs.Systems.{side, one_origin, owners_tell, used_total}

-- the dataset of a snapshot's owner that has it as previous is its next
pub is_next : (s : State) (n m : ℕ) (r x : Row) → Sound s → Dataset s n r → Dataset s m x → x.previous ≡ Some n → x.owner ≡ r.owner → Next s n m
is_next s n m r x sound here there previous owner =
    let (o, head) = sound.family.owner n r here in
    let belongs = owners_tell s r.owner o sound head in
    (r.owner, (belongs n r here).0 refl, (belongs m x there).0 owner, (x, there, previous))

-- a head's previous is its origin just where it has no snapshots of its own
pub own_snapshots : (s : State) (n : ℕ) (r : Row) (o : Option ℕ) → Sound s → Dataset s n r → r.kind ≡ Head o
    → (r.previous ≡ o) ↔ ((m : ℕ) → OwnSnapshot s n m → ⊥)
own_snapshots s n r o sound here kind = ((λ is m (p, also, met). none is p m also met), (λ alone. back alone r.previous refl))
  where
    head : IsHead s n o
    head = (r, here, kind)

    own : r.owner ≡ n
    own = sound.family.head n o r here kind

    first : r.previous ≡ o → (p : Option ℕ) (j : ℕ) → IsHead s n p → Previous s n j → p ≢ Some j → ⊥
    first is p j also (x, there, previous) other =
        other (one_origin s sound n o head p also ∙ sym is ∙ ap (λ (z : Row). z.previous) (same_row r x here there) ∙ previous)

    none : r.previous ≡ o → (p : Option ℕ) (m : ℕ) → IsHead s n p → Met s p n m → ⊥
    none is p m also (nearest previous other) = first is p m also previous other
    none is p m also (farther {m = j} previous other _) = first is p j also previous other

    back : ((m : ℕ) → OwnSnapshot s n m → ⊥) → (p : Option ℕ) → r.previous ≡ p → r.previous ≡ o
    back alone None previous =
        previous ∙ one_origin s sound n o head None (subst (λ (i : ℕ). IsHead s i None) own (sound.family.first n r here previous))
    back alone (Some j) previous =
        let (x, _, there, _, _, _) = sound.family.previous n j r here previous in
        go x (side s sound n o head n j r x here there own previous)
      where
        go : (x : Row) → ((x.owner ≡ n) × (o ≢ Some j)) ⊎ ((x.owner ≢ n) × (o ≡ Some j)) → r.previous ≡ o
        go x (inl (_, other)) = absurd (alone j (o, head, nearest (r, here, previous) other))
        go x (inr (_, is)) = previous ∙ sym is

-- a head alone reaches as many blocks as were born since its previous
pub unique_head : (s : State) (n : ℕ) (r : Row) (o : Option ℕ) → Sound s → Dataset s n r → r.kind ≡ Head o → UniqueIs s n r.born
unique_head s n r o sound here kind = alike (Young s n) (Only s n) s.size r.born (λ b _. (alone b, only_young s sound n b)) (sound.born n r here)
  where
    alone : (b : ℕ) → Young s n b → Only s n b
    alone b (x, q, there, points, young, e) = ((q, points, e), λ m reach. go m (young_through s sound n b (x, q, there, points, young, e) m reach))
      where
        go : (m : ℕ) → (m ≡ n) ⊎ ((k : ℕ) × Previous s k n × Reaches s k b) → m ≡ n
        go m (inl is) = is
        go m (inr (k, (y, at, previous), _)) = absurd (previous_no_head s sound k n y r o at previous here kind)

-- a dead record of dataset m for a block born after the stamp t
abbrev pub is_young : ℕ → ℕ → DeadRecord → Bool
is_young m t x = x.dataset == m && nat_lt t x.birth

-- those records
abbrev pub young_dead : State → ℕ → ℕ → List DeadRecord
young_dead s m t = filter (is_young m t) s.dead

-- one for each element
length_is : {A : Type 0} (xs : List A) → length xs ≡ sum_by (λ (x : A). 1) xs
length_is [] = refl
length_is {A = A} (x ∷ xs) = let rest = length_is xs in omega (arith, sum_by-cons (λ (y : A). 1) x xs)

module _ (s : State) (m t : ℕ) (sound : Sound s) where
  -- the dead record k of dataset m has the block b
  abbrev Buries : DeadRecord → ℕ → Type 0
  Buries k b = (record_of dead_key dead_below s.dead k ≡ Some k) × (k.dataset ≡ m) × (k.block ≡ b)

  -- the pointer of a dead record, and where it stands
  abbrev pointer : DeadRecord → Pointer
  pointer k = record { block = k.block; birth = k.birth }

  place : (k : DeadRecord) → record_of dead_key dead_below s.dead k ≡ Some k → (a : ℕ) × Points s a (pointer k)
  place k at = let (a, _, points, _) = (sound.dead k.dataset (pointer k)).0 at in (a, points)

  -- a block has one dead record of the dataset
  once : (k j : DeadRecord) (b : ℕ) → Buries k b → Buries j b → k ≡ j
  once k j b (at, dataset, block) (at', dataset', block') =
      let (a, (d, i, has)) = place k at in
      let (c, (e, l, has')) = place j at' in
      ap₂ dead_of (dataset ∙ sym dataset') (sound.identity a c d e i l (pointer k) (pointer j) has has' (block ∙ sym block')).2

  -- the records of the dataset that are young are as many as their blocks
  dead_count : HowMany (λ b. (q : Pointer) × Buried s m q × (t < q.birth) × (q.block ≡ b)) s.size (length (young_dead s m t))
  dead_count =
      subst (HowMany _ s.size) (sym (length_is (young_dead s m t)))
      (alike _ _ s.size _ (λ b _. (there b, back b)) (sum_passing dead_key dead_below dead_one s.size Buries once (λ x. 1) (is_young m t) s.dead sound.shape.dead_ordered each))
    where
      each : (k x : DeadRecord) → record_of dead_key dead_below s.dead k ≡ Some x → is_young m t x ≡ true → HowMany (Buries k) s.size 1
      each k x at pass = alike (λ b. k.block ≡ b) (Buries k) s.size 1 (λ b _. ((λ is. (here, dataset, is)), (λ buries. buries.2))) (single k.block s.size low)
        where
          is : x ≡ k
          is = found_key dead_key dead_below dead_one s.dead k x at

          here : record_of dead_key dead_below s.dead k ≡ Some k
          here = at ∙ ap Some is

          dataset : k.dataset ≡ m
          dataset = sym (ap (λ (z : DeadRecord). z.dataset) is) ∙ eqb-true x.dataset m (and_parts (x.dataset == m) (nat_lt t x.birth) pass).0

          low : k.block < s.size
          low = let (a, (d, i, has)) = place k here in sound.pointers.inside a d i (pointer k) has

      there : (b : ℕ) → Passes dead_key dead_below dead_one s.size Buries once (λ x. 1) (is_young m t) s.dead b → (q : Pointer) × Buried s m q × (t < q.birth) × (q.block ≡ b)
      there b (k, x, at, pass, (here, dataset, block)) =
          let is = found_key dead_key dead_below dead_one s.dead k x at in
          let young = ltb-true t x.birth (and_parts (x.dataset == m) (nat_lt t x.birth) pass).1 in
          (pointer k, subst (λ (i : ℕ). Buried s i (pointer k)) dataset here, omega (arith, ap (λ (z : DeadRecord). z.birth) is), block)

      back : (b : ℕ) → (q : Pointer) × Buried s m q × (t < q.birth) × (q.block ≡ b) → Passes dead_key dead_below dead_one s.size Buries once (λ x. 1) (is_young m t) s.dead b
      back b (q, buried, young, block) =
          (dead_of m q, dead_of m q, buried, and_from (m == m) (nat_lt t q.birth) (eq-eqb m m refl) (lt-ltb t q.birth young), (buried, refl, block))

-- a snapshot without clones alone reaches as many blocks as its next has young dead records
pub unique_snapshot : (s : State) (n m : ℕ) (r : Row) → Sound s → Dataset s n r → ((k : ℕ) → IsClone s n k → ⊥) → Next s n m
    → UniqueIs s n (length (young_dead s m (base s r)))
unique_snapshot s n m r sound here none next =
    alike _ (Only s n) s.size _ (λ b _. only_dead s n m r sound here next none b) (dead_count s m (base s r) sound)

-- what a file system uses is the sum over its rows of the blocks born since their previous
pub used_figure : (s : State) (n : ℕ) → Sound s → UsedIs s n (sum_by (λ (r : Row). r.born) (system_rows s n))
used_figure s n sound = used_total s n (λ (r : Row). r.born) sound sound.born
