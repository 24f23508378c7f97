-- The dead lists where a snapshot is destroyed: what its next gives back, and what stands once the rest is joined.
--     Found          a record is found by its key
--     found_kept     of the records that pass a test, those are found that were
--     ready          the young records of a dataset can be given back
--     young_blocks   the blocks that they have
--     rest           the other records
--     apart          no pointer is in the dead list of a snapshot and in that of its next
--     merged         what stands once the list of the snapshot has joined the rest
use Rattle.std.proofs.Common.{◌≡◌, ℕ, ◌<◌, Bool, true, not, ◌⊎◌, ◌↔◌, List, [], ◌∷◌, length, get_or, Some, sym, refl, ap, ◌∙◌, subst, ap₂, inl, inr, arith}
use Rattle.std.specs.List.{Contains, filter}
use Rattle.std.proofs.lemmas.Bool.{cases_eq, cond_both}
use Rattle.std.proofs.lemmas.Bool.Decides.{nat_tests}
use Rattle.std.proofs.lemmas.List.{get_or_default}
use Rattle.std.proofs.lemmas.List.Elements.{Contains-get_or}
use Rattle.blocks.specs.Meanings.{Meaning}
use Rattle.ordered.specs.Lists.{Apart, Joined, Stands}
use Rattle.ordered.specs.Order.{Holds}
use Rattle.ordered.specs.Tables.{Ascending, record_of, same}
use Rattle.ordered.proofs.Filters.{ascending_filter}
use Rattle.ordered.proofs.Lookups.{at_index, found}
use Rattle.ordered.proofs.Orders.{not_itself, same_below, same_equal}
use Rattle.ordered.proofs.Pairs.{contains_filter, contains_later, filter_contains}
use Rattle.records.specs.Keys.{dead_key, dead_below, dead_list, dead_moved}
use Rattle.records.specs.declared.dead.DeadRecord.{DeadRecord}
use Rattle.records.specs.declared.rows.Pointer.{Pointer}
use Rattle.records.specs.declared.rows.Row.{Row}
use Rattle.model.specs.Datasets.{State, Previous, base, Points, Buried, dead_of}
use Rattle.model.specs.Soundness.{Sound}
use Rattle.model.specs.Steps.{Merged}
use Rattle.model.proofs.Ancestors.{same_row}
use Rattle.model.proofs.Burials.{dead_one}
use Rattle.model.proofs.Figures.{is_young, young_dead}
use Rattle.reclaim.specs.Giving.{InList, ListReady}
use Rattle.pool.proofs.Clearing.{kept_found}

-- the record is found in the records
abbrev pub Found : List DeadRecord → DeadRecord → Type 0
Found xs x = Stands dead_key dead_below xs x

-- what is found is there
there : (xs : List DeadRecord) (x : DeadRecord) → Found xs x → Contains xs x
there xs x = under xs x x
  where
    under : (xs : List DeadRecord) (k x : DeadRecord) → record_of dead_key dead_below xs k ≡ Some x → Contains xs x
    under [] k x e = cc
    under (y ∷ xs) k x e =
        cond_both (same dead_below y k) (Some y) (record_of dead_key dead_below xs k) (λ o. o ≡ Some x → Contains (y ∷ xs) x)
        (λ _ is. let here : y ≡ x = cc in (0, omega arith, here)) (λ _ is. contains_later y x xs (under xs k x is)) e

-- and what is there is found
finds : (xs : List DeadRecord) → Ascending dead_key (Holds dead_below) xs → (x : DeadRecord) → Contains xs x → Found xs x
finds xs up x (i, within, is) =
    let here : (d : DeadRecord) → get_or xs i d ≡ x = λ d. get_or_default xs i d x within ∙ is in
    let index =
    at_index dead_key dead_below xs x i within
    (λ j d before. same_below dead_below dead_one (get_or xs j d) x (subst (Holds dead_below (get_or xs j d)) (here d) (up j i d before within)))
    (λ d. same_equal dead_below dead_one (get_or xs i d) x (here d)) in
    (found dead_key dead_below xs x i index).entry x ∙ ap Some is

-- of the records that pass a test, those are found that were
pub found_kept : (test : DeadRecord → Bool) (xs : List DeadRecord) (x : DeadRecord) → Found (filter test xs) x ↔ (Found xs x × (test x ≡ true))
found_kept test xs x = (λ is. grind (arith, kept_found test xs x, is), λ is. grind (arith, kept_found test xs x, is.0, is.1))

-- the pointer of a record
abbrev pointer : DeadRecord → Pointer
pointer x = record { block = x.block; birth = x.birth }

module _ (s : State) (m t : ℕ) (sound : Sound s) where
  abbrev young : List DeadRecord
  young = young_dead s m t

  -- the young records of a dataset, by their pointers
  of_young : (x : DeadRecord) → Contains young x → (x.dataset ≡ m) × (t < x.birth) × Buried s m (pointer x)
  of_young x is =
      let (kept, passes) = contains_filter (is_young m t) s.dead x is in
      let same : x.dataset ≡ m = grind (arith, nat_tests, passes) in
      let newer : t < x.birth = grind (arith, nat_tests, passes) in
      (same, newer, subst (λ (k : ℕ). Buried s k (pointer x)) same (finds s.dead sound.shape.dead_ordered x kept))

  young_of : (q : Pointer) → Buried s m q → t < q.birth → Contains young (dead_of m q)
  young_of q buried newer = filter_contains (is_young m t) s.dead (dead_of m q) (there s.dead (dead_of m q) buried) (grind (arith, nat_tests))

  -- the previous points to the block of each
  place : (x : DeadRecord) → Contains young x → (k : ℕ) × Points s k (pointer x)
  place x is = let (k, _, points, _) = (sound.dead m (pointer x)).0 (of_young x is).2 in (k, points)

  -- so they can be given back
  pub ready : (w : Meaning) → w.owns ≡ s.owns → ListReady w young
  ready w owns = record { apart = apart; owned = owned }
    where
      at : (i : ℕ) (d : DeadRecord) → i < length young → Contains young (get_or young i d)
      at i d within = Contains-get_or young i d within

      apart : (i j : ℕ) (d : DeadRecord) → i < j → j < length young → (get_or young i d).block ≡ (get_or young j d).block → ⊥
      apart i j d less within e =
          let x = get_or young i d in
          let y = get_or young j d in
          let in-x = at i d (omega arith) in
          let in-y = at j d within in
          let (k, (a, b, has)) = place x in-x in
          let (l, (c, f, also)) = place y in-y in
          let one : pointer x ≡ pointer y = (sound.identity k l a c b f (pointer x) (pointer y) has also e).2 in
          let both : x ≡ y = ap₂ dead_of ((of_young x in-x).0 ∙ sym (of_young y in-y).0) one in
          let up = ascending_filter dead_key (Holds dead_below) (is_young m t) s.dead sound.shape.dead_ordered i j d less within in
          cc (not_itself dead_below dead_one x y both)

      owned : (i : ℕ) (d : DeadRecord) → i < length young → w.owns (get_or young i d).block ≡ true
      owned i d within =
          let x = get_or young i d in
          let (k, points) = place x (at i d within) in
          ap (λ f. f x.block) owns ∙ (sound.owned x.block).1 (k, (pointer x, points, refl))

  -- their blocks
  pub young_blocks : (b : ℕ) → InList young b ↔ ((q : Pointer) × Buried s m q × (t < q.birth) × (q.block ≡ b))
  young_blocks b = (
    λ (k, x, within, is, e). let (_, newer, buried) = of_young x (k, within, is) in (pointer x, buried, newer, e),
    λ (q, buried, newer, e). let (k, within, is) = young_of q buried newer in (k, dead_of m q, within, is, e),
  )

-- the records that the next keeps, and those of other datasets
abbrev pub rest : State → ℕ → ℕ → List DeadRecord
rest s m t = filter (λ x. not (is_young m t x)) s.dead

module _ (s : State) (n m : ℕ) (r : Row) (sound : Sound s) (next : Previous s m n) (other : m ≡ n → ⊥) where
  abbrev kept : List DeadRecord
  kept = rest s m (base s r)

  of_kept : (x : DeadRecord) → Found kept x ↔ (Found s.dead x × (not (is_young m (base s r) x) ≡ true))
  of_kept = found_kept (λ x. not (is_young m (base s r) x)) s.dead

  -- the next reaches no block of its dead list, and what is in that of the snapshot the snapshot does not reach
  pub apart : Apart dead_key dead_below dead_list dead_moved kept n m
  apart x y in-x in-y of_n of_m e =
      let (_, _, _, nowhere) = (sound.dead n (pointer x)).0 (subst (λ (k : ℕ). Buried s k (pointer x)) of_n ((of_kept x).0 in-x).0) in
      let (a, (z, found, previous), points, _) = (sound.dead m (pointer y)).0 (subst (λ (k : ℕ). Buried s k (pointer y)) of_m ((of_kept y).0 in-y).0) in
      let both : Some a ≡ Some n = sym previous ∙ ap (λ (z : Row). z.previous) (same_row z next.0 found next.1) ∙ next.2 in
      let is : a ≡ n = cc in
      nowhere (pointer x, subst (λ (k : ℕ). Points s k (pointer x)) is (subst (λ (q : Pointer). Points s a q) (ap pointer (sym e)) points), refl)

  -- what stands once the lists are joined
  pub merged : (ys : List DeadRecord) → ((x : DeadRecord) → Found ys x ↔ Joined dead_key dead_below dead_list dead_moved kept n m x) → (k : ℕ) (q : Pointer)
      → Found ys (dead_of k q) ↔ Merged s n m r k q
  merged ys joined k q = (λ is. forth ((joined (dead_of k q)).0 is), λ is. (joined (dead_of k q)).1 (back is))
    where
      forth : Joined dead_key dead_below dead_list dead_moved kept n m (dead_of k q) → Merged s n m r k q
      forth (inl (x, is, of_n, e)) =
          let buried : Buried s n (pointer x) = subst (λ (j : ℕ). Buried s j (pointer x)) of_n ((of_kept x).0 is).0 in
          inl (ap dead_list e, inr (subst (λ (p : Pointer). Buried s n p) (ap pointer (sym e)) buried))
      forth (inr (is, far)) = let (found, passes) = (of_kept (dead_of k q)).0 is in go found passes (cases_eq k m)
        where
          go : Buried s k q → not (is_young m (base s r) (dead_of k q)) ≡ true → (k ≡ m) ⊎ (k ≡ m → ⊥) → Merged s n m r k q
          go found passes (inl e) = inl (e, inl (subst (λ (j : ℕ). Buried s j q) e found, grind (arith, nat_tests, passes, e)))
          go found passes (inr past) = inr (past, far, found)

      back : Merged s n m r k q → Joined dead_key dead_below dead_list dead_moved kept n m (dead_of k q)
      back (inl (e, inl (mine, old))) = inr ((of_kept (dead_of k q)).1 (subst (λ (j : ℕ). Buried s j q) (sym e) mine, grind (arith, nat_tests)), λ is. other (sym e ∙ is))
      back (inl (e, inr taken)) = inl (dead_of n q, (of_kept (dead_of n q)).1 (taken, grind (arith, nat_tests, other)), refl, ap (λ (j : ℕ). dead_of j q) e)
      back (inr (past, far, own)) = inr ((of_kept (dead_of k q)).1 (own, grind (arith, nat_tests, past)), far)
