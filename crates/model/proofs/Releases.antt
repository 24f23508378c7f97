-- Owned blocks and counts after a snapshot is gone: what nobody else reached is given back, and what was young in the snapshot
-- and is reached by its next is now young in the next.
--     owned_skipped     the owned blocks are those reached
--     below_skipped     the owned blocks are blocks
--     born_skipped      each row counts the blocks younger than its previous
use Rattle.std.proofs.Common.{◌≡◌, ℕ, ◌+◌, ◌-◌, ◌<◌, ◌≤◌, Bool, true, false, cond, not, ◌&&◌, ◌||◌, ◌⊎◌, sym, refl, ap, ◌∙◌, subst, inl, inr, arith}
use Rattle.std.proofs.lemmas.Bool.{cases_eq, cases_lt, cases_Bool, both_ways, and_parts, and_from, or_cases, or_left, or_right}
use Rattle.blocks.specs.Sets.{count}
use Rattle.records.specs.declared.rows.Row.{Row}
use Rattle.model.specs.Datasets.{State, Dataset, base, Has, Reaches, Reached, Young}
use Rattle.model.specs.Figures.{HowMany, Only}
use Rattle.model.specs.Soundness.{Sound, OwnedReached, Born}
use Rattle.model.specs.Steps.{Released, OwnedAfter, given, with_previous}
use Rattle.model.proofs.Ancestors.{same_row, previous_other}
use Rattle.model.proofs.Borns.{young_reached}
use Rattle.model.proofs.Counts.{count_balance}
use Rattle.model.proofs.Deads.{there_or_nowhere}
use Rattle.model.proofs.Heirs.{young_skipped}
use Rattle.model.proofs.Skips.{Skipped}

-- one block, by whether it is owned before and after, and young before in the next and in the snapshot: what is young in the
-- next after, with what is given back, is what was young in either
balance : (was is next gone : Bool) → (next ≡ true → gone ≡ true → ⊥) → (was ≡ true → is ≡ false → (next ≡ false) × (gone ≡ true)) → (was ≡ false → (next ≡ false) × (gone ≡ false))
    → cond (next || (gone && is)) 1 0 + cond (was && not is) 1 0 ≡ cond next 1 0 + cond gone 1 0
balance true true true true apart released never = absurd (apart refl refl)
balance true true true false apart released never = refl
balance true true false true apart released never = refl
balance true true false false apart released never = refl
balance true false next gone apart released never = let (a, b) = released refl refl in rw (a, b) refl
balance false is next gone apart released never = let (a, b) = never refl in rw (a, b) refl

module _ (s t : State) (n m : ℕ) (r x : Row) (c : ℕ) (sound : Sound s) (skip : Skipped s t n m r x c) where
  -- a block young in the snapshot is young in the next after, or is given back
  young_or_released : (b : ℕ) → Young s n b → Young t m b ⊎ Released s m r b
  young_or_released b (y, q, there, (d, i, has), young, e) = go (there_or_nowhere s sound n d i q has m x skip.next)
    where
      is : base s y ≡ base s r
      is = ap (base s) (same_row y r there skip.found)

      go : Has s m d i q ⊎ (Reaches s m q.block → ⊥) → Young t m b ⊎ Released s m r b
      go (inl at) = inl (with_previous x r.previous c, q, skip.now, (d, i, skip.kept m d i q skip.apart at), omega (arith, is, skip.base_now), e)
      go (inr nowhere) = inr (q, (sound.dead m q).1 (n, (x, skip.next, skip.previous), (d, i, has), nowhere), omega (arith, is), e)

  -- a block that was reached is still reached, or was young in the snapshot and is given back
  reached_or_released : (b : ℕ) → Reached s b → Reached t b ⊎ (Young s n b × Released s m r b)
  reached_or_released b (k, (q, (d, i, has), e)) = go (cases_eq k n)
    where
      at : k ≡ n → Has s n d i q
      at is = subst (λ (j : ℕ). Has s j d i q) is has

      fate : Young s n b → Young t m b ⊎ Released s m r b → Reached t b ⊎ (Young s n b × Released s m r b)
      fate young (inl still) = inl (young_reached t m b still)
      fate young (inr released) = inr (young, released)

      age : k ≡ n → (base s r < q.birth) ⊎ (q.birth ≤ base s r) → Reached t b ⊎ (Young s n b × Released s m r b)
      age is (inl newer) = let young : Young s n b = (r, q, skip.found, (d, i, at is), newer, e) in fate young (young_or_released b young)
      age is (inr older) =
          let (l, previous, above) = sound.birth_law n d i r q skip.found (at is) older in
          inl (l, (q, (d, i, skip.kept l d i q (previous_other s sound n l (r, skip.found, previous)) above), e))

      go : (k ≡ n) ⊎ (k ≡ n → ⊥) → Reached t b ⊎ (Young s n b × Released s m r b)
      go (inl is) = age is (cases_lt (base s r) q.birth)
      go (inr far) = inl (k, (q, (d, i, skip.kept k d i q far has), e))

  -- what another dataset has young, it keeps young
  young_kept : (k b : ℕ) → (k ≡ n → ⊥) → (k ≡ m → ⊥) → Young s k b → Young t k b
  young_kept k b far past (y, q, there, (d, i, has), young, e) =
      (y, q, skip.row_kept k y far past there, (d, i, skip.kept k d i q far has), omega (arith, skip.base_kept k y past there), e)

  -- and so does the next
  young_next : (b : ℕ) → Young s m b → Young t m b
  young_next b (y, q, there, (d, i, has), young, e) =
      let is : base s y ≡ base s x = ap (base s) (same_row y x there skip.next) in
      (with_previous x r.previous c, q, skip.now, (d, i, skip.kept m d i q skip.apart has), omega (arith, skip.base_now, skip.older), e)

  module _ (only : (b : ℕ) → Released s m r b → Only s n b) (owned : OwnedAfter s t (λ b. ⊥) (Released s m r)) where
    -- the owned blocks are those reached
    pub owned_skipped : OwnedReached t
    owned_skipped b = ((λ own. there ((owned b).0 own)), back)
      where
        there : ⊥ ⊎ ((s.owns b ≡ true) × (Released s m r b → ⊥)) → Reached t b
        there (inl none) = absurd none
        there (inr (own, kept)) = go (reached_or_released b ((sound.owned b).0 own))
          where
            go : Reached t b ⊎ (Young s n b × Released s m r b) → Reached t b
            go (inl still) = still
            go (inr (_, released)) = absurd (kept released)

        back : Reached t b → t.owns b ≡ true
        back (k, (q, (d, i, has), e)) =
            let (far, was) = skip.after k d i q has in
            let reach : Reaches s k b = (q, (d, i, was), e) in
            (owned b).1 (inr ((sound.owned b).1 (k, reach), λ released. far ((only b released).1 k reach)))

    -- the owned blocks are blocks
    pub below_skipped : (b : ℕ) → t.owns b ≡ true → b < t.size
    below_skipped b own = go ((owned b).0 own)
      where
        go : ⊥ ⊎ ((s.owns b ≡ true) × (Released s m r b → ⊥)) → b < t.size
        go (inl none) = absurd none
        go (inr (was, _)) = omega (arith, sound.shape.below b was, skip.size)

    -- another dataset has the young blocks that it had
    born_other : (k : ℕ) (y : Row) → (k ≡ m → ⊥) → Dataset t k y → HowMany (Young t k) t.size y.born
    born_other k y past there = record {
      test = old.test;
      tells = λ b less. (
        (λ e. young_kept k b (skip.row_after k y there).0 past ((old.tells b (omega (arith, skip.size))).0 e)),
        (λ young. (old.tells b (omega (arith, skip.size))).1 (back b (young_skipped s t n m r x c sound skip k b young).1)),
      );
      counted = old.counted ∙ ap (count old.test) (sym skip.size);
    }
      where
        old : HowMany (Young s k) s.size y.born
        old = sound.born k y (skip.row_same k y past there)

        back : (b : ℕ) → Young s k b ⊎ ((k ≡ m) × Young s n b) → Young s k b
        back b (inl young) = young
        back b (inr (is, _)) = absurd (past is)

    -- the next has those that it had and those of the snapshot, without the blocks given back
    born_next : HowMany (Young t m) t.size (x.born + r.born - given s t)
    born_next = record {
      test = test;
      tells = λ b less. (there b (omega (arith, skip.size)), back b (omega (arith, skip.size)));
      counted = (let all = sums in let a = mine.counted in let b = taken.counted in omega arith) ∙ ap (count test) (sym skip.size);
    }
      where
        mine : HowMany (Young s m) s.size x.born
        mine = sound.born m x skip.next

        taken : HowMany (Young s n) s.size r.born
        taken = sound.born n r skip.found

        test : ℕ → Bool
        test b = mine.test b || (taken.test b && t.owns b)

        there : (b : ℕ) → b < s.size → test b ≡ true → Young t m b
        there b less e = go (or_cases (mine.test b) (taken.test b && t.owns b) e)
          where
            stays : ⊥ ⊎ ((s.owns b ≡ true) × (Released s m r b → ⊥)) → Young t m b ⊎ Released s m r b → Young t m b
            stays _ (inl young) = young
            stays (inl none) (inr _) = absurd none
            stays (inr (_, kept)) (inr released) = absurd (kept released)

            go : (mine.test b ≡ true) ⊎ ((taken.test b && t.owns b) ≡ true) → Young t m b
            go (inl is) = young_next b ((mine.tells b less).0 is)
            go (inr both) =
                let (is, own) = and_parts (taken.test b) (t.owns b) both in
                stays ((owned b).0 own) (young_or_released b ((taken.tells b less).0 is))

        back : (b : ℕ) → b < s.size → Young t m b → test b ≡ true
        back b less young = go (young_skipped s t n m r x c sound skip m b young).1
          where
            go : Young s m b ⊎ ((m ≡ m) × Young s n b) → test b ≡ true
            go (inl was) = or_left _ _ ((mine.tells b less).1 was)
            go (inr (_, was)) = or_right (mine.test b) _ (and_from _ _ ((taken.tells b less).1 was) ((owned_skipped b).1 (young_reached t m b young)))

        -- a block that is not owned is not young
        unowned : (k : ℕ) (y : Row) (old : HowMany (Young s k) s.size y.born) (b : ℕ) → b < s.size → s.owns b ≡ false → old.test b ≡ false
        unowned k y old b less none = go (cases_Bool (old.test b))
          where
            go : (old.test b ≡ true) ⊎ (old.test b ≡ false) → old.test b ≡ false
            go (inl is) = absurd (both_ways (s.owns b) none ((sound.owned b).1 (young_reached s k b ((old.tells b less).0 is))))
            go (inr e) = e

        apart : (b : ℕ) → b < s.size → mine.test b ≡ true → taken.test b ≡ true → ⊥
        apart b less a b' = skip.apart (sound.one_young m n b ((mine.tells b less).0 a) ((taken.tells b less).0 b'))

        -- a block that is given back was young in the snapshot and not in the next
        released : (b : ℕ) → b < s.size → s.owns b ≡ true → t.owns b ≡ false → (mine.test b ≡ false) × (taken.test b ≡ true)
        released b less was is = (next (cases_Bool (mine.test b)), gone (reached_or_released b ((sound.owned b).0 was)))
          where
            next : (mine.test b ≡ true) ⊎ (mine.test b ≡ false) → mine.test b ≡ false
            next (inl young) = absurd (both_ways (t.owns b) is ((owned_skipped b).1 (young_reached t m b (young_next b ((mine.tells b less).0 young)))))
            next (inr e) = e

            gone : Reached t b ⊎ (Young s n b × Released s m r b) → taken.test b ≡ true
            gone (inl still) = absurd (both_ways (t.owns b) is ((owned_skipped b).1 still))
            gone (inr (young, _)) = (taken.tells b less).1 young

        sums : count test s.size + given s t ≡ count mine.test s.size + count taken.test s.size
        sums = count_balance test (λ b. s.owns b && not (t.owns b)) mine.test taken.test s.size
            (λ b less. balance (s.owns b) (t.owns b) (mine.test b) (taken.test b) (apart b less) (released b less)
            (λ none. (unowned m x mine b less none, unowned n r taken b less none)))

    -- each row counts the blocks younger than its previous
    pub born_skipped : c ≡ x.born + r.born - given s t → Born t
    born_skipped is k y there = go (cases_eq k m)
      where
        now : Row
        now = with_previous x r.previous c

        go : (k ≡ m) ⊎ (k ≡ m → ⊥) → HowMany (Young t k) t.size y.born
        go (inl e) =
            let same : now ≡ y = same_row now y (subst (λ (j : ℕ). Dataset t j now) (sym e) skip.now) there in
            let born : x.born + r.born - given s t ≡ y.born = sym is ∙ ap (λ (z : Row). z.born) same in
            subst (λ (j : ℕ). HowMany (Young t j) t.size y.born) (sym e) (subst (λ (g : ℕ). HowMany (Young t m) t.size g) born born_next)
        go (inr past) = born_other k y past there
