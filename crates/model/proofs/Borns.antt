-- A replaced path keeps each row's count of the blocks younger than its previous.
use Rattle.std.proofs.Common.{◌≡◌, ℕ, ◌+◌, ◌-◌, ◌<◌, Bool, true, false, cond, not, ◌&&◌, ◌||◌, ◌⊎◌, List, sym, refl, ap, ◌∙◌, subst, inl, inr, arith}
use Rattle.std.proofs.lemmas.Bool.{cases_eq, cases_Bool, both_ways, and_parts, and_from, or_cases, or_left, or_right, not-true, not_from_false}
use Rattle.blocks.specs.Sets.{count}
use Rattle.records.specs.declared.rows.Kind.{Kind}
use Rattle.records.specs.declared.rows.Pointer.{Pointer}
use Rattle.records.specs.declared.rows.Row.{Row}
use Rattle.tree.specs.Trees.{index_at}
use Rattle.tree.specs.Paths.{new_at}
use Rattle.model.specs.Datasets.{State, Dataset, base, kind_stamp, Has, Reached, Young}
use Rattle.model.specs.Figures.{HowMany}
use Rattle.model.specs.Soundness.{Sound, Born}
use Rattle.model.specs.Steps.{Replaced, taken, given, with_root}
use Rattle.model.proofs.Ancestors.{same_row, base_below}
use Rattle.model.proofs.Counts.{count_balance}
use Rattle.model.proofs.Moves.{On, Moved, new_pointer}
use Rattle.model.proofs.Owners.{Given, on_or_off, has_leaves, leaves_has, kept_or_given, owned_moved}

-- what dataset m reaches, some dataset reaches
pub young_reached : (s : State) (m b : ℕ) → Young s m b → Reached s b
young_reached s m b (_, q, _, points, _, e) = (m, (q, points, e))

-- one block, by whether it is owned before and after, and young before: what is young after, with what is given back, is
-- what was young, with what is taken
balance : (was is young : Bool) → (was ≡ true → is ≡ false → young ≡ true) → (was ≡ false → young ≡ false)
    → cond (is && (young || not was)) 1 0 + cond (was && not is) 1 0 ≡ cond young 1 0 + cond (is && not was) 1 0
balance true true true gone never = refl
balance true true false gone never = refl
balance true false young gone never = rw (gone refl refl)
balance false true young gone never = rw (never refl)
balance false false young gone never = rw (never refl)

module _ (s t : State) (n : ℕ) (r : Row) (p k : ℕ) (new : ℕ → ℕ) (sound : Sound s) (moved : Moved s t n r p k new) where
  -- a young block of t was young in s, or is new
  pub young_before : (m b : ℕ) → Young t m b → Young s m b ⊎ ((m ≡ n) × ((d : ℕ) × (d < k) × (new d ≡ b)))
  young_before m b (x, q, found, (d, i, has), young, e) = go (moved.after m d i q has)
    where
      go : (On n r p m d i × (d < k) × (q ≡ new_pointer s new d)) ⊎ (Has s m d i q × (On n r p m d i → ⊥)) → Young s m b ⊎ ((m ≡ n) × ((d : ℕ) × (d < k) × (new d ≡ b)))
      go (inl (on, less, is)) = inr (on.0, (d, less, sym (ap (λ (x : Pointer). x.block) is) ∙ e))
      go (inr (was, off)) =
          let y = moved.row_after m x found in
          inl (y.0, q, y.1, (d, i, was), subst (λ (g : ℕ). g < q.birth) (moved.base_same x y.0 y.2.previous) young, e)

  -- a young block of s that is not given back is young in t
  pub young_after : (m b : ℕ) → (m ≡ n → Given s r p b → ⊥) → Young s m b → Young t m b
  young_after m b stays (y, q, found, (d, i, has), young, e) = go (on_or_off n r p m d i)
    where
      go : On n r p m d i ⊎ (On n r p m d i → ⊥) → Young t m b
      go (inl on) =
          let is : y ≡ r = same_row y r found (subst (λ (z : ℕ). Dataset s z r) (sym on.0) moved.found) in
          absurd (stays on.0 (q, has_leaves s t n r p k new sound moved m d i q has on, subst (λ (z : Row). base s z < q.birth) is young, e))
      go (inr off) =
          let x = moved.row_before m y found in
          (x.0, q, x.1, (d, i, moved.kept m d i q has off), subst (λ (g : ℕ). g < q.birth) (sym (moved.base_same x.0 y x.2.previous)) young, e)

  -- a new block is young
  pub young_new : (d : ℕ) → d < k → Young t n (new d)
  young_new d less =
      let low : base s r < s.group = subst (λ (z : Kind). base s r < kind_stamp s.group z) moved.head (base_below s sound n r moved.found) in
      let now = moved.row_before n r moved.found in (
        now.0,
        new_pointer s new d,
        now.1,
        (d, index_at r.height p d, moved.made d less),
        subst (λ (g : ℕ). g < s.group) (sym (moved.base_same now.0 r now.2.previous)) low,
        refl,
      )

module _ (s t : State) (n : ℕ) (r : Row) (p k : ℕ) (bytes : List ℕ) (sound : Sound s) (rep : Replaced s t n r p k bytes) (moved : Moved s t n r p k rep.new) where
  -- the pool is as large as it was
  in_size : (b : ℕ) → b < t.size → b < s.size
  in_size b less = subst (λ (z : ℕ). b < z) moved.size less

  -- another dataset has the young blocks that it had
  born_other : (m : ℕ) (x : Row) → (m ≡ n → ⊥) → Dataset t m x → HowMany (Young t m) t.size x.born
  born_other m x other found = record {
    test = old.test;
    tells = λ b less. (
      (λ e. young_after s t n r p k rep.new sound moved m b (λ same _. other same) ((old.tells b (in_size b less)).0 e)),
      (λ young. (old.tells b (in_size b less)).1 (back b (young_before s t n r p k rep.new sound moved m b young))),
    );
    counted = old.counted ∙ ap (count old.test) (sym moved.size);
  }
    where
      old : HowMany (Young s m) s.size x.born
      old = sound.born m x (moved.row_same m x other found)

      back : (b : ℕ) → Young s m b ⊎ ((m ≡ n) × ((d : ℕ) × (d < k) × (rep.new d ≡ b))) → Young s m b
      back b (inl young) = young
      back b (inr (same, _)) = absurd (other same)

  -- the head has the young blocks that it had, without those given back and with those taken
  born_head : HowMany (Young t n) t.size (r.born + taken s t - given s t)
  born_head = record {
    test = test;
    tells = λ b less. (there b less, back b less);
    counted = ap (λ (c : ℕ). c + taken s t - given s t) old.counted ∙ (let all = sums in omega arith) ∙ ap (count test) (sym moved.size);
  }
    where
      old : HowMany (Young s n) s.size r.born
      old = sound.born n r moved.found

      test : ℕ → Bool
      test b = t.owns b && (old.test b || not (s.owns b))

      there : (b : ℕ) → b < t.size → test b ≡ true → Young t n b
      there b less e =
          let parts = and_parts (t.owns b) (old.test b || not (s.owns b)) e in
          go ((rep.owned b).0 parts.0) (or_cases (old.test b) (not (s.owns b)) parts.1)
        where
          go : ((d : ℕ) × (d < k) × (rep.new d ≡ b)) ⊎ ((s.owns b ≡ true) × (Given s r p b → ⊥)) → (old.test b ≡ true) ⊎ (not (s.owns b) ≡ true) → Young t n b
          go (inl (d, new, is)) _ = subst (Young t n) is (young_new s t n r p k rep.new sound moved d new)
          go (inr (_, stays)) (inl young) = young_after s t n r p k rep.new sound moved n b (λ _. stays) ((old.tells b (in_size b less)).0 young)
          go (inr (was, _)) (inr free) = absurd (both_ways (s.owns b) (not-true (s.owns b) free) was)

      back : (b : ℕ) → b < t.size → Young t n b → test b ≡ true
      back b less young = and_from _ _ ((owned_moved s t n r p k bytes sound rep moved b).1 (young_reached t n b young)) (go (young_before s t n r p k rep.new sound moved n b young))
        where
          go : Young s n b ⊎ ((n ≡ n) × ((d : ℕ) × (d < k) × (rep.new d ≡ b))) → (old.test b || not (s.owns b)) ≡ true
          go (inl was) = or_left _ _ ((old.tells b (in_size b less)).1 was)
          go (inr (_, (d, new, is))) = or_right (old.test b) _ (not_from_false _ (subst (λ (z : ℕ). s.owns z ≡ false) is (rep.free d new).1))

      gone : (b : ℕ) → b < s.size → s.owns b ≡ true → t.owns b ≡ false → old.test b ≡ true
      gone b less was is = go (kept_or_given s t n r p k rep.new sound moved b ((sound.owned b).0 was))
        where
          go : Reached t b ⊎ Given s r p b → old.test b ≡ true
          go (inl still) = absurd (both_ways (t.owns b) is ((owned_moved s t n r p k bytes sound rep moved b).1 still))
          go (inr (q, leaves, young, e)) =
              (old.tells b less).1 (r, q, moved.found, (leaves.0, index_at r.height p leaves.0, leaves_has s t n r p k rep.new sound moved q leaves), young, e)

      never : (b : ℕ) → b < s.size → s.owns b ≡ false → old.test b ≡ false
      never b less free = go (cases_Bool (old.test b))
        where
          go : (old.test b ≡ true) ⊎ (old.test b ≡ false) → old.test b ≡ false
          go (inl young) = absurd (both_ways (s.owns b) free ((sound.owned b).1 (young_reached s n b ((old.tells b less).0 young))))
          go (inr e) = e

      sums : count test s.size + given s t ≡ count old.test s.size + taken s t
      sums = count_balance test (λ b. s.owns b && not (t.owns b)) old.test (λ b. t.owns b && not (s.owns b)) s.size
          (λ b less. balance (s.owns b) (t.owns b) (old.test b) (gone b less) (never b less))

  -- each row counts the blocks younger than its previous
  pub born_moved : Born t
  born_moved m x found = go (cases_eq m n)
    where
      now : Row
      now = with_root r (new_at rep.new s.group k 0) (r.born + taken s t - given s t)

      go : (m ≡ n) ⊎ (m ≡ n → ⊥) → HowMany (Young t m) t.size x.born
      go (inl same) =
          let is : now ≡ x = same_row now x (subst (λ (z : ℕ). Dataset t z now) (sym same) moved.row_new) found in
          subst (λ (z : ℕ). HowMany (Young t z) t.size x.born) (sym same) (subst (λ (y : Row). HowMany (Young t n) t.size y.born) is born_head)
      go (inr other) = born_other m x other found
