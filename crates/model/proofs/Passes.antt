-- What destroying a snapshot leaves of the other datasets.
--     beyond n p o      the previous o, or p where it is n
--     past n p r        the row r but for its count, with the previous beyond n
--     Passed s t n p    t is s without snapshot n, whose previous is p
use Rattle.std.proofs.Common.{◌≡◌, ℕ, ◌<◌, true, cond, eqb, ◌⊎◌, Some, None, Ok, Option, sym, refl, ap, ◌∙◌, subst, inl, inr, arith}
use Rattle.std.specs.Option.{option_map}
use Rattle.std.proofs.lemmas.Bool.{cases_eq, cond-true, cond-false, eq-eqb, ne_eqb}
use Rattle.std.proofs.lemmas.Bool.Decides.{nat_tests}
use Rattle.records.specs.declared.rows.Pointer.{Pointer}
use Rattle.records.specs.declared.rows.Row.{Row}
use Rattle.model.specs.Datasets.{State, Dataset, IsSnapshot, base, Buried}
use Rattle.model.specs.Families.{IsClone}
use Rattle.model.specs.Soundness.{Sound}
use Rattle.model.specs.Steps.{with_previous, SnapshotDestroyed, Destroyed, Step}
use Rattle.model.specs.declared.Answer.{Answer}
use Rattle.model.specs.declared.Call.TheVariants.{Destroy}
use Rattle.model.proofs.Places.{one_row}
use Rattle.model.proofs.Rows.{some_none, row_of}
use Rattle.model.proofs.SameTrees.{bare, uncounted, plain, mapped}
use Rattle.model.proofs.Skipping.{next, alone, row_gone, row_now, row_other}

-- the previous o, or p where it is n
abbrev pub beyond : ℕ → Option ℕ → Option ℕ → Option ℕ
beyond n p None = None
beyond n p (Some k) = cond (eqb k n) p (Some k)

beyond_here : (n : ℕ) (p o : Option ℕ) → o ≡ Some n → beyond n p o ≡ p
beyond_here n p o e = ap (beyond n p) e ∙ cond-true _ _ _ (eq-eqb n n refl)

beyond_other : (n : ℕ) (p o : Option ℕ) → (o ≡ Some n → ⊥) → beyond n p o ≡ o
beyond_other n p None other = refl
beyond_other n p (Some k) other = cond-false _ _ _ (ne_eqb k n (λ e. other (ap (λ (j : ℕ). Some j) e)))

-- beyond n and m, whose previous are p and q, in either order
pub beyond_both : (n m : ℕ) (p q o : Option ℕ) → (n ≡ m → ⊥) → (p ≡ Some n → ⊥) → (q ≡ Some m → ⊥) → (p ≡ Some m → q ≡ Some n → ⊥)
    → beyond m (beyond n p q) (beyond n p o) ≡ beyond n (beyond m q p) (beyond m q o)
beyond_both n m p q None apart own_n own_m circle = refl
beyond_both n m p q (Some k) apart own_n own_m circle = grind (arith, nat_tests, beyond_other n p q, beyond_here n p q, beyond_other m q p, beyond_here m q p)

-- the row r but for its count, with the previous beyond n
abbrev pub past : ℕ → Option ℕ → Row → Row
past n p r = with_previous r (beyond n p r.previous) 0

pub record Passed (s t : State) (n : ℕ) (p : Option ℕ) : Type 0 where
  pub bare : bare t ≡ bare s
  pub gone : plain t n ≡ None
  pub others : (k : ℕ) → (k ≡ n → ⊥) → plain t k ≡ option_map (past n p) (plain s k)
  pub owned : (b : ℕ) → t.owns b ≡ true → s.owns b ≡ true

module _ (s t : State) (n : ℕ) (r : Row) (sound : Sound s) (here : Dataset s n r) (clones : (k : ℕ) → IsClone s n k → ⊥) (gone : SnapshotDestroyed s t n r) where
  abbrev Beyond : ℕ → Type 0
  Beyond k = plain t k ≡ option_map (past n r.previous) (plain s k)

  -- the next has the previous beyond n
  beyond_next : Beyond gone.next
  beyond_next =
      let (previous, _) = next s t n r sound here clones gone in
      ap (option_map uncounted) (row_now s t n r sound here clones gone)
      ∙ ap (λ o. Some (with_previous gone.row o 0)) (sym (beyond_here n r.previous gone.row.previous previous))
      ∙ ap (λ o. option_map (past n r.previous) (option_map uncounted o)) (sym gone.found)

  -- and the others have theirs, which is not n
  beyond_kept : (k : ℕ) → (k ≡ n → ⊥) → (k ≡ gone.next → ⊥) → Beyond k
  beyond_kept k other beside = ap (option_map uncounted) (row_other s t n r sound here clones gone k other beside) ∙ go (row_of s.rows k) refl
    where
      go : (o : Option Row) → row_of s.rows k ≡ o → option_map uncounted o ≡ option_map (past n r.previous) (option_map uncounted o)
      go None e = refl
      go (Some x) e =
          ap (λ o. Some (with_previous x o 0))
          (sym (beyond_other n r.previous x.previous (λ is. beside (alone s t n r sound here clones gone k (x, e, is)))))

  passed : Passed s t n r.previous
  passed = record {
    bare = ap bare gone.rest;
    gone = ap (option_map uncounted) (row_gone s t n r sound here clones gone);
    others = λ k other. others k other (cases_eq k gone.next);
    owned = λ b own. owned b ((gone.owned b).0 own);
  }
    where
      others : (k : ℕ) → (k ≡ n → ⊥) → (k ≡ gone.next) ⊎ (k ≡ gone.next → ⊥) → Beyond k
      others k other (inl e) = subst Beyond (sym e) beyond_next
      others k other (inr beside) = beyond_kept k other beside

      owned : (b : ℕ) → ⊥ ⊎ ((s.owns b ≡ true) × (((q : Pointer) × Buried s gone.next q × (base s r < q.birth) × (q.block ≡ b)) → ⊥)) → s.owns b ≡ true
      owned b (inl never) = absurd never
      owned b (inr (own, _)) = own

-- a granted destroy of a snapshot passes it
pub destroy_passed : (s t : State) (n x : ℕ) (a : Answer) → Sound s → (is : IsSnapshot s n x) → Step s (Destroy n) (Ok a) t → Passed s t n is.0.previous
destroy_passed s t n x a sound (r, here, kind) (asked, (_, (q, there, destroyed))) =
    passed s t n r sound here asked.1.1.0 (subst (Destroyed s t n r) kind (subst (λ (z : Row). Destroyed s t n z z.kind) (one_row s n q r there here) destroyed))

module _ (s t : State) (n : ℕ) (p : Option ℕ) (passed : Passed s t n p) where
  -- a dataset of t was there, and is not n
  pub was_there : (k : ℕ) (y : Row) → Dataset t k y → (k ≡ n → ⊥) × ((x : Row) × Dataset s k x × (past n p x ≡ uncounted y))
  was_there k y there =
      let (z, plain_z, e) = old in
      let (x, here, is) = mapped uncounted (row_of s.rows k) z plain_z in
      (other, (x, here, ap (past n p) is ∙ e))
    where
      now : plain t k ≡ Some (uncounted y)
      now = ap (option_map uncounted) there

      other : k ≡ n → ⊥
      other e = some_none (plain t n) (uncounted y) (ap (plain t) (sym e) ∙ now) passed.gone

      old : (z : Row) × (plain s k ≡ Some z) × (past n p z ≡ uncounted y)
      old = mapped (past n p) (plain s k) (uncounted y) (sym (passed.others k other) ∙ now)

  -- another dataset is still there, with the previous beyond n
  still_there : (k : ℕ) (x : Row) → (k ≡ n → ⊥) → Dataset s k x → (y : Row) × Dataset t k y × (uncounted y ≡ past n p x)
  still_there k x other here = mapped uncounted (row_of t.rows k) (past n p x) (passed.others k other ∙ ap (λ o. option_map (past n p) (option_map uncounted o)) here)

  pub still_snapshot : (k x : ℕ) → (k ≡ n → ⊥) → (is : IsSnapshot s k x) → (now : IsSnapshot t k x) × (now.0.previous ≡ beyond n p is.0.previous)
  still_snapshot k x other (r, here, kind) =
      let (y, there, e) = still_there k r other here in
      ((y, there, ap (λ (z : Row). z.kind) e ∙ kind), ap (λ (z : Row). z.previous) e)
