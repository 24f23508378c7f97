-- A replaced path keeps the owned blocks those that are reached.
use Rattle.std.proofs.Common.{◌≡◌, ℕ, ◌<◌, ◌≤◌, true, ◌⊎◌, List, Some, sym, ap, ◌∙◌, subst, inl, inr}
use Rattle.std.proofs.lemmas.Bool.{cases_eq, cases_lt}
use Rattle.records.specs.declared.rows.Pointer.{Pointer}
use Rattle.records.specs.declared.rows.Row.{Row}
use Rattle.tree.specs.Trees.{Holds, at, index_at}
use Rattle.tree.proofs.Places.{index_wide}
use Rattle.model.specs.Datasets.{State, Dataset, base, Has, Reached}
use Rattle.model.specs.Paths.{Leaves}
use Rattle.model.specs.Soundness.{Sound, OwnedReached}
use Rattle.model.specs.Steps.{Replaced}
use Rattle.model.proofs.Ancestors.{same_row, previous_no_head, young_alone}
use Rattle.model.proofs.Moves.{On, Moved, new_pointer}

-- block b leaves head n for good: it stands on the path, and the previous has it not
abbrev pub Given : State → Row → ℕ → ℕ → Type 0
Given s r p b = (q : Pointer) × Leaves s r p q × (base s r < q.birth) × (q.block ≡ b)

-- a place is on the path or off it
pub on_or_off : (n : ℕ) (r : Row) (p m d i : ℕ) → On n r p m d i ⊎ (On n r p m d i → ⊥)
on_or_off n r p m d i = go (cases_eq m n) (cases_eq i (index_at r.height p d))
  where
    go : (m ≡ n) ⊎ (m ≡ n → ⊥) → (i ≡ index_at r.height p d) ⊎ (i ≡ index_at r.height p d → ⊥) → On n r p m d i ⊎ (On n r p m d i → ⊥)
    go (inl a) (inl b) = inl (a, b)
    go (inr a) _ = inr (λ on. a on.0)
    go (inl a) (inr b) = inr (λ on. b on.1)

module _ (s t : State) (n : ℕ) (r : Row) (p k : ℕ) (new : ℕ → ℕ) (sound : Sound s) (moved : Moved s t n r p k new) where
  -- what leaves stands on the path of n
  pub leaves_has : (q : Pointer) (l : Leaves s r p q) → Has s n l.0 (index_at r.height p l.0) q
  leaves_has q l =
      record { row = r; found = moved.found; holds = record { deep = l.1; wide = index_wide r.height p l.0 moved.position l.1; here = l.2 } }

  -- what stands on the path of n leaves
  pub has_leaves : (m d i : ℕ) (q : Pointer) → Has s m d i q → On n r p m d i → Leaves s r p q
  has_leaves m d i q has on =
      let is : has.row ≡ r = same_row has.row r has.found (subst (λ (z : ℕ). Dataset s z r) (sym on.0) moved.found) in
      let holds : Holds s.memory r.root r.height d i q = subst (λ (x : Row). Holds s.memory x.root x.height d i q) is has.holds in
      (d, holds.deep, subst (λ (j : ℕ). at s.memory r.root d j ≡ Some q) on.1 holds.here)

  -- a previous keeps its places
  pub previous_kept : (a m d i : ℕ) (x : Row) (q : Pointer) → Dataset s a x → x.previous ≡ Some m → Has s m d i q → Has t m d i q
  previous_kept a m d i x q found e has =
      moved.kept m d i q has (λ on. previous_no_head s sound a m x r moved.origin found e (subst (λ (z : ℕ). Dataset s z r) (sym on.0) moved.found) moved.head)

  -- a block that was reached is still reached, or given back
  pub kept_or_given : (b : ℕ) → Reached s b → Reached t b ⊎ Given s r p b
  kept_or_given b (m, (q, (d, i, has), e)) = go (on_or_off n r p m d i)
    where
      at_n : On n r p m d i → Has s n d i q
      at_n on = subst (λ (z : ℕ). Has s z d i q) on.0 has

      older : On n r p m d i → (base s r < q.birth) ⊎ (q.birth ≤ base s r) → Reached t b ⊎ Given s r p b
      older on (inl young) = inr (q, has_leaves m d i q has on, young, e)
      older on (inr old) =
          let law = sound.birth_law n d i r q moved.found (at_n on) old in
          inl (law.0, (q, (d, i, previous_kept n law.0 d i r q moved.found law.1 law.2), e))

      go : On n r p m d i ⊎ (On n r p m d i → ⊥) → Reached t b ⊎ Given s r p b
      go (inl on) = older on (cases_lt (base s r) q.birth)
      go (inr off) = inl (m, (q, (d, i, moved.kept m d i q has off), e))

  -- a block that is given back stands nowhere off the path
  pub given_on : (b m d i : ℕ) (q : Pointer) → Has s m d i q → q.block ≡ b → Given s r p b → On n r p m d i
  given_on b m d i q has e (x, leaves, young, same) =
      let there = leaves_has x leaves in
      let place = sound.identity m n d leaves.0 i (index_at r.height p leaves.0) q x has there (cc) in (
        young_alone s sound n r moved.origin leaves.0 (index_at r.height p leaves.0) x moved.found moved.head there young m d i q has (cc),
        place.1 ∙ ap (index_at r.height p) (sym place.0),
      )

module _ (s t : State) (n : ℕ) (r : Row) (p k : ℕ) (bytes : List ℕ) (sound : Sound s) (rep : Replaced s t n r p k bytes) (moved : Moved s t n r p k rep.new) where
  -- the owned blocks are those reached
  pub owned_moved : OwnedReached t
  owned_moved b = ((λ owned. there ((rep.owned b).0 owned)), back)
    where
      there : ((d : ℕ) × (d < k) × (rep.new d ≡ b)) ⊎ ((s.owns b ≡ true) × (Given s r p b → ⊥)) → Reached t b
      there (inl (d, less, e)) = (n, (new_pointer s rep.new d, (d, index_at r.height p d, moved.made d less), e))
      there (inr (owned, not)) = go (kept_or_given s t n r p k rep.new sound moved b ((sound.owned b).0 owned))
        where
          go : Reached t b ⊎ Given s r p b → Reached t b
          go (inl still) = still
          go (inr gone) = absurd (not gone)

      back : Reached t b → t.owns b ≡ true
      back (m, (q, (d, i, has), e)) = (rep.owned b).1 (go (moved.after m d i q has))
        where
          go : (On n r p m d i × (d < k) × (q ≡ new_pointer s rep.new d)) ⊎ (Has s m d i q × (On n r p m d i → ⊥))
              → ((d : ℕ) × (d < k) × (rep.new d ≡ b)) ⊎ ((s.owns b ≡ true) × (Given s r p b → ⊥))
          go (inl (on, less, is)) = inl (d, less, sym (ap (λ (x : Pointer). x.block) is) ∙ e)
          go (inr (was, off)) =
              inr ((sound.owned b).1 (m, (q, (d, i, was), e)), λ gone. off (given_on s t n r p k rep.new sound moved b m d i q was e gone))

  -- the owned blocks are blocks
  pub below_moved : (b : ℕ) → t.owns b ≡ true → b < t.size
  below_moved b owned = subst (λ (z : ℕ). b < z) (sym moved.size) (go ((rep.owned b).0 owned))
    where
      go : ((d : ℕ) × (d < k) × (rep.new d ≡ b)) ⊎ ((s.owns b ≡ true) × (Given s r p b → ⊥)) → b < s.size
      go (inl (d, less, e)) = subst (λ (z : ℕ). z < s.size) e (rep.free d less).0
      go (inr (was, _)) = sound.shape.below b was
