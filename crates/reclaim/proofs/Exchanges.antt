-- A new path comes and an old one leaves: the blocks that are owned after both, how many were taken, and how many given.
--     YoungLeaver old stamp b     a pointer of the old path, born after the stamp, leads to block b
use Rattle.std.proofs.Common.{◌≡◌, ℕ, zero, suc, ◌+◌, ◌<◌, Bool, true, false, cond, not, ◌&&◌, ◌⊎◌, ◌↔◌, List, get_or, Some, None, Option, sym, refl, ap, ◌∙◌, subst, inl, inr, arith}
use Rattle.std.proofs.lemmas.Bool.{cases_eq, both_ways}
use Rattle.blocks.specs.Meanings.{Meaning, owned}
use Rattle.blocks.specs.Sets.{count}
use Rattle.blocks.proofs.Counts.{count_empty}
use Rattle.records.specs.declared.dead.DeadRecord.{DeadRecord}
use Rattle.records.specs.declared.rows.Pointer.{Pointer}
use Rattle.model.proofs.Counts.{count_balance}
use Rattle.reclaim.specs.Leaving.{Departed}
use Rattle.reclaim.specs.Taking.{Took}

-- a pointer of the old path, born after the stamp, leads to block b
abbrev pub YoungLeaver : List (Option Pointer) → ℕ → ℕ → Type 0
YoungLeaver old stamp b = (i : ℕ) × (q : Pointer) × (get_or old i None ≡ Some q) × (stamp < q.birth) × (q.block ≡ b)

-- some d below k has f d ≡ b, or none has
found_or_none : (f : ℕ → ℕ) (b k : ℕ) → ((d : ℕ) × (d < k) × (f d ≡ b)) ⊎ ((d : ℕ) → d < k → f d ≡ b → ⊥)
found_or_none f b zero = inr (λ d less e. omega arith)
found_or_none f b (suc k) = go (cases_eq (f k) b) (found_or_none f b k)
  where
    go : (f k ≡ b) ⊎ (f k ≡ b → ⊥) → ((d : ℕ) × (d < k) × (f d ≡ b)) ⊎ ((d : ℕ) → d < k → f d ≡ b → ⊥)
        → ((d : ℕ) × (d < suc k) × (f d ≡ b)) ⊎ ((d : ℕ) → d < suc k → f d ≡ b → ⊥)
    go (inl here) _ = inl (k, omega arith, here)
    go (inr _) (inl (d, less, e)) = inl (d, omega arith, e)
    go (inr other) (inr none) = inr (λ d less e. last d less e (cases_eq d k))
      where
        last : (d : ℕ) → d < suc k → f d ≡ b → (d ≡ k) ⊎ (d ≡ k → ⊥) → ⊥
        last d less e (inl same) = other (subst (λ (x : ℕ). f x ≡ b) same e)
        last d less e (inr apart) = none d (omega arith) e

-- one block, owned before, between and after: between are those before, and those taken
taken_one : (was mid is : Bool) → (was ≡ true → mid ≡ true) → (was ≡ false → is ≡ mid)
    → cond mid 1 0 + 0 ≡ cond was 1 0 + cond (is && not was) 1 0
taken_one true mid true stays new = rw (stays refl)
taken_one true mid false stays new = rw (stays refl)
taken_one false mid true stays new = rw (← new refl)
taken_one false mid false stays new = rw (← new refl)

-- one block, owned before, between and after: between are those after, and those given back
given_one : (was mid is : Bool) → (was ≡ true → mid ≡ true) → (was ≡ false → is ≡ mid)
    → cond mid 1 0 + 0 ≡ cond is 1 0 + cond (was && not is) 1 0
given_one true mid true stays new = rw (stays refl)
given_one true mid false stays new = rw (stays refl)
given_one false mid true stays new = rw (← new refl)
given_one false mid false stays new = rw (← new refl)

-- a set that is at each number the sum of two others is so in its count
count_parts : (a c d : ℕ → Bool) (n : ℕ) → ((k : ℕ) → cond (a k) 1 0 + 0 ≡ cond (c k) 1 0 + cond (d k) 1 0) → count a n ≡ count c n + count d n
count_parts a c d n each =
    let sums = count_balance a (λ k. false) c d n (λ k less. each k) in
    let none = count_empty (λ k. false) n (λ k less. refl) in
    omega arith

module _ (m w v : Meaning) (path : List ℕ) (k : ℕ) (dead dead' : List DeadRecord) (n stamp : ℕ) (old : List (Option Pointer)) (given : ℕ)
    (took : Took m w path k) (left : Departed w v dead dead' n stamp old given)
    (held : (i : ℕ) (q : Pointer) → get_or old i None ≡ Some q → m.owns q.block ≡ true) where
  -- block b is new
  abbrev Newcomer : ℕ → Type 0
  Newcomer b = (d : ℕ) × (d < k) × (get_or path d 0 ≡ b)

  -- a new block was free
  new_free : (b : ℕ) → Newcomer b → m.owns b ≡ false
  new_free b (d, less, e) = subst (λ (x : ℕ). m.owns x ≡ false) e (took.new d less)

  -- a block that was owned is owned once the new ones are
  was_mid : (b : ℕ) → m.owns b ≡ true → w.owns b ≡ true
  was_mid b was = go (found_or_none (λ d. get_or path d 0) b k)
    where
      go : Newcomer b ⊎ ((d : ℕ) → d < k → get_or path d 0 ≡ b → ⊥) → w.owns b ≡ true
      go (inl new) = absurd (both_ways (m.owns b) (new_free b new) was)
      go (inr none) = took.others b none ∙ was

  -- a young block that leaves was owned
  leaver_was : (b : ℕ) → YoungLeaver old stamp b → m.owns b ≡ true
  leaver_was b (i, q, here, young, e) = subst (λ (x : ℕ). m.owns x ≡ true) e (held i q here)

  -- and is owned no more
  leaver_gone : (b : ℕ) → YoungLeaver old stamp b → v.owns b ≡ false
  leaver_gone b (i, q, here, young, e) = subst (λ (x : ℕ). v.owns x ≡ false) e (left.gone i q here young)

  -- a block that does not leave stays as it is
  mid_after : (b : ℕ) → (YoungLeaver old stamp b → ⊥) → v.owns b ≡ w.owns b
  mid_after b stays = left.others b (λ i q here young e. stays (i, q, here, young, e))

  -- a block that was free does not leave
  free_after : (b : ℕ) → m.owns b ≡ false → v.owns b ≡ w.owns b
  free_after b free = mid_after b (λ leaver. both_ways (m.owns b) free (leaver_was b leaver))

  -- owned after both are the new blocks, and those that were owned and do not leave young
  pub after_owned : (b : ℕ) → (v.owns b ≡ true) ↔ (((d : ℕ) × (d < k) × (get_or path d 0 ≡ b)) ⊎ ((m.owns b ≡ true) × (YoungLeaver old stamp b → ⊥)))
  after_owned b = (there (found_or_none (λ d. get_or path d 0) b k), back)
    where
      there : Newcomer b ⊎ ((d : ℕ) → d < k → get_or path d 0 ≡ b → ⊥) → v.owns b ≡ true → Newcomer b ⊎ ((m.owns b ≡ true) × (YoungLeaver old stamp b → ⊥))
      there (inl new) _ = inl new
      there (inr none) is =
          let stays : YoungLeaver old stamp b → ⊥ = λ leaver. both_ways (v.owns b) (leaver_gone b leaver) is in
          inr (sym (took.others b none) ∙ sym (mid_after b stays) ∙ is, stays)

      back : Newcomer b ⊎ ((m.owns b ≡ true) × (YoungLeaver old stamp b → ⊥)) → v.owns b ≡ true
      back (inl new) = free_after b (new_free b new) ∙ subst (λ (x : ℕ). w.owns x ≡ true) new.2 (took.held new.0 new.1)
      back (inr (was, stays)) = mid_after b stays ∙ was_mid b was

  -- as many are owned between, at the size of m
  mid_number : count w.owns m.size ≡ owned m + k
  mid_number = ap (count w.owns) (sym took.size) ∙ took.number

  -- and after
  after_number : count v.owns m.size + given ≡ count w.owns m.size
  after_number = subst (λ (z : ℕ). count v.owns z + given ≡ count w.owns m.size) (left.size ∙ took.size) (left.number ∙ ap (count w.owns) took.size)

  -- k blocks are owned after that were not before
  pub taken_number : count (λ b. v.owns b && not (m.owns b)) m.size ≡ k
  taken_number =
      let sums = count_parts w.owns m.owns (λ b. v.owns b && not (m.owns b)) m.size (λ b. taken_one (m.owns b) (w.owns b) (v.owns b) (was_mid b) (free_after b)) in
      let mid = mid_number in
      omega arith

  -- the blocks that were owned before and are not after are those given back
  pub given_number : count (λ b. m.owns b && not (v.owns b)) m.size ≡ given
  given_number =
      let sums = count_parts w.owns v.owns (λ b. m.owns b && not (v.owns b)) m.size (λ b. given_one (m.owns b) (w.owns b) (v.owns b) (was_mid b) (free_after b)) in
      let after = after_number in
      omega arith
