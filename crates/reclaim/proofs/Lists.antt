-- The blocks of a list of dead records, given back one after another.
use Rattle.std.proofs.Common.{◌≡◌, ℕ, ◌+◌, ◌<◌, false, List, length, get_or, sym, ap, ◌∙◌, inl, inr, ⊎_elim, arith}
use Rattle.std.proofs.lemmas.Bool.{both_ways, cases_eq}
use Rattle.std.proofs.lemmas.List.{get_or_default}
use Rattle.blocks.specs.Meanings.{Meaning, owned}
use Rattle.blocks.proofs.Changes.{owned_less}
use Rattle.records.specs.declared.dead.DeadRecord.{DeadRecord}
use Rattle.reclaim.specs.Giving.{Gave, GivenBack, Fewer, InList, ListReady}
use Rattle.reclaim.proofs.Sets.{back_none, back_one, back_both, back_like}

-- the block of record i of a list
abbrev pub block_at : List DeadRecord → ℕ → ℕ
block_at list i = (get_or list i (record { dataset = 0; birth = 0; block = 0 })).block

-- one of the first k records of a list has block b
abbrev pub InFirst : List DeadRecord → ℕ → ℕ → Type 0
InFirst list k b = (i : ℕ) × (i < k) × (block_at list i ≡ b)

-- the blocks of the first k records are given back
pub record Listed (m w : Meaning) (list : List DeadRecord) (k : ℕ) : Type 0 where
  pub back : GivenBack m w (InFirst list k)
  pub number : owned w + k ≡ owned m

pub listed_none : (m : Meaning) (list : List DeadRecord) → Listed m m list 0
listed_none m list = record { back = back_none m (InFirst list 0) (λ b f. let small = f.1 in omega arith); number = omega arith }

pub listed_more : (m w v : Meaning) (list : List DeadRecord) (k : ℕ) → Listed m w list k → Gave w (block_at list k) v → Listed m v list (k + 1)
listed_more m w v list k before gave = record {
  back = back_both m w v (InFirst list k) (λ b. b ≡ block_at list k) (InFirst list (k + 1))
      (λ b f. let small = f.1 in (f.0, omega arith, f.2))
      (λ b e. (k, omega arith, sym e))
      (λ b f. ⊎_elim
      (λ (e : f.0 ≡ k). inr (sym f.2 ∙ ap (block_at list) e))
      (λ (other : f.0 ≡ k → ⊥). let small = f.1 in inl (f.0, omega (arith, other), f.2))
      (cases_eq f.0 k))
      before.back (back_one w v (block_at list k) gave);
  number = omega (arith, owned_less w v (block_at list k) gave, before.number);
}

-- the next record is not refused
pub listed_next : (m w : Meaning) (list : List DeadRecord) (k : ℕ) → k < length list → ListReady m list → Listed m w list k → w.owns (block_at list k) ≡ false → ⊥
listed_next m w list k inside ready before free =
    both_ways (w.owns (block_at list k)) free (before.back.others (block_at list k) (λ f. ready.apart f.0 k _ f.1 inside f.2) ∙ ready.owned k _ inside)

-- the first records of a list are all of it
pub listed_all : (m w : Meaning) (list : List DeadRecord) (k : ℕ) → k ≡ length list → Listed m w list k → GivenBack m w (InList list)
listed_all m w list k all listed = back_like m w (InFirst list k) (InList list)
    (λ b f. let inside = f.1 in (f.0, get_or list f.0 _, omega arith, get_or_default list f.0 _ _ (omega arith), f.2))
    (λ b any. (any.0, omega (arith, any.2), ap (λ (r : DeadRecord). r.block) (get_or_default list any.0 _ any.1 any.2 ∙ any.3) ∙ any.4))
    listed.back

pub listed_fewer : (m w : Meaning) (list : List DeadRecord) (k : ℕ) → Listed m w list k → Fewer m w
listed_fewer m w list k listed = record { size = listed.back.size; fewer = omega (arith, listed.number) }
