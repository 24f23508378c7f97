-- The steps of taking the blocks of a path.
use Rattle.std.proofs.Common.{◌≡◌, ℕ, zero, suc, ◌+◌, ◌<◌, ◌≤◌, true, List, get_or, set, replicate, Ok, Err, sym, refl, ap, ◌∙◌, ⊎_elim, arith, length-set, get_or-set_other, get_or-set_same}
use Rattle.std.proofs.lemmas.Bool.{cases_eq, both_ways}
use Rattle.faults.specs.declared.MemoryCause.{MemoryCause}
use Rattle.blocks.specs.Meanings.{Meaning, free, Taking}
use Rattle.blocks.proofs.Changes.{taken_inside, owned_more}
use Rattle.reclaim.specs.Taking.{Took}

-- zeros everywhere
zero_at : (n d : ℕ) → ◌≡◌ {A = ℕ} (get_or (replicate n 0) d 0) 0
zero_at zero d = refl
zero_at (suc n) zero = refl
zero_at (suc n) (suc d) = zero_at n d

-- nothing is taken yet
pub took_none : (m : Meaning) → Took m m (replicate 5 0) 0
took_none m = record {
  long = refl;
  past = λ d l. zero_at 5 d;
  size = refl;
  below = λ d l. absurd (omega arith);
  new = λ d l. absurd (omega arith);
  apart = λ d e l k. absurd (omega arith);
  held = λ d l. absurd (omega arith);
  others = λ b n. refl;
  number = omega arith;
}

module _ (m w v : Meaning) (path : List ℕ) (k b : ℕ) (k5 : k < 5) (h : Took m w path k) (t : Taking w v (Ok b)) where
  at_k : (d : ℕ) → d ≡ k → get_or (set path k b) d 0 ≡ b
  at_k d e = ap (λ (i : ℕ). get_or (set path k b) i 0) e ∙ get_or-set_same path k b 0 (let l = h.long in omega arith)

  off : (d : ℕ) → (d ≡ k → ⊥) → get_or (set path k b) d 0 ≡ get_or path d 0
  off d n = get_or-set_other path k d b 0 n

  stays : (c : ℕ) → w.owns c ≡ true → v.owns c ≡ true
  stays c e = ⊎_elim (λ (z : c ≡ b). ap v.owns z ∙ t.1.is) (λ (n : c ≡ b → ⊥). t.1.others c n ∙ e) (cases_eq c b)

  -- the block is none of the path yet
  fresh : (d : ℕ) → d < k → get_or path d 0 ≡ b → ⊥
  fresh d l z = both_ways (w.owns b) t.1.was (ap w.owns (sym z) ∙ h.held d l)

  pub took_more : Took m v (set path k b) (k + 1)
  took_more = record {
    long = length-set path k b ∙ h.long;
    past = λ d l. off d (λ e. omega arith) ∙ h.past d (omega arith);
    size = t.0 ∙ h.size;
    below = λ d l.
        ⊎_elim
        (λ (e : d ≡ k). let i = taken_inside w v b t in let s = h.size in let a = at_k d e in omega arith)
        (λ (n : d ≡ k → ⊥). let i = h.below d (omega (arith, n)) in let a = off d n in omega arith)
        (cases_eq d k);
    new = λ d l.
        ⊎_elim
        (λ (e : d ≡ k). ap m.owns (at_k d e) ∙ sym (h.others b fresh) ∙ t.1.was)
        (λ (n : d ≡ k → ⊥). ap m.owns (off d n) ∙ h.new d (omega (arith, n)))
        (cases_eq d k);
    apart = λ d e l el z.
        ⊎_elim
        (λ (q : e ≡ k). fresh d (omega arith) (sym (off d (λ w. omega arith)) ∙ z ∙ at_k e q))
        (λ (n : e ≡ k → ⊥). h.apart d e l (omega (arith, n)) (sym (off d (λ w. omega arith)) ∙ z ∙ off e n))
        (cases_eq e k);
    held = λ d l.
        ⊎_elim
        (λ (e : d ≡ k). ap v.owns (at_k d e) ∙ t.1.is)
        (λ (n : d ≡ k → ⊥). ap v.owns (off d n) ∙ stays (get_or path d 0) (h.held d (omega (arith, n))))
        (cases_eq d k);
    others = λ c n.
        t.1.others c (λ e. n k (omega arith) (at_k k refl ∙ sym e))
        ∙ h.others c (λ d l z. n d (omega arith) (off d (λ w. omega arith) ∙ z));
    number = (let c = owned_more w v b t in let p = h.number in omega arith);
  }

-- a take is not refused while as many blocks are free as are still wanted
pub not_short : (m w v : Meaning) (path : List ℕ) (k count : ℕ) (c : MemoryCause) → k < count → count ≤ free m → Took m w path k → Taking w v (Err c) → ⊥
not_short m w v path k count c l f h t = let n = h.number in let s = h.size in let o = t.1 in omega arith
