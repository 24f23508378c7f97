-- Blocks that leave a set one after another.
use Rattle.std.proofs.Common.{◌≡◌, ℕ, ◌+◌, ◌-◌, true, false, ◌⊎◌, sym, refl, ap, ◌∙◌, ⊎_elim, arith}
use Rattle.std.proofs.lemmas.Bool.{cases_Bool, both_ways}
use Rattle.blocks.specs.Meanings.{Meaning, Unchanged, owned, free}
use Rattle.blocks.proofs.Changes.{owned_less, owned_unchanged}
use Rattle.blocks.proofs.Counts.{count_bound}
use Rattle.reclaim.specs.Giving.{Gave, GivenBack, Fewer}

-- no block leaves
pub back_none : (m : Meaning) (P : ℕ → Type 0) → ((b : ℕ) → P b → ⊥) → GivenBack m m P
back_none m P never = record { size = refl; gone = λ b p. absurd (never b p); others = λ b _. refl }

-- one block leaves
pub back_one : (m w : Meaning) (n : ℕ) → Gave m n w → GivenBack m w (λ b. b ≡ n)
back_one m w n g = record { size = g.0; gone = λ b e. ap w.owns e ∙ g.1.was; others = λ b other. sym (g.1.others b other) }

-- a block that is not owned stays so
pub stays_free : (m w : Meaning) (P : ℕ → Type 0) (b : ℕ) → GivenBack m w P → m.owns b ≡ false → w.owns b ≡ false
stays_free m w P b back free =
    ⊎_elim
    (λ (held : w.owns b ≡ true). absurd (both_ways (m.owns b) free (sym (back.others b (λ p. both_ways (w.owns b) (back.gone b p) held)) ∙ held)))
    (λ (other : w.owns b ≡ false). other)
    (cases_Bool (w.owns b))

-- some blocks leave, and then others
pub back_both : (m w v : Meaning) (P Q R : ℕ → Type 0) → ((b : ℕ) → P b → R b) → ((b : ℕ) → Q b → R b) → ((b : ℕ) → R b → P b ⊎ Q b)
    → GivenBack m w P → GivenBack w v Q → GivenBack m v R
back_both m w v P Q R first then each back more = record {
  size = more.size ∙ back.size;
  gone = λ b r. ⊎_elim (λ (p : P b). stays_free w v Q b more (back.gone b p)) (λ (q : Q b). more.gone b q) (each b r);
  others = λ b none. more.others b (λ q. none (then b q)) ∙ back.others b (λ p. none (first b p));
}

-- the same blocks leave
pub back_like : (m w : Meaning) (P R : ℕ → Type 0) → ((b : ℕ) → P b → R b) → ((b : ℕ) → R b → P b) → GivenBack m w P → GivenBack m w R
back_like m w P R there here back = record { size = back.size; gone = λ b r. back.gone b (here b r); others = λ b none. back.others b (λ p. none (there b p)) }

-- no more blocks are owned than before
pub fewer_gave : (m w : Meaning) (n : ℕ) → Gave m n w → Fewer m w
fewer_gave m w n g = record { size = g.0; fewer = omega (arith, owned_less m w n g) }

pub fewer_unchanged : (m w : Meaning) → Unchanged m w → Fewer m w
fewer_unchanged m w u = record { size = u.size; fewer = omega (arith, owned_unchanged m w u) }

pub fewer_same : (m : Meaning) → Fewer m m
fewer_same m = record { size = refl; fewer = omega arith }

pub fewer_both : (m w v : Meaning) → Fewer m w → Fewer w v → Fewer m v
fewer_both m w v first then = record { size = then.size ∙ first.size; fewer = omega (arith, first.fewer, then.fewer) }

-- as many more blocks are free as fewer are owned
pub freed : (m w : Meaning) (before r : ℕ) → Fewer m w → before ≡ free m → r ≡ free w - before → owned w + r ≡ owned m
freed m w before r fewer was is = omega (arith, fewer.size, fewer.fewer, count_bound m.owns m.size)
