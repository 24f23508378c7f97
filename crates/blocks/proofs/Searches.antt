-- What `find_map` answers over a range of numbers, from what each call answers, and the first bit that is 0. Assumes nothing.
use Rattle.std.proofs.Common.{◌≡◌, ℕ, ◌+◌, ◌-◌, ◌*◌, ◌/◌, ◌<◌, ◌≤◌, max, Bool, true, false, nat_lt, Some, None, Option, MatchOption, IsTrue, sym, refl, subst, ⊎_elim, arith}
use Rattle.std.specs.Bool.{then_some}
use Rattle.std.specs.Fn.{Called}
use Rattle.std.specs.Option.{option_map}
use Rattle.std.specs.Iterator.Runs.{Run, AllItemsGive, IsFirstToGive, CallKeepsClosure, SomeRun}
use Rattle.std.specs.declared.ops.Range.{Range}
use Rattle.std.proofs.lemmas.Bool.{cases_lt, ltb-true, ltb-false}
use Rattle.std.proofs.iter.Yields.{nat_range_steps}
use Rattle.std.proofs.iter.runs.Sources.{range_runs}
use Rattle.blocks.specs.Bits.{FirstFree, Taken}
use denote.Param.Members.{Mut}

-- P holds of each number below that of the answer, with `None`, and of that number with the answer
module _ {B : Type 0} (P : ℕ → Option B → Type 0) where
  abbrev pub Mapped : Range ℕ → Option B → Type 0
  Mapped s r = MatchOption r ((k : ℕ) → s.start ≤ k → k < s.end → P k None) (λ y. (k : ℕ) × (s.start ≤ k) × (k < s.end) × P k (Some y) × ((j : ℕ) → s.start ≤ j → j < k → P j None))

same_some : (o : Option ℕ) (x : ℕ) → option_map (λ y. y) o ≡ Some x → o ≡ Some x
same_some None x e = cc
same_some (Some y) x e = e

-- a call leaves f as it was, and P x o holds of its number and its answer
module _ {F B : Type 0} {g : Mut F (ℕ × Unit {0}) (Option B)} (f : F) (P : ℕ → Option B → Type 0) (said : (x : ℕ) (o : Option B) (q : F) → Called g f (x, tt) o q → (q ≡ f) × P x o) where
  keeps : CallKeepsClosure g f
  keeps a o q c = (said a.0 o q c).0

  module _ (p : Run nat_range_steps) where
    at : (k : ℕ) (o : Option B) → p.from.start ≤ k → k < p.from.start + p.len → ((x : ℕ) → p.at (k - p.from.start) ≡ Some x → Called g f (x, tt) o f) → P k o
    at k o a b called =
        let i : ℕ = k - p.from.start in
        subst (λ k. P k o) (omega arith) (said _ o f (called (p.from.start + i) (same_some (p.at i) (p.from.start + i) ((range_runs p p.seen).3 i (omega arith))))).1

    from_run : (r : Option B) → MatchOption r (IsTrue p.whole × AllItemsGive p g f None) (λ y. (i : ℕ) × (i < p.len) × (p.len ≡ i + 1) × IsFirstToGive p g f (Some y) None i) → Mapped P p.from r
    from_run None h = λ k a b. let long = (range_runs p p.seen).1 h.0 in at k None a (omega (arith, long)) (λ x e. rw e at (h.1 keeps (k - p.from.start)))
    from_run (Some y) h =
        let i = h.0 in
        let few = (range_runs p p.seen).0 in
        let gives = h.3 keeps in
        let last : p.from.start + i - p.from.start ≡ i = omega arith in (
          p.from.start + i,
          omega arith,
          omega (arith, h.1, few),
          at (p.from.start + i) (Some y) (omega arith) (omega (arith, h.1)) (λ x e. let here = rw last at e in rw here at gives.0),
          λ j a b. at j None a (omega (arith, h.1)) (λ x e. rw e at (gives.1 (j - p.from.start) (omega arith))),
        )

  pub mapped_from_range : (s : Range ℕ) (r : Option B)
      → SomeRun nat_range_steps s (λ p. MatchOption r (IsTrue p.whole × AllItemsGive p g f None) (λ y. (i : ℕ) × (i < p.len) × (p.len ≡ i + 1) × IsFirstToGive p g f (Some y) None i))
      → Mapped P s r
  mapped_from_range s r found = subst (λ s. Mapped P s r) found.1 (from_run found.0 r found.2)

-- by whole bytes: the bits of byte i are those from 8 * i on
module _ (s : ℕ → Bool) where
  abbrev pub InByte : ℕ → Option ℕ → Type 0
  InByte i o = MatchOption o (Taken s (max (8 * i) (8 * i)) (8 * i + 8)) (λ n. FirstFree s (max (8 * i) (8 * i)) (8 * i + 8) n)

  -- from one bit on and below another
  abbrev pub First : ℕ → ℕ → Option ℕ → Type 0
  First from to o = MatchOption o (Taken s from to) (λ n. FirstFree s from to n)

  module _ (start end : ℕ) where
    passed : (i : ℕ) → ((j : ℕ) → start ≤ j → j < i → InByte j None) → Taken s (8 * start) (8 * i)
    passed i h k a b = h (k / 8) (omega arith) (omega arith) k (omega arith) (omega arith)

    pub first_in : (r : Option ℕ) → Mapped InByte (record { start = start; end = end }) r → First (8 * start) (8 * end) r
    first_in None found = passed end found
    first_in (Some n) found = record {
      from = omega (arith, found.1, found.3.from);
      under = omega (arith, found.2, found.3.under);
      clear = found.3.clear;
      before = λ k a b. ⊎_elim (λ (l : k < 8 * found.0). passed found.0 found.4 k a l) (λ (l : 8 * found.0 ≤ k). found.3.before k (omega arith) b) (cases_lt k (8 * found.0));
    }

  -- in the first byte, else in the others, and below the end
  module _ (from to end : ℕ) (whole : to ≤ 8 * end) where
    below : (n : ℕ) → s n ≡ false → Taken s from n → from ≤ n → (o : Option ℕ) → o ≡ then_some (nat_lt n to) n → First from to o
    below n clear before up o kept = subst (First from to) (sym kept) (cut (nat_lt n to) refl)
      where
        cut : (b : Bool) → nat_lt n to ≡ b → First from to (then_some b n)
        cut true e = record { from = up; under = ltb-true n to e; clear = clear; before = before }
        cut false e = λ k a b. before k a (omega (arith, ltb-false n to e))

    pub first_free : (near r o : Option ℕ) → First (max from (8 * (from / 8))) (8 * (from / 8) + 8) near → (near ≡ None → First (8 * (from / 8 + 1)) (8 * end) r)
        → ((n : ℕ) → near ≡ Some n → r ≡ Some n) → MatchOption r (o ≡ None) (λ n. o ≡ then_some (nat_lt n to) n) → First from to o
    first_free (Some n) r o found else same kept = below n found.clear (λ k a b. found.before k (omega arith) b) (omega (arith, found.from)) o (let e = same n refl in rw e at kept)
    first_free None None o found else same kept = let later = else refl in
        subst (First from to) (sym kept) (λ k a b. ⊎_elim (λ (l : k < 8 * (from / 8) + 8). found k (omega arith) l) (λ (l : 8 * (from / 8) + 8 ≤ k). later k (omega arith) (omega arith)) (cases_lt k (8 * (from / 8) + 8)))
    first_free None (Some n) o found else same kept = let later = else refl in
        below n later.clear (λ k a b. ⊎_elim (λ (l : k < 8 * (from / 8) + 8). found k (omega arith) l) (λ (l : 8 * (from / 8) + 8 ≤ k). later.before k (omega arith) b) (cases_lt k (8 * (from / 8) + 8)))
        (omega (arith, later.from)) o kept
