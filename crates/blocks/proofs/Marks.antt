-- The laws of bits in bytes.
use Rattle.std.proofs.Common.{◌≡◌, ℕ, zero, suc, ◌+◌, ◌-◌, ◌/◌, ◌%◌, ◌^◌, ◌<◌, ◌≤◌, true, not, eqb, List, length, get_or, sym, refl, ap, ◌∙◌, ◌≢◌, ⊎_elim, arith, get_or-set_other, get_or-set_same, w8}
use Rattle.std.specs.Int.{bit_at, trailing_ones}
use Rattle.std.specs.Int.RustNames.{bit_xor}
use Rattle.std.proofs.lemmas.Bool.{cases_eq, cases_lt}
use Rattle.std.proofs.lemmas.Bool.Decides.{nat_tests}
use Rattle.std.proofs.lemmas.Nat.{shr-shr, shr_le}
use Rattle.std.proofs.lemmas.Nat.Bits.{bit_at-lt, bit_at_above, bit_at_ones, bit_at_xor, bit_at-pow_same, bit_at-pow_other, bit_at-trailing_ones}
use Rattle.blocks.specs.Bits.{bit, bits, flipped, FirstClear}

-- a full byte
pub full : (k : ℕ) → k < 8 → bit 255 k ≡ true
full k h = ap (λ x. eqb x 1) (bit_at_ones 8 k h)

-- the first bit of another byte that is 0, from bit a on
module _ (v a : ℕ) (some : v < 255) (low : a < 8) where
  abbrev ones : ℕ
  ones = trailing_ones w8 (v / 2 ^ a)

  -- bit i of the byte without its first a bits
  shifted : (k : ℕ) → a ≤ k → bit_at v k ≡ bit_at (v / 2 ^ a) (k - a)
  shifted k h = let e : a + (k - a) ≡ k = omega arith in ap (λ i. v / 2 ^ i % 2) (sym e) ∙ sym (ap (λ x. x % 2) (shr-shr v a (k - a)))

  first_of_other : FirstClear v a (a + ones)
  first_of_other =
      let few : v / 2 ^ a + 1 < 2 ^ 8 = omega (arith, shr_le v a) in
      let first = bit_at-trailing_ones w8 (v / 2 ^ a) few in
      record {
        from = omega arith;
        within = ⊎_elim (λ (h : 8 < a + ones). absurd (omega (arith, first.2 (8 - a) (omega arith), shifted 8 (omega arith), bit_at_above v 8 8 (omega arith) (omega arith)))) (λ (h : a + ones ≤ 8). h) (cases_lt 8 (a + ones));
        clear = λ h. ap (λ x. eqb x 1) (shifted (a + ones) (omega arith) ∙ ap (bit_at (v / 2 ^ a)) (omega arith) ∙ first.1);
        before = λ k h l. ap (λ x. eqb x 1) (shifted k h ∙ first.2 (k - a) (omega arith));
      }

-- of a full byte there is none
full_ones : (a : ℕ) → a < 8 → a + trailing_ones w8 (255 / 2 ^ a) ≡ 8
unfolding lib.Count.count_trailing_zeros
full_ones zero h = refl
full_ones (suc zero) h = refl
full_ones (suc (suc zero)) h = refl
full_ones (suc (suc (suc zero))) h = refl
full_ones (suc (suc (suc (suc zero)))) h = refl
full_ones (suc (suc (suc (suc (suc zero))))) h = refl
full_ones (suc (suc (suc (suc (suc (suc zero)))))) h = refl
full_ones (suc (suc (suc (suc (suc (suc (suc zero))))))) h = refl
full_ones (suc (suc (suc (suc (suc (suc (suc (suc a)))))))) h = absurd (omega arith)

first_of_full : (v a : ℕ) → v ≡ 255 → a < 8 → FirstClear v a (a + trailing_ones w8 (v / 2 ^ a))
first_of_full v a e low = rw e (record {
  from = omega (arith, full_ones a low);
  within = omega (arith, full_ones a low);
  clear = λ h. absurd (omega (arith, full_ones a low));
  before = λ k h l. full k (omega (arith, full_ones a low));
})

pub first_clear : (v a : ℕ) → v < 256 → a < 8 → FirstClear v a (a + trailing_ones w8 (v / 2 ^ a))
first_clear v a byte low = ⊎_elim (λ (h : v < 255). first_of_other v a h low) (λ (h : 255 ≤ v). first_of_full v a (omega arith) low) (cases_lt v 255)

-- one bit of a byte turned
turned : (d : ℕ) → d < 2 → eqb ((d + 1) % 2) 1 ≡ not (eqb d 1)
turned d h = grind (arith, nat_tests)

kept : (d : ℕ) → d < 2 → (d + 0) % 2 ≡ d
kept d h = omega arith

turned_here : (v k : ℕ) → bit (bit_xor v (2 ^ k)) k ≡ not (bit v k)
turned_here v k = ap (λ x. eqb x 1) (bit_at_xor v (2 ^ k) k ∙ ap (λ b. (bit_at v k + b) % 2) (bit_at-pow_same k)) ∙ turned (bit_at v k) (bit_at-lt v k)

turned_other : (v k j : ℕ) → j ≢ k → bit (bit_xor v (2 ^ k)) j ≡ bit v j
turned_other v k j ne = ap (λ x. eqb x 1) (bit_at_xor v (2 ^ k) j ∙ ap (λ b. (bit_at v j + b) % 2) (bit_at-pow_other k j ne) ∙ kept (bit_at v j) (bit_at-lt v j))

module _ (bytes : List ℕ) (n : ℕ) (inside : n / 8 < length bytes) where
  byte_turned : get_or (flipped bytes n) (n / 8) 0 ≡ bit_xor (get_or bytes (n / 8) 0) (2 ^ (n % 8))
  byte_turned = get_or-set_same bytes (n / 8) (bit_xor (get_or bytes (n / 8) 0) (2 ^ (n % 8))) 0 inside

  -- bit n is turned
  pub flip_here : bits (flipped bytes n) n ≡ not (bits bytes n)
  flip_here = ap (λ (x : ℕ). bit x (n % 8)) byte_turned ∙ turned_here (get_or bytes (n / 8) 0) (n % 8)

  -- and no other
  pub flip_other : (k : ℕ) → k ≢ n → bits (flipped bytes n) k ≡ bits bytes k
  flip_other k ne =
      ⊎_elim
      (λ (e : k / 8 ≡ n / 8).
      ap (λ (i : ℕ). bit (get_or (flipped bytes n) i 0) (k % 8)) e
      ∙ ap (λ (x : ℕ). bit x (k % 8)) byte_turned
      ∙ turned_other (get_or bytes (n / 8) 0) (n % 8) (k % 8) (λ q. ne (omega arith))
      ∙ ap (λ (i : ℕ). bit (get_or bytes i 0) (k % 8)) (sym e))
      (λ (e : k / 8 ≢ n / 8). ap (λ (x : ℕ). bit x (k % 8)) (get_or-set_other bytes (n / 8) (k / 8) (bit_xor (get_or bytes (n / 8) 0) (2 ^ (n % 8))) 0 e))
      (cases_eq (k / 8) (n / 8))
