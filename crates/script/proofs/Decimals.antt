-- Numbers of one to five digits.
use Rattle.std.proofs.Common.{◌≡◌, ℕ, ◌+◌, ◌-◌, ◌*◌, ◌^◌, ◌<◌, ◌≤◌, ◌⊎◌, List, [], ◌∷◌, ◌++◌, length, get_or, take, decimal, sym, refl, ap, ◌∙◌, subst, inl, inr, ⊎_elim, arith, lit<, rules, below_more}
use Rattle.std.specs.Int.{IsInRange}
use Rattle.std.proofs.lemmas.Str.Parse.{IsNumeralModel, numerals_by_fold, tells_by_index, digits_value_short}
use Rattle.std.proofs.lemmas.Fmt.{decimal_nonempty, length-decimal-le, first_decimal, decimal_digit, digits_decimal, decimal-digits_value}
use Rattle.std.proofs.lemmas.List.{take_more, take_all, length-take-le, get_or-take}
use Rattle.std.proofs.str.Laws.{order}

abbrev pub read_on : ℕ → List ℕ → ℕ
read_on n [] = n
read_on n (c ∷ cs) = read_on (10 * n + (c - 48)) cs

abbrev pub AllDigits : List ℕ → Type 0
AllDigits ds = (i : ℕ) → i < length ds → IsInRange 48 57 (get_or ds i 0)

pub own : IsNumeralModel AllDigits (read_on 0)
own = numerals_by_fold _ tells_by_index read_on (search rules)

pub read_push : (n : ℕ) (xs : List ℕ) (c : ℕ) → read_on n (xs ++ c ∷ []) ≡ 10 * read_on n xs + (c - 48)
read_push n [] c = refl
read_push n (x ∷ xs) c = read_push (10 * n + (x - 48)) xs c

-- what the digits of a small number look like
pub record Short (bs : List ℕ) : Type 0 where
  pub some : 0 < length bs
  pub few : length bs ≤ 5
  pub lead : get_or bs 0 0 ≡ 48 → length bs ≡ 1
  pub digits : AllDigits bs

pub small : (n : ℕ) → n < 100000 → n < 2 ^ 64
small n h = omega arith

zero_or_not : (n : ℕ) → (n ≡ 0) ⊎ (0 < n)
zero_or_not n = ⊎_elim (λ h. inr h) (λ h. inl (omega arith)) (order 0 n)

pub short_decimal : (bs : List ℕ) (n : ℕ) → n < 100000 → bs ≡ decimal n → Short bs
short_decimal bs n h e =
    subst Short (sym e) (record {
      some = decimal_nonempty n (small n h);
      few = length-decimal-le 5 n (lit< tt) h (small n h);
      lead = λ z. ⊎_elim (λ w. ap (λ m. length (decimal m)) w ∙ ap length (decimal_digit 0 (lit< tt))) (λ w. absurd (omega (arith, first_decimal n w (small n h)))) (zero_or_not n);
      digits = digits_decimal own n (small n h);
    })

-- the value of a front of at most four digits
pub front_small : (bs : List ℕ) (i : ℕ) → AllDigits (take i bs) → i < length bs → length bs ≤ 5 → read_on 0 (take i bs) < 10000
front_small bs i d h few = digits_value_short own (take i bs) 4 d (omega (arith, length-take-le i bs (omega arith)))

pub digits_more : (bs : List ℕ) (i : ℕ) → i < length bs → AllDigits (take i bs) → IsInRange 48 57 (get_or bs i 0) → AllDigits (take (i + 1) bs)
digits_more bs i h d here =
    let long = length-take-le i bs (omega arith) in
    let more = length-take-le (i + 1) bs (omega arith) in
    let at : (k : ℕ) → k < i + 1 → IsInRange 48 57 (get_or (take (i + 1) bs) k 0) =
    below_more (λ k. IsInRange 48 57 (get_or (take (i + 1) bs) k 0)) i
    (λ k lt. let lt' : k < i + 1 = omega arith in rw (get_or-take (i + 1) bs k 0 lt') (rw get_or-take at (d k (omega arith))))
    (let lt' : i < i + 1 = omega arith in rw (get_or-take (i + 1) bs i 0 lt') here) in
    λ k lt. at k (omega arith)

pub read_more : (bs : List ℕ) (i v : ℕ) → i < length bs → v ≡ read_on 0 (take i bs) → v * 10 + (get_or bs i 0 - 48) ≡ read_on 0 (take (i + 1) bs)
read_more bs i v h e = rw (take_more bs i 0 h, read_push 0 (take i bs) (get_or bs i 0), ← e) (omega arith)

pub read_all : (bs : List ℕ) (i v : ℕ) → 0 < length bs → length bs ≤ 5 → (get_or bs 0 0 ≡ 48 → length bs ≡ 1) → length bs ≤ i → AllDigits (take i bs) → v ≡ read_on 0 (take i bs) → (v < 100000) × (bs ≡ decimal v)
read_all bs i v some few lead end d e =
    let whole = take_all i bs end in
    let all : AllDigits bs = subst AllDigits whole d in
    let is : v ≡ read_on 0 bs = e ∙ ap (read_on 0) whole in
    let low : read_on 0 bs < 100000 = digits_value_short own bs 5 all few in
    (omega arith, sym (ap decimal is ∙ decimal-digits_value own bs all some lead (omega arith)))
