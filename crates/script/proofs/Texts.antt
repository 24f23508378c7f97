-- A line writes one call.
--     after            what follows the first b
--     one_known        the call of a line with one number
--     two_known        the call of a line with two numbers
--     write_known      the call of a line with two numbers and a text, up to where the text stands
use Rattle.std.proofs.Common.{◌≡◌, ℕ, zero, suc, ◌/◌, ◌%◌, ◌<◌, ◌≤◌, eqb, ltb, false, List, [], ◌∷◌, ◌++◌, length, get_or, drop, Some, codes, decimal, sym, refl, ap, ap₂, ◌∙◌, append_assoc, arith, Bor}
use Rattle.std.specs.Fmt.{digit_glyph, digits, digits_onto}
use Rattle.std.specs.Prelude.{if◌then◌else◌, ◌==◌}
use Rattle.std.proofs.lemmas.Bool.{cond_both, eqb-true}
use Rattle.std.proofs.lemmas.Fmt.{decimal_injective, length-decimal-le}
use Rattle.std.proofs.lemmas.List.{append_cancel_left, length-append}
use Rattle.std.proofs.Math.Seq.{get_or-append_seam}
use Rattle.model.specs.declared.Call.{Call}
use Rattle.model.specs.declared.Call.TheVariants.{Create, Write, Discard, Read, Snapshot, Clone, Destroy, Unique, Used, Bucket}
use Rattle.script.specs.Lines.{call_text, two_numbers}
use Rattle.script.specs.Parts.{Without, until}
use Rattle.script.proofs.Splits.{splits_until}

-- digits are put before what is there, one at least
onto_more : (k n : ℕ) (acc : List ℕ) → length acc < length (digits_onto (suc k) 10 false n acc)
onto_more zero n acc = cond_both (eqb (n / 10) 0) _ _ (λ l. length acc < length l) (λ e. omega arith) (λ e. omega arith)
onto_more (suc k) n acc =
    let rest = onto_more k (n / 10) (digit_glyph false (n % 10) ∷ acc) in
    cond_both (eqb (n / 10) 0) _ _ (λ l. length acc < length l) (λ e. omega arith) (λ e. omega (arith, rest))

-- a number of two digits at most is below 100
small : (n : ℕ) → length (decimal n) ≤ 2 → n < 100
unfolding digits
small n =
    let last : List ℕ = digit_glyph false (n % 10) ∷ [] in
    let both : List ℕ = digit_glyph false (n / 10 % 10) ∷ last in
    cond_both (eqb (n / 10) 0) last (digits_onto 63 10 false (n / 10) last) (λ l. length l ≤ 2 → n < 100) (λ e _. omega (arith, eqb-true (n / 10) 0 e)) (λ _.
    cond_both (eqb (n / 10 / 10) 0) both (digits_onto 62 10 false (n / 10 / 10) both) (λ l. length l ≤ 2 → n < 100) (λ e _. omega (arith, eqb-true (n / 10 / 10) 0 e)) (λ _ short.
    absurd (omega (arith, short, onto_more 61 (n / 10 / 10) both))))

-- no digit is a space
free_cons : (b : ℕ) (bs : List ℕ) → (b ≡ 32 → ⊥) → Without 32 bs → Without 32 (b ∷ bs)
free_cons b bs other free zero low = other
free_cons b bs other free (suc k) low = free k (omega arith)

onto_free : (k n : ℕ) (acc : List ℕ) → Without 32 acc → Without 32 (digits_onto k 10 false n acc)
onto_free zero n acc free = free
onto_free (suc k) n acc free =
    cond_both (eqb (n / 10) 0) _ _ (λ l. Without 32 l) (λ _. more) (λ _. onto_free k (n / 10) _ more)
  where
    glyph : digit_glyph false (n % 10) ≡ 32 → ⊥
    glyph = cond_both (ltb (n % 10) 10) _ _ (λ (d : ℕ). d ≡ 32 → ⊥) (λ _ e. omega arith) (λ _ e. omega arith)

    more : Without 32 (digit_glyph false (n % 10) ∷ acc)
    more = free_cons _ acc glyph free

digits_free : (n : ℕ) → Without 32 (decimal n)
unfolding digits
digits_free n = onto_free 64 n [] (λ k low. absurd (omega arith))

-- one number is written in one way
same_number : (n m : ℕ) → n < 100 → decimal n ≡ decimal m → m ≡ n
same_number n m low e =
    let few : length (decimal n) ≤ 2 = length-decimal-le 2 n (omega arith) (omega arith) (omega arith) in
    let less : m < 100 = small m (omega (arith, ap length e)) in
    sym (decimal_injective n m (omega arith) (omega arith) e)

-- bytes up to a space are told apart from what follows
same_front : (n m : ℕ) (k l : List ℕ) → n < 100 → decimal n ++ (32 ∷ k) ≡ decimal m ++ (32 ∷ l) → (m ≡ n) × (k ≡ l)
same_front n m k l low e = (is, tail (append_cancel_left (decimal n) (32 ∷ k) (32 ∷ l) (e ∙ ap (λ (j : ℕ). decimal j ++ (32 ∷ l)) is)))
  where
    front : (j : ℕ) (rest : List ℕ) → until 32 (decimal j ++ (32 ∷ rest)) ≡ decimal j
    front j rest = splits_until 32 (decimal j ++ (32 ∷ rest)) (decimal j) (Some rest) (digits_free j, refl)

    is : m ≡ n
    is = same_number n m low (sym (front n k) ∙ ap (until 32) e ∙ front m l)

    tail : 32 ∷ k ≡ 32 ∷ l → k ≡ l
    tail same = cc

-- no number has a space
no_number : (n : ℕ) (k l : List ℕ) → k ++ (32 ∷ l) ≡ decimal n → ⊥
no_number n k l e =
    digits_free n (length k) (omega (arith, ap length e, length-append k (32 ∷ l))) (ap (λ bs. get_or bs (length k) 0) (sym e) ∙ get_or-append_seam k 32 l 0)

-- two numbers, and two numbers and a text, as they are cut
two_cut : (n m : ℕ) → two_numbers n m ≡ decimal n ++ (32 ∷ decimal m)
two_cut n m = append_assoc (decimal n) (32 ∷ []) (decimal m)

text_cut : (n p : ℕ) (text : List ℕ) → two_numbers n p ++ codes " " ++ text ≡ decimal n ++ (32 ∷ (decimal p ++ (32 ∷ text)))
text_cut n p text =
    append_assoc (two_numbers n p) (32 ∷ []) text ∙ ap (λ l. l ++ (32 ∷ text)) (two_cut n p) ∙ append_assoc (decimal n) (32 ∷ decimal p) (32 ∷ text)

-- the call of a letter with two numbers, and with one
abbrev two_call : ℕ → ℕ → ℕ → Call
two_call b n m =
    if b == 99 then Create n m else if b == 120 then Discard n m else if b == 112 then Read n m else if b == 115 then Snapshot n m else Clone n m

abbrev one_call : ℕ → ℕ → Call
one_call b n = if b == 100 then Destroy n else if b == 117 then Unique n else Used n

-- the first byte
letter : {b c : ℕ} {k l : List ℕ} → b ∷ k ≡ c ∷ l → b ≡ c
letter e = ap (λ bs. get_or bs 0 0) e

-- the bytes of two numbers behind a letter
paired : (make : ℕ → ℕ → Call) (c i j b n m : ℕ) → ((x y : ℕ) → make x y ≡ two_call c x y) → n < 100 → m < 100
    → c ∷ 32 ∷ two_numbers i j ≡ b ∷ 32 ∷ two_numbers n m → make i j ≡ two_call b n m
paired make c i j b n m is low less e =
    let (first, rest) = same_front n i (decimal m) (decimal j) low (sym (two_cut n m) ∙ sym (ap (drop 2) e) ∙ two_cut i j) in
    let second : j ≡ m = same_number m j less rest in
    ap₂ make first second ∙ is n m ∙ ap (λ (x : ℕ). two_call x n m) (letter e)

-- a line of two numbers
pub two_known : (b n m : ℕ) → (b ≡ 119 → ⊥) → n < 100 → m < 100 → (d : Call) → call_text d ≡ b ∷ 32 ∷ two_numbers n m → d ≡ two_call b n m
two_known b n m other low less (Create i j) e = paired Create 99 i j b n m (λ x y. refl) low less e
two_known b n m other low less (Discard i j) e = paired Discard 120 i j b n m (λ x y. refl) low less e
two_known b n m other low less (Read i j) e = paired Read 112 i j b n m (λ x y. refl) low less e
two_known b n m other low less (Snapshot i j) e = paired Snapshot 115 i j b n m (λ x y. refl) low less e
two_known b n m other low less (Clone i j) e = paired Clone 107 i j b n m (λ x y. refl) low less e
two_known b n m other low less (Write i j text) e = absurd (other (sym (letter e)))
two_known b n m other low less (Destroy i) e = absurd (no_number i (decimal n) (decimal m) (sym (two_cut n m) ∙ sym (ap (drop 2) e)))
two_known b n m other low less (Unique i) e = absurd (no_number i (decimal n) (decimal m) (sym (two_cut n m) ∙ sym (ap (drop 2) e)))
two_known b n m other low less (Used i) e = absurd (no_number i (decimal n) (decimal m) (sym (two_cut n m) ∙ sym (ap (drop 2) e)))
two_known b n m other low less (Bucket i j) e = absurd (omega (arith, ap length e))

-- a line of one number
pub one_known : (b n : ℕ) → n < 100 → (d : Call) → call_text d ≡ b ∷ 32 ∷ decimal n → d ≡ one_call b n
one_known b n low (Create i j) e = absurd (no_number n (decimal i) (decimal j) (sym (two_cut i j) ∙ ap (drop 2) e))
one_known b n low (Discard i j) e = absurd (no_number n (decimal i) (decimal j) (sym (two_cut i j) ∙ ap (drop 2) e))
one_known b n low (Read i j) e = absurd (no_number n (decimal i) (decimal j) (sym (two_cut i j) ∙ ap (drop 2) e))
one_known b n low (Snapshot i j) e = absurd (no_number n (decimal i) (decimal j) (sym (two_cut i j) ∙ ap (drop 2) e))
one_known b n low (Clone i j) e = absurd (no_number n (decimal i) (decimal j) (sym (two_cut i j) ∙ ap (drop 2) e))
one_known b n low (Write i j text) e = absurd (no_number n (two_numbers i j) text.now (sym (append_assoc (two_numbers i j) (32 ∷ []) text.now) ∙ ap (drop 2) e))
one_known b n low (Destroy i) e = ap Destroy (same_number n i low (sym (ap (drop 2) e))) ∙ ap (λ (x : ℕ). one_call x n) (letter e)
one_known b n low (Unique i) e = ap Unique (same_number n i low (sym (ap (drop 2) e))) ∙ ap (λ (x : ℕ). one_call x n) (letter e)
one_known b n low (Used i) e = ap Used (same_number n i low (sym (ap (drop 2) e))) ∙ ap (λ (x : ℕ). one_call x n) (letter e)
one_known b n low (Bucket i j) e = absurd (omega (arith, ap length e))

-- a line of two numbers and a text
pub write_known : (n p : ℕ) (text : List ℕ) → n < 100 → p < 100 → (d : Call) → call_text d ≡ 119 ∷ 32 ∷ (two_numbers n p ++ codes " " ++ text)
    → (x : Bor (List ℕ)) × (d ≡ Write n p x) × (x.now ≡ text)
write_known n p text low less (Write i j x) e =
    let same = sym (text_cut n p text) ∙ sym (ap (drop 2) e) ∙ text_cut i j x.now in
    let (first, rest) = same_front n i (decimal p ++ (32 ∷ text)) (decimal j ++ (32 ∷ x.now)) low same in
    let (second, last) = same_front p j text x.now less rest in
    (x, ap₂ (λ (k l : ℕ). Write k l x) first second, sym last)
write_known n p text low less (Create i j) e = absurd (omega (arith, letter e))
write_known n p text low less (Discard i j) e = absurd (omega (arith, letter e))
write_known n p text low less (Read i j) e = absurd (omega (arith, letter e))
write_known n p text low less (Snapshot i j) e = absurd (omega (arith, letter e))
write_known n p text low less (Clone i j) e = absurd (omega (arith, letter e))
write_known n p text low less (Destroy i) e = absurd (omega (arith, letter e))
write_known n p text low less (Unique i) e = absurd (omega (arith, letter e))
write_known n p text low less (Used i) e = absurd (omega (arith, letter e))
write_known n p text low less (Bucket i j) e = absurd (omega (arith, ap length e))
