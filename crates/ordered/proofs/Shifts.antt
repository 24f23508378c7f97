-- The records in use after a step on the places: one more, one less, one exchanged. Assumes nothing.
use Rattle.std.proofs.Common.{◌≡◌, ℕ, zero, suc, ◌+◌, ◌-◌, ◌<◌, ◌≤◌, min, List, [], ◌∷◌, ◌++◌, length, get_or, take, drop, set, sym, refl, ap, ◌∙◌, arith}
use Rattle.std.specs.List.{copy_within, insert}
use Rattle.std.proofs.Math.Seq.{take-set-lt}
use Rattle.std.proofs.lemmas.List.Edits.{take-paste}
use Rattle.std.proofs.lemmas.List.{append_assoc, drop-take, length-drop, length-take, length-take-le, set_at, take-append-drop, take_more, take-take}

-- as many as there are
pub take_length : {R : Type 0} (n : ℕ) (xs : List R) → take (length (take n xs)) xs ≡ take n xs
take_length zero xs = refl
take_length (suc n) [] = refl
take_length (suc n) (x ∷ xs) = ap (λ ys. x ∷ ys) (take_length n xs)

-- and as many of places that are as many
pub take_used : {R : Type 0} (n c : ℕ) (xs ys : List R) → c ≡ length (take n xs) → length ys ≡ length xs → take c ys ≡ take n ys
take_used n c xs ys is same = ap (λ m. take m ys) (is ∙ length-take n xs ∙ ap (min n) (sym same) ∙ sym (length-take n ys)) ∙ take_length n ys

-- places of which the first c and the others are the same
pub same_parts : {R : Type 0} (c : ℕ) (xs ys : List R) → take c ys ≡ take c xs → drop c ys ≡ drop c xs → ys ≡ xs
same_parts c xs ys front back = sym (take-append-drop c ys) ∙ ap (λ zs. zs ++ drop c ys) front ∙ ap (λ zs. take c xs ++ zs) back ∙ take-append-drop c xs

-- the first n records, from i on
back : {R : Type 0} (xs : List R) (n i : ℕ) → i ≤ n → drop i (take n xs) ≡ take (n - i) (drop i xs)
back xs n i le = let e : n ≡ i + (n - i) = omega arith in ap (λ m. drop i (take m xs)) e ∙ drop-take i (n - i) xs

-- a gap is opened at i, and r is put there
pub gap_filled : {R : Type 0} (xs : List R) (n i : ℕ) (r : R) → i ≤ n → n < length xs
    → take (n + 1) (set (copy_within xs i n (i + 1)) i r) ≡ insert (take n xs) i r
gap_filled {R} xs n i r le room =
    take-set-lt (n + 1) moved i r (omega arith)
    ∙ ap (λ ys. set ys i r) (ap (λ m. take m moved) ends ∙ take-paste xs (i + 1) (drop i xs) (n - i) (omega arith) (omega (arith, length-drop i xs)))
    ∙ ap (λ ys. set (ys ++ rest) i r) (take_more xs i r (omega arith))
    ∙ ap (λ ys. set ys i r) (append_assoc (take i xs) (get_or xs i r ∷ []) rest)
    ∙ set_at (take i xs) (get_or xs i r) rest r i (length-take-le i xs (omega arith))
    ∙ sym (ap (λ ys. ys ++ r ∷ drop i (take n xs)) (take-take i n xs le) ∙ ap (λ ys. take i xs ++ r ∷ ys) (back xs n i le))
  where
    moved : List R
    moved = copy_within xs i n (i + 1)

    rest : List R
    rest = take (n - i) (drop i xs)

    ends : n + 1 ≡ i + 1 + (n - i)
    ends = omega arith

-- the gap that the records from i on and before j leave is closed
pub gap_closed : {R : Type 0} (xs : List R) (n i j : ℕ) → i ≤ j → j ≤ n → n ≤ length xs
    → take (n - (j - i)) (copy_within xs j n i) ≡ take i (take n xs) ++ drop j (take n xs)
gap_closed {R} xs n i j le past within =
    ap (λ m. take m (copy_within xs j n i)) ends
    ∙ take-paste xs i (drop j xs) (n - j) (omega arith) (omega (arith, length-drop j xs))
    ∙ sym (ap (λ ys. ys ++ drop j (take n xs)) (take-take i n xs (omega arith)) ∙ ap (λ ys. take i xs ++ ys) (back xs n j past))
  where
    ends : n - (j - i) ≡ i + (n - j)
    ends = omega arith
