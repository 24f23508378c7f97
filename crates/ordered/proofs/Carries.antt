-- Records that are carried past others in a slice, by turning the stretch that both take. Assumes nothing.
use Rattle.std.proofs.Common.{◌≡◌, ℕ, ◌+◌, ◌-◌, ◌≤◌, List, ◌++◌, length, take, drop, sym, ap, ◌∙◌, arith}
use Rattle.std.specs.List.{between}
use Rattle.std.proofs.Math.Seq.{drop-append-add, take-append-add}
use Rattle.std.proofs.lemmas.List.{append_assoc, drop-append-le, drop-drop, drop-take, length-take-le, take-append-le, take-take}
use Rattle.std.proofs.lemmas.Slice.{between_is}
use borrow.Rule.Slice.PartMut.{mid_of, post_of, put_mid}

module _ {R : Type 0} (xs : List R) (a b c : ℕ) (low : a ≤ b) (high : b ≤ c) (within : c ≤ length xs) where
  -- what stands at b goes to a
  turned : (ys : List R) (n : ℕ) → n ≡ b - a → ys ≡ drop n (mid_of a (c - a) xs) ++ take n (mid_of a (c - a) xs)
      → put_mid a (c - a) xs ys ≡ take a xs ++ ((between b c xs ++ between a b xs) ++ drop c xs)
  turned ys n is e =
      ap (λ zs. take a xs ++ (zs ++ post_of a (c - a) xs)) (e ∙ ap (λ m. drop m mid ++ take m mid) is ∙ ap (λ zs. zs ++ take (b - a) mid) last ∙ ap (λ zs. between b c xs ++ zs) (take-take (b - a) (c - a) (drop a xs) (omega arith)))
      ∙ ap (λ zs. take a xs ++ ((between b c xs ++ between a b xs) ++ zs)) (drop-drop (c - a) a xs ∙ ap (λ m. drop m xs) (omega arith))
    where
      mid : List R
      mid = mid_of a (c - a) xs

      last : drop (b - a) mid ≡ between b c xs
      last = ap (λ m. drop (b - a) (take m (drop a xs))) (omega arith) ∙ drop-take (b - a) (c - b) (drop a xs) ∙ ap (take (c - b)) (drop-drop (b - a) a xs ∙ ap (λ m. drop m xs) (omega arith))

  -- the records from b on and before c, carried down to a
  pub carried_down : (ys : List R) (n : ℕ) → n ≡ b - a → ys ≡ drop n (mid_of a (c - a) xs) ++ take n (mid_of a (c - a) xs)
      → put_mid a (c - a) xs ys ≡ take a (take b xs ++ drop c xs) ++ (between b c xs ++ drop a (take b xs ++ drop c xs))
  carried_down ys n is e =
      turned ys n is e ∙ ap (λ zs. take a xs ++ zs) (append_assoc (between b c xs) (between a b xs) (drop c xs))
      ∙ sym (ap (λ zs. zs ++ (between b c xs ++ drop a others)) (take-append-le a (take b xs) (drop c xs) fits ∙ take-take a b xs low)
      ∙ ap (λ zs. take a xs ++ (between b c xs ++ zs)) (drop-append-le a (take b xs) (drop c xs) fits ∙ ap (λ zs. zs ++ drop c xs) (sym (between_is xs a b))))
    where
      others : List R
      others = take b xs ++ drop c xs

      fits : a ≤ length (take b xs)
      fits = omega (arith, length-take-le b xs (omega arith))

  -- the records from a on and before b, carried up to c
  pub carried_up : (ys : List R) (n k : ℕ) → n ≡ b - a → k ≡ c - (b - a) → ys ≡ drop n (mid_of a (c - a) xs) ++ take n (mid_of a (c - a) xs)
      → put_mid a (c - a) xs ys ≡ take k (take a xs ++ drop b xs) ++ (between a b xs ++ drop k (take a xs ++ drop b xs))
  carried_up ys n k is at e =
      turned ys n is e ∙ ap (λ zs. take a xs ++ zs) (append_assoc (between b c xs) (between a b xs) (drop c xs)) ∙ sym (append_assoc (take a xs) (between b c xs) (between a b xs ++ drop c xs))
      ∙ sym (ap (λ zs. zs ++ (between a b xs ++ drop k others)) front ∙ ap (λ zs. (take a xs ++ between b c xs) ++ (between a b xs ++ zs)) back)
    where
      others : List R
      others = take a xs ++ drop b xs

      past : k ≡ length (take a xs) + (c - b)
      past = omega (arith, length-take-le a xs (omega arith))

      front : take k others ≡ take a xs ++ between b c xs
      front = ap (λ m. take m others) past ∙ take-append-add (take a xs) (drop b xs) (c - b)

      back : drop k others ≡ drop c xs
      back = ap (λ m. drop m others) past ∙ drop-append-add (take a xs) (drop b xs) (c - b) ∙ drop-drop (c - b) b xs ∙ ap (λ m. drop m xs) (omega arith)
