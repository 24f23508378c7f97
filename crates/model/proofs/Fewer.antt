-- Records that each come from another: there are no more of them than of those.
use Rattle.std.proofs.Common.{◌≡◌, suc, ◌≤◌, Bool, true, List, [], ◌∷◌, length, Some, None, sym, refl, ap, ◌∙◌, arith}
use Rattle.std.proofs.lemmas.Bool.{cond-true}
use Rattle.ordered.specs.Order.{ExactlyOne, Holds}
use Rattle.ordered.specs.Tables.{Ascending, same, record_of, without_key}
use Rattle.ordered.proofs.Edits.{others, ascending_without, alone_without}
use Rattle.ordered.proofs.Orders.{same_equal, equal_same}
use Rattle.model.proofs.Rows.{some_none}

-- the record is found by its key
abbrev pub Finds : {R K : Type 0} → (R → K) → (K → K → Bool) → List R → R → Type 0
Finds key below xs x = record_of key below xs (key x) ≡ Some x

module _ {R K : Type 0} (key : R → K) (below : K → K → Bool) (one : (a b : K) → ExactlyOne (Holds below a b) (a ≡ b) (Holds below b a))
    (chain : (a b c : K) → Holds below a b → Holds below b c → Holds below a c) where
  -- a key is its own
  itself : (x : R) → same below (key x) (key x) ≡ true
  itself x = same_equal below one (key x) (key x) refl

  -- there is one record less without a key that is found
  length_without : (xs : List R) (k : K) (x : R) → record_of key below xs k ≡ Some x → suc (length (without_key key below xs k)) ≡ length xs
  length_without [] k x found = absurd (some_none None x found refl)
  length_without (y ∷ xs) k x found = grind (arith, length_without xs k x)

  -- what is found in the rest is found in all, and is not the first
  in_rest : (x : R) (xs : List R) → Ascending key (Holds below) (x ∷ xs) → (y : R) → Finds key below xs y → Finds key below (x ∷ xs) y × (x ≡ y → ⊥)
  in_rest x xs up y found =
      let less = alone_without key below one chain (x ∷ xs) (key x) up (key y) in
      (grind (arith, itself x, less), λ e. grind (arith, itself x, less, ap key e))

  -- what is found beside another is found without it
  found_without : (ys : List R) (a b : R) → Ascending key (Holds below) ys → Finds key below ys a → Finds key below ys b → (a ≡ b → ⊥)
      → Finds key below (without_key key below ys (key a)) b
  found_without ys a b up here there apart =
      grind (arith, alone_without key below one chain ys (key a) up (key b), equal_same below one (key a) (key b), apart)

  -- where each record found in xs is g of one found in ys, xs has no more records than ys
  pub no_more : (g : R → R) (xs ys : List R) → Ascending key (Holds below) xs → Ascending key (Holds below) ys
      → ((x : R) → Finds key below xs x → (y : R) × Finds key below ys y × (g y ≡ x)) → length xs ≤ length ys
  no_more g [] ys up also from = omega arith
  no_more g (x ∷ xs) ys up also from =
      let (y, there, e) = from x (cond-true _ _ _ (itself x)) in
      let less = ascending_without key below one chain ys (key y) also in
      let rest = no_more g xs (without_key key below ys (key y)) (others key below one chain x xs up) less (later y there e) in
      omega (arith, length_without ys (key y) y there)
    where
      later : (y : R) → Finds key below ys y → g y ≡ x → (z : R) → Finds key below xs z
          → (w : R) × Finds key below (without_key key below ys (key y)) w × (g w ≡ z)
      later y there e z found =
          let (here, apart) = in_rest x xs up z found in
          let (w, at, is) = from z here in
          (w, found_without ys y w also there at (λ same. apart (sym e ∙ ap g same ∙ is)), is)
