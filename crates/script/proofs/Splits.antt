-- Bytes cut at a separator, and the words between the spaces.
use Rattle.std.proofs.Common.{◌≡◌, ℕ, suc, ◌-◌, ◌≤◌, Bool, true, false, ◌&&◌, eqb, ltb, List, [], ◌∷◌, ◌++◌, length, Some, None, Option, refl, ap, ◌∙◌, arith, eq-eqb, ne_eqb}
use Rattle.std.proofs.lemmas.Bool.{cond_both}
use Rattle.script.specs.Parts.{Without, Splits, Cut, until}
use Rattle.script.specs.declared.parts.Part.{Part}
use Rattle.script.specs.Words.{words, first_words, onto}

-- what stands before the first b
until_whole : (b : ℕ) (f : List ℕ) → Without b f → until b f ≡ f
until_whole b [] free = refl
until_whole b (x ∷ f) free = rw (ne_eqb x b (free 0 (omega arith)), until_whole b f (λ k lt. free (suc k) (omega arith))) refl

until_more : (b : ℕ) (f k : List ℕ) → Without b f → until b (f ++ (b ∷ k)) ≡ f
until_more b [] k free = rw (eq-eqb b b refl) refl
until_more b (x ∷ f) k free = rw (ne_eqb x b (free 0 (omega arith)), until_more b f k (λ j lt. free (suc j) (omega arith))) refl

pub splits_until : (b : ℕ) (bs f : List ℕ) (k : Option (List ℕ)) → Splits b bs f k → until b bs ≡ f
splits_until b bs f None (free, e) = ap (until b) e ∙ until_whole b f free
splits_until b bs f (Some k) (free, e) = ap (until b) e ∙ until_more b f k free

pub cut_until : (b : ℕ) (bs : List ℕ) (at : ℕ) (f : Part) (k : Option Part) → Cut b bs at f k → until b bs ≡ f.bytes.now
cut_until b bs at f None (split, _) = splits_until b bs f.bytes.now None split
cut_until b bs at f (Some k) (split, _, _) = splits_until b bs f.bytes.now (Some k.bytes.now) split

pub until_short : (b : ℕ) (bs : List ℕ) → length (until b bs) ≤ length bs
until_short b [] = omega arith
until_short b (x ∷ xs) = let rest = until_short b xs in cond_both (eqb x b) _ _ (λ l. length l ≤ length (x ∷ xs)) (λ e. omega arith) (λ e. omega arith)

-- the words of bytes that are one word, and of bytes that go on after a space
pub words_one : (w : List ℕ) → Without 32 w → words w ≡ w ∷ []
words_one [] h = refl
words_one (b ∷ bs) h = rw (ne_eqb b 32 (h 0 (omega arith)), words_one bs (λ k lt. h (suc k) (omega arith))) refl

pub words_more : (w rest : List ℕ) → Without 32 w → words (w ++ (32 ∷ rest)) ≡ w ∷ words rest
words_more [] rest h = refl
words_more (b ∷ bs) rest h = rw (ne_eqb b 32 (h 0 (omega arith)), words_more bs rest (λ k lt. h (suc k) (omega arith))) refl

pub words_some : (bs : List ℕ) → 1 ≤ length (words bs)
words_some [] = omega arith
words_some (b ∷ bs) = let rest = words_some bs in cond_both (eqb b 32) _ _ (λ ws. 1 ≤ length ws) (λ e. omega arith) (λ e. onto_some b (words bs))
  where
    onto_some : (b : ℕ) (ws : List (List ℕ)) → 1 ≤ length (onto b ws)
    onto_some b [] = omega arith
    onto_some b (w ∷ ws) = omega arith

and_false : (b : Bool) → (b && false) ≡ false
and_false true = refl
and_false false = refl

-- the words of bytes that are cut at the first k spaces
pub first_one : (k : ℕ) (w : List ℕ) → Without 32 w → first_words k w ≡ w ∷ []
first_one k [] h = refl
first_one k (b ∷ bs) h = rw (ne_eqb b 32 (h 0 (omega arith)), and_false (ltb 0 k), first_one k bs (λ j lt. h (suc j) (omega arith))) refl

pub first_more : (k : ℕ) (w rest : List ℕ) → ltb 0 k ≡ true → Without 32 w → first_words k (w ++ (32 ∷ rest)) ≡ w ∷ first_words (k - 1) rest
first_more k [] rest some h = rw some refl
first_more k (b ∷ bs) rest some h = rw (ne_eqb b 32 (h 0 (omega arith)), and_false (ltb 0 k), first_more k bs rest some (λ j lt. h (suc j) (omega arith))) refl

pub first_all : (w : List ℕ) → first_words 0 w ≡ w ∷ []
first_all [] = refl
first_all (b ∷ bs) = rw (first_all bs) refl

-- the words of bytes that are cut at a space
pub cut_whole : (bs : List ℕ) (at : ℕ) (front : Part) → Cut 32 bs at front None → words bs ≡ front.bytes.now ∷ []
cut_whole bs at front ((free, e), _) = ap words e ∙ words_one front.bytes.now free

pub cut_more : (bs : List ℕ) (at : ℕ) (front back : Part) → Cut 32 bs at front (Some back) → words bs ≡ front.bytes.now ∷ words back.bytes.now
cut_more bs at front back ((free, e), _, _) = ap words e ∙ words_more front.bytes.now back.bytes.now free
