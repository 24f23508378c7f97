-- Bytes that are told by a test.
--     avoids b bs, avoided    the byte b does not occur
--     plain bs, all_plain     each byte may stand in a text
use Rattle.std.proofs.Common.{◌≡◌, ℕ, zero, suc, ◌<◌, ◌≤◌, Bool, true, not, ◌&&◌, eqb, leb, List, [], ◌∷◌, length, get_or, arith, eq-eqb}
use Rattle.std.proofs.lemmas.Bool.{and_parts, leb-true, not-true, both_ways}
use Rattle.script.specs.Parts.{Without}

-- bytes among which b is not
abbrev pub avoids : ℕ → List ℕ → Bool
avoids b [] = true
avoids b (x ∷ bs) = not (eqb x b) && avoids b bs

pub avoided : (b : ℕ) (bs : List ℕ) → avoids b bs ≡ true → Without b bs
avoided b [] is k low = absurd (omega arith)
avoided b (x ∷ bs) is zero low = λ same. both_ways (eqb x b) (not-true (eqb x b) (and_parts (not (eqb x b)) (avoids b bs) is).0) (eq-eqb x b same)
avoided b (x ∷ bs) is (suc k) low = avoided b bs (and_parts (not (eqb x b)) (avoids b bs) is).1 k (omega arith)

-- bytes that may stand in a text
abbrev pub plain : List ℕ → Bool
plain [] = true
plain (x ∷ bs) = (leb 32 x && leb x 126) && plain bs

pub all_plain : (bs : List ℕ) → plain bs ≡ true → (k : ℕ) → k < length bs → (32 ≤ get_or bs k 0) × (get_or bs k 0 ≤ 126)
all_plain [] is k low = absurd (omega arith)
all_plain (x ∷ bs) is zero low =
    let both = and_parts (leb 32 x) (leb x 126) (and_parts (leb 32 x && leb x 126) (plain bs) is).0 in
    (leb-true 32 x both.0, leb-true x 126 both.1)
all_plain (x ∷ bs) is (suc k) low = all_plain bs (and_parts (leb 32 x && leb x 126) (plain bs) is).1 k (omega arith)
