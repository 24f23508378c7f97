-- A total order, given by the test of its strict part. Assumes nothing.
--     ExactlyOne P Q R          one of the three holds, and the other two do not
--     Holds test a b            the test says yes
--     IsStrictPart below cmp    `below` is the strict part of a total order, and `cmp` answers by it
use Rattle.std.specs.Prelude.{◌≡◌, Bool, true, ◌⊎◌}
use Rattle.std.specs.Ordering.{MatchOrdering}
use Rattle.std.specs.declared.cmp.Ordering.{Ordering}

-- one of the three holds, and the other two do not
abbrev pub ExactlyOne : Type 0 → Type 0 → Type 0 → Type 0
ExactlyOne P Q R = (P × (Q → ⊥) × (R → ⊥)) ⊎ (((P → ⊥) × Q × (R → ⊥)) ⊎ ((P → ⊥) × (Q → ⊥) × R))

-- the relation that a test decides
abbrev pub Holds : {K : Type 0} → (K → K → Bool) → K → K → Type 0
Holds test a b = test a b ≡ true

-- the laws that every kind of key proves of its order
pub record IsStrictPart {K : Type 0} (below : K → K → Bool) (cmp : K → K → Ordering) : Type 0 where
  -- `cmp` answers which of the three holds
  pub tells : (a b : K) → MatchOrdering (cmp a b) (Holds below a b) (a ≡ b) (Holds below b a)
  -- of two keys exactly one holds: the first is below, they are equal, the second is below
  pub one : (a b : K) → ExactlyOne (Holds below a b) (a ≡ b) (Holds below b a)
  -- a key below a key that is below a third is below the third
  pub chain : (a b c : K) → Holds below a b → Holds below b c → Holds below a c
