-- The first line of a script, and the make of allocator that it names.
use Rattle.std.proofs.Common.{◌≡◌, ℕ, List, Some, None, Ok, Err, Option, Result, sym, refl, ◌∙◌, subst, inl, inr, arith}
use Rattle.std.specs.Result as results
use Rattle.faults.specs.declared.ScriptCause.{ScriptCause}
use Rattle.faults.specs.declared.ScriptCause.TheVariants.{Letter}
use Rattle.makes.specs.declared.Make.{Make}
use Rattle.makes.specs.declared.Make.TheVariants.{Bits, Ranges}
use Rattle.script.specs.Consoles.{FirstLine, Names, NamesAllocator}
use Rattle.script.specs.Parts.{Cut, until}
use Rattle.script.specs.declared.parts.Part.{Part}
use Rattle.script.proofs.Splits.{splits_until, cut_until}

-- the first line stands before the first byte 10
pub first_front : (bs line rest : List ℕ) → FirstLine bs line rest → until 10 bs ≡ line
first_front bs line rest (_, inl split) = splits_until 10 bs line (Some rest) split
first_front bs line rest (_, inr (split, _)) = splits_until 10 bs line None split

one_name : (line : List ℕ) (m n : Make) → Names line m → Names line n → m ≡ n
one_name line Bits Bits p q = refl
one_name line Ranges Ranges p q = refl
one_name line Bits Ranges p q = absurd (let z : ◌≡◌ {A = ℕ} 98 109 = cc in omega arith)
one_name line Ranges Bits p q = absurd (let z : ◌≡◌ {A = ℕ} 98 109 = cc in omega arith)

-- the first line that was cut off is the first line
module _ (bs : List ℕ) (at : ℕ) (f : Part) (k : Option Part) (cut : Cut 10 bs at f k) (line rest : List ℕ) (m : Make) (first : FirstLine bs line rest) (names : Names line m) where
  names_front : Names f.bytes.now m
  names_front = subst (λ l. Names l m) (sym (first_front bs line rest first) ∙ cut_until 10 bs at f k cut) names

  pub first_named : (r : Result Make ScriptCause) → results.MatchResult r (λ n. Names f.bytes.now n) (λ c. (c ≡ Letter) × (NamesAllocator f.bytes.now → ⊥)) → results.result_unwrap_or r Bits ≡ m
  first_named (Ok n) told = one_name f.bytes.now n m told names_front
  first_named (Err c) (_, none) = absurd (none (m, names_front))
