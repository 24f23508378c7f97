-- Line after line of what a console prints.
use Rattle.std.proofs.Common.{ℕ, ◌<◌, ◌≤◌, List, ◌∷◌, ◌++◌, length, Result, sym, ap, ◌∙◌, subst, inl, inr, append_assoc, arith}
use Rattle.std.proofs.lemmas.List.{length-append}
use Rattle.faults.specs.declared.Layer.{Layer}
use Rattle.model.specs.declared.Answer.{Answer}
use Rattle.script.specs.Consoles.{Console, FirstLine, Answered, named, unnamed, later, Next, too_long, line, Prints, more}

-- a line takes a byte at least
first_shorter : (bs l rest : List ℕ) → FirstLine bs l rest → length rest < length bs
first_shorter bs l rest (some, inl (_, e)) = omega (arith, ap length e ∙ length-append l (10 ∷ rest))
first_shorter bs l rest (some, inr (_, e)) = omega (arith, ap length e)

-- an answer reads no more than the line
answered_rest : (c : Console) (bs : List ℕ) (r : Result Answer Layer) (d : Console) → Answered c bs r d → length d.rest ≤ length c.rest
answered_rest c bs _ _ (named _ _) = omega arith
answered_rest c bs _ _ (unnamed _ _) = omega arith
answered_rest c bs _ _ (later _ _) = omega arith

-- what is left to read grows shorter with each line
pub shorter : (c : Console) (bs : List ℕ) (d : Console) → Next c bs d → length d.rest < length c.rest
shorter c _ _ (too_long long) = omega arith
shorter c _ d (line {line = l} {rest = rest} {r = r} _ first answered) = omega (arith, first_shorter _ _ _ first, answered_rest _ _ _ _ answered)

-- a line more of all that is printed
pub printed_more : (c d : Console) (all : List ℕ → Type 0) (out bs : List ℕ) → ((rest : List ℕ) → Prints c rest → all (out ++ rest)) → Next c bs d
    → (rest : List ℕ) → Prints d rest → all ((out ++ bs) ++ rest)
printed_more c d all out bs so_far next rest printed = subst all (sym (append_assoc out bs rest)) (so_far (bs ++ rest) (more next printed))
