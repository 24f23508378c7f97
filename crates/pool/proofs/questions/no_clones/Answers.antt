use Rattle.std.proofs.Common.{◌≡◌, ℕ, true, false, not, Bool, ◌<◌, length, Some, Ok, Err, Result, arith, rules, tests}
use Rattle.std.specs.List.{AllWithin, HoldsAt}
use Rattle.std.specs.Result.{MatchResult}
use Rattle.std.specs.Bool.{MatchBool}
use Rattle.std.proofs.lemmas.Iterator.{cases_from_any, YieldsList-from_slice}
use Rattle.faults.specs.declared.PoolCause.{PoolCause}
use Rattle.faults.specs.declared.PoolCause.TheVariants.{HasClones}
use Rattle.records.specs.declared.rows.Kind.TheVariants.{Head}
use Rattle.records.specs.declared.rows.Row.{Row}
use Rattle.ordered.specs.Lent.{records}
use Rattle.pool.specs.Pools.{HasOrigin, RowsOrdered}
use Rattle.pool.proofs.Finds.{some_row, no_row}
use Rattle.pool.proofs.questions.no_clones.Goals as goal

pub returns : goal.returns
returns c = record { cases = λ up. told up c.any-cloned.result c.ask.result c.ask.ensures.cases seen }
  where
    IsClone : Row → Type 0
    IsClone x = x.kind ≡ Head (Some c.args.number)

    seen : MatchBool c.any-cloned.result ((k : ℕ) × (k < length (records c.args.rows.now)) × HoldsAt IsClone (records c.args.rows.now) k) (AllWithin (λ x. IsClone x → ⊥) (records c.args.rows.now) 0 (length (records c.args.rows.now)))
    seen = cases_from_any _ _ _ IsClone (λ x. IsClone x → ⊥) c.any-cloned.ensures.ran (YieldsList-from_slice _ (search rules)) (λ x q k. search (rules, tests)) (λ x q k. search (rules, tests))

    told : RowsOrdered c.args.rows.now → (b : Bool) (r : Result (Unit {0}) PoolCause) → MatchResult r (λ _. not b ≡ true) (λ l. (l ≡ HasClones) × (not b ≡ false))
        → MatchBool b ((k : ℕ) × (k < length (records c.args.rows.now)) × HoldsAt IsClone (records c.args.rows.now) k) (AllWithin (λ x. IsClone x → ⊥) (records c.args.rows.now) 0 (length (records c.args.rows.now)))
        → MatchResult r (λ _. (m : ℕ) → HasOrigin c.args.rows.now m c.args.number → ⊥) (λ l. (l ≡ HasClones) × ((m : ℕ) × HasOrigin c.args.rows.now m c.args.number))
    told up true (Ok _) e _ = let z : ◌≡◌ {A = ℕ} 0 1 = cc in absurd (omega arith)
    told up false (Ok _) _ none = λ m (x, there, kind). no_row IsClone (λ x. IsClone x → ⊥) (records c.args.rows.now) (λ x n p. n p) none m x there kind
    told up true (Err l) is some = let (m, x, there, kind) = some_row IsClone (records c.args.rows.now) up some in (is.0, (m, (x, there, kind)))
    told up false (Err l) (_, e) _ = let z : ◌≡◌ {A = ℕ} 0 1 = cc in absurd (omega arith)
