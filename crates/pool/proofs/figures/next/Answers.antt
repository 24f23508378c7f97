use Rattle.std.proofs.Common.{◌≡◌, ℕ, ◌<◌, length, Some, None, Option, Result, sym, refl, ap, ◌∙◌, subst, rules, tests, Bor}
use Rattle.std.specs.List.{AllWithin, HoldsAt}
use Rattle.std.specs.Option.{MatchOption, ok_or, option_copied}
use Rattle.std.specs.Result.{MatchResult}
use Rattle.std.proofs.lemmas.Iterator.{first_from_find, YieldsList-from_slice}
use Rattle.faults.specs.declared.PoolCause.{PoolCause}
use Rattle.faults.specs.declared.PoolCause.TheVariants.{NoPool}
use Rattle.records.specs.declared.rows.Row.{Row}
use Rattle.ordered.specs.Lent.{records}
use Rattle.pool.specs.Pools.{RowsOrdered, in_rows}
use Rattle.pool.proofs.Finds.{row_at, no_row}
use Rattle.pool.proofs.figures.next.Goals as goal

pub returns : goal.returns
returns c = record { cases = λ up. subst Next (sym (c.ok_or.ensures.value ∙ ap (λ (o : Option Row). ok_or o NoPool) c.copied.ensures)) (told up c.find.result seen) }
  where
    Follows : Row → Type 0
    Follows x = (x.previous ≡ Some c.args.row.number) × (x.owner ≡ c.args.row.owner)

    Next : Result Row PoolCause → Type 0
    Next r = MatchResult r (λ x. (in_rows c.args.rows.now x.number ≡ Some x) × (x.previous ≡ Some c.args.row.number) × (x.owner ≡ c.args.row.owner))
        (λ l. (l ≡ NoPool) × ((m : ℕ) (x : Row) → in_rows c.args.rows.now m ≡ Some x → x.previous ≡ Some c.args.row.number → x.owner ≡ c.args.row.owner → ⊥))

    seen : MatchOption c.find.result (AllWithin (λ x. Follows x → ⊥) (records c.args.rows.now) 0 (length (records c.args.rows.now)))
        (λ x. Follows x.now × (i : ℕ) × (i < length (records c.args.rows.now)) × HoldsAt (λ y. y ≡ x.now) (records c.args.rows.now) i × AllWithin (λ x. Follows x → ⊥) (records c.args.rows.now) 0 i)
    seen = first_from_find _ _ c.find.result Follows (λ x. Follows x → ⊥) c.find.ensures.ran (YieldsList-from_slice _ (search rules)) (λ x q k. search (rules, tests)) (λ x q k. search (rules, tests))

    told : RowsOrdered c.args.rows.now → (o : Option (Bor Row))
        → MatchOption o (AllWithin (λ x. Follows x → ⊥) (records c.args.rows.now) 0 (length (records c.args.rows.now)))
        (λ x. Follows x.now × (i : ℕ) × (i < length (records c.args.rows.now)) × HoldsAt (λ y. y ≡ x.now) (records c.args.rows.now) i × AllWithin (λ x. Follows x → ⊥) (records c.args.rows.now) 0 i)
        → Next (ok_or (option_copied o) NoPool)
    told up None none = (refl, λ m x there a b. no_row Follows (λ x. Follows x → ⊥) (records c.args.rows.now) (λ x n p. n p) none m x there (a, b))
    told up (Some x) (follows, k, lt, is, _) = (row_at (records c.args.rows.now) k x.now up lt is, follows.0, follows.1)
