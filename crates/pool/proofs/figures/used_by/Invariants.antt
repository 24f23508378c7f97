use Rattle.std.proofs.Common.{◌≡◌, ◌-◌, ◌^◌, ◌==◌, min, take, filter}
use Rattle.std.specs.List.{sum_by}
use Rattle.records.specs.declared.rows.Row.{Row}
use Rattle.pool.proofs.figures.used_by.Given as goal

-- the rows up to here are counted
abbrev pub invariant-loop-row : goal.invariant-loop-row
invariant-loop-row l = l.used ≡ min (sum_by (λ (r : Row). r.born) (filter (λ (r : Row). r.owner == l.head) (take l.row-index l.rows))) (2 ^ 32 - 1)
