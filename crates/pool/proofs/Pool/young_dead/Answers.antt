use Rattle.std.proofs.Common.{◌≡◌, ℕ, ◌<◌, ◌^◌, Some, Ok, Result, sym, ap, ◌∙◌, subst, arith}
use Rattle.std.specs.Result.{MatchResult, OkIff}
use Rattle.std.proofs.lemmas.Result.{Ok-from_Ok_iff}
use Rattle.blocks.proofs.Counts.{count_bound}
use Rattle.model.specs.Datasets.{State}
use Rattle.model.specs.Figures.{UniqueIs}
use Rattle.model.proofs.Rows.{row_number}
use Rattle.pool.specs.Pools.{state_of}
use Rattle.pool.proofs.Youngs.{unique_young}
use Rattle.pool.proofs.Pool.young_dead.Goals as goal

pub returns-in_err-next : goal.returns-in_err-next
returns-in_err-next g c = record {
  counts = λ n t i found kind none.
      let (m, x, there, previous, owner) = i.1.family.next n t c.args.row found kind in
      let own = row_number (state_of g.A.BlockAllocator.meaning c.args.self.now).rows n c.args.row found in
      absurd ((c.in_err-next.ensures.cases i.1.shape.ordered).1 m x there (previous ∙ sym (ap Some own)) owner);
}

-- a number that fits is answered
fitting : {E F : Type 0} (q : Result ℕ E) (r : Result ℕ F) (n : ℕ) (P : ℕ → Type 0) (No : E → Type 0) → n < 2 ^ 32 → OkIff q (n < 2 ^ 32) n
    → MatchResult q (λ x. r ≡ Ok x) No → P n → MatchResult r P (λ _. ⊥)
fitting q r n P No small ok is here =
    let answered : r ≡ Ok n = subst (λ x. MatchResult x (λ x. r ≡ Ok x) No) (Ok-from_Ok_iff q (n < 2 ^ 32) n ok small) is in
    subst (λ x. MatchResult x P (λ _. ⊥)) (sym answered) here

pub returns : goal.returns
returns g c = record {
  counts = λ n t i found kind none.
      let s : State = state_of g.A.BlockAllocator.meaning c.args.self.now in
      let next = c.in_ok-next.ensures.cases i.1.shape.ordered in
      let unique =
      unique_young s n c.args.row c.in_ok-next.next c.stamp.result c.young_ends.result.0 c.young_ends.result.1 c.part.result.0.now i.1 found none next.0 (next.1 ∙ ap Some (row_number s.rows n c.args.row found)) next.2
      (c.stamp.ensures.value i.1.shape.ordered) c.young_ends.ensures.first c.young_ends.ensures.second (c.part.ensures.first i.1.shape.dead_ordered) in
      fitting c.try_from.result c.map_err.result _ (UniqueIs s n) _ (omega (arith, unique.counted, count_bound unique.test s.size, i.1.shape.size.1)) c.try_from.ensures c.map_err.ensures.cases unique;
}
