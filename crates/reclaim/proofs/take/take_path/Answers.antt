use Rattle.std.proofs.Common.{ℕ, ◌≤◌, subst, arith}
use Rattle.std.proofs.lemmas.Result.{err_from_is_err_and}
use Rattle.reclaim.proofs.Takes.{took_none, took_more, not_short}
use Rattle.reclaim.proofs.take.take_path.Goals as goal

pub loop-depth-init : goal.loop-depth-init
loop-depth-init g c = (λ s. s, λ _. took_none (g.A.BlockAllocator.meaning c.args.allocator.now))

pub loop-depth-preserved : goal.loop-depth-preserved
loop-depth-preserved g c =
    let o = c.in_ok-path.ensures in
    let inv = c.loop-depth.invariant in
    (λ s. o.sound (inv.0 s), λ s. took_more _ _ _ _ _ _ (omega arith) (inv.1 s) (o.takes (inv.0 s)))

pub returns-in_err-path : goal.returns-in_err-path
returns-in_err-path g c =
    let p = err_from_is_err_and c.from_residual.result c.from_residual.ensures.1 in
    let o = c.in_err-path.ensures in
    let inv = c.loop-depth.invariant in
    rw p.1 (record {
      took = λ s.
          let wanted : c.args.count ≤ c.free_count.result = omega arith in
          let enough = subst (λ (n : ℕ). c.args.count ≤ n) (c.free_count.ensures.value s) wanted in
          absurd (not_short _ _ _ _ _ c.args.count _ c.loop-depth-test.true enough (inv.1 s) (o.takes (inv.0 s)));
      sound = λ s. o.sound (inv.0 s);
      few = tt;
    })
