use Rattle.std.proofs.Common.{arith}
use Rattle.tree.proofs.Walks.{fan_small}
use Rattle.pool.proofs.questions.position.Goals as goal

pub pow-requires : goal.pow-requires
pow-requires c = omega (arith, fan_small c.args.height (omega arith))
