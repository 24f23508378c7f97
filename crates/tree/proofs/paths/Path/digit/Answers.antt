use Rattle.std.proofs.Common.{◌-◌, arith}
use Rattle.tree.proofs.Places.{fan_pos}
use Rattle.tree.proofs.Walks.{fan_small}
use Rattle.tree.proofs.paths.Path.digit.Goals as goal

pub pow-requires : goal.pow-requires
pow-requires c = omega (arith, fan_small (c.args.self.height - 1 - c.args.depth) (omega arith))

pub nonzero_div-result : goal.nonzero_div-result
nonzero_div-result c = omega (arith, fan_pos (c.args.self.height - 1 - c.args.depth))
