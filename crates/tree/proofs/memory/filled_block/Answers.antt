use Rattle.std.proofs.Common.{rules}
use Rattle.tree.proofs.Blocks.{filled_put}
use Rattle.tree.proofs.memory.filled_block.Goals as goal

pub returns : goal.returns
returns c = record { value = search (rules, filled_put) }
