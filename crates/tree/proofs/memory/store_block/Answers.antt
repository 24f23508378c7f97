use Rattle.std.proofs.Common.{arith}
use Rattle.tree.proofs.Blocks.{block_put}
use Rattle.tree.proofs.memory.store_block.Goals as goal

pub returns-clause-stored : goal.returns-clause-stored
returns-clause-stored c =
    let s = c.in_ok-start.ensures.start in
    block_put _ _ _ _ _ _ s.0 (omega arith) s.1 c.told-bytes c.copy_from_slice.ensures.after
