use Rattle.std.proofs.lemmas.Option.{MatchOption-at_some}
use Rattle.tree.proofs.Blocks.{block_read}
use Rattle.tree.proofs.memory.read_block.Goals as goal

pub returns : goal.returns
returns c =
    let chunk = MatchOption-at_some _ _ _ c.unwrap.ensures c.first_chunk.ensures.cases in
    record { read = block_read _ _ _ _ c.in_ok-start.ensures.start.0 chunk.same }
