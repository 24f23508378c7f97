use Rattle.std.proofs.Common.{rules}
use Rattle.blocks.specs.Bits.{bits}
use Rattle.blocks.proofs.Searches.{InByte, first_in, mapped_from_range}
use Rattle.blocks.proofs.bits.first_clear_in.Goals as goal

pub returns : goal.returns
returns c =
    let s = bits c.args.bytes.now in
    record { value = first_in s c.args.start c.args.end c.find_map.result (mapped_from_range _ (InByte s) (λ x o q h. search rules) _ c.find_map.result c.find_map.ensures.runs) }
