use Rattle.blocks.proofs.Marks.{first_clear}
use Rattle.blocks.proofs.bits.clear_in.Goals as goal

pub returns : goal.returns
returns c = record { value = rw c.trailing_ones.ensures (first_clear c.args.byte c.args.from c.ranges.byte.fits c.requires) }
