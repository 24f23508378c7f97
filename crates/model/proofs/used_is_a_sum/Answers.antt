use Rattle.model.proofs.Systems.{used_is_sum}
use Rattle.model.proofs.used_is_a_sum.Goals as goal

pub returns : goal.returns
returns c = used_is_sum
