use Rattle.model.proofs.Systems.{owners_tell}
use Rattle.model.proofs.owners_tell.Goals as goal

pub returns : goal.returns
returns c = owners_tell
