use Rattle.tree.proofs.Frames.{frame}
use Rattle.tree.proofs.Reroutes.{reroute}
use Rattle.tree.proofs.tree_laws_hold.Goals as goal

pub returns : goal.returns
returns c = record { frame = frame; reroute = reroute }
