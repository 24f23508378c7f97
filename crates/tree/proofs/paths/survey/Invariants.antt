use Rattle.std.proofs.Common.{◌≡◌, get_or, None}
use Rattle.tree.proofs.Surveys.{Surveying}
use Rattle.tree.proofs.paths.survey.Given as goal

abbrev pub invariant-loop-depth : goal.invariant-loop-depth
invariant-loop-depth l = Surveying l.memory l.fn.root l.path.height l.path.position l.old l.kept l.depth × (l.here ≡ get_or l.old l.depth None)
