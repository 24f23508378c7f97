use Rattle.std.proofs.Common.{sym, ap, ◌∙◌}
use Rattle.script.specs.Parts.{until}
use Rattle.script.proofs.Splits.{cut_until}
use Rattle.script.proofs.answers.before_zero.Goals as goal

pub returns-clause-value : goal.returns-clause-value
returns-clause-value c = sym (cut_until 0 _ _ c.cut.result.0 c.cut.result.1 c.cut.ensures.cuts) ∙ ap (until 0) c.from.ensures.0
