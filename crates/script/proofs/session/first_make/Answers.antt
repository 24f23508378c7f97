use Rattle.std.proofs.Common.{◌∙◌}
use Rattle.script.proofs.Firsts.{first_named}
use Rattle.script.proofs.session.first_make.Goals as goal

pub returns : goal.returns
returns c = record {
  named = λ line rest m first names.
      c.unwrap_or.ensures
      ∙ first_named c.args.script.now c.from.result.at c.cut.result.0 c.cut.result.1 (rw c.from.ensures.0 at c.cut.ensures.cuts) line rest m first names c.try_from.result c.try_from.ensures;
}
