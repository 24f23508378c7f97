use Rattle.std.proofs.Common.{sym, ◌∙◌, subst, rules}
use Rattle.script.specs.Sessions.{NewAllocator}
use Rattle.script.proofs.session.Session.open.Goals as goal

pub returns-clause-allocator : goal.returns-clause-allocator
returns-clause-allocator c =
    let new : NewAllocator c.args.script.now c.new.result.0 =
    record {
      sound = c.new.ensures.sound;
      size = search rules;
      empty = c.new.ensures.empty;
      named = λ line rest m first names. c.new.ensures.make ∙ c.first_make.ensures.named line rest m first names;
    } in
    subst (NewAllocator c.args.script.now) (sym c.in-Ok.ensures.keeps) new
