use Rattle.std.proofs.Common.{arith}
use Rattle.script.specs.Consoles.{later}
use Rattle.script.specs.Sessions.{console_of}
use Rattle.script.proofs.Nexts.{first_answered}
use Rattle.script.proofs.session.Session.answer_line.Goals as goal

pub returns-then-self-eq1-clause-answered : goal.returns-then-self-eq1-clause-answered
returns-then-self-eq1-clause-answered c = λ s some.
    first_answered (console_of c.args.self.now) c.args.line.bytes.now c.answer_first.result (console_of c.answer_first.new.self) c.if-self-eq1.true c.answer_first.ensures.cases

pub returns-else-self-eq1-clause-answered : goal.returns-else-self-eq1-clause-answered
returns-else-self-eq1-clause-answered c = λ s some. later (omega (arith, c.if-self-eq1.false)) (c.obey.ensures.obeyed s)
