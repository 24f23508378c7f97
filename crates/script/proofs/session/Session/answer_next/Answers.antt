use Rattle.std.proofs.Common.{Some, Ok, Err, refl, ap, ◌∙◌, arith, rules}
use Rattle.script.specs.Sessions.{Reads, console_of}
use Rattle.script.specs.Shown.{shown_fault}
use Rattle.script.proofs.Nexts.{too_long_next, line_next, mapped_shows}
use Rattle.script.proofs.session.Session.answer_next.Goals as goal

pub returns-in-Err-clause-cases : goal.returns-in-Err-clause-cases
returns-in-Err-clause-cases c = λ ready.
    let old = c.args.self.now.lines in
    let new = c.next.new.self in
    let cause = c.in-Err.cause in
    let read : Reads old (Some (Err cause)) new = rw c.in-Err.is at c.in_ok-line.ensures.steps in
    too_long_next (console_of c.args.self.now) _ (shown_fault c.on_line.result) cause read.0 read.1 read.2 read.3 refl
    (ap shown_fault (c.on_line.ensures.value ∙ ap (λ l. record { layer = l; line = 0 }) c.from.ensures))

pub returns-in-Ok-clause-cases : goal.returns-in-Ok-clause-cases
returns-in-Ok-clause-cases c = λ ready.
    let old = c.args.self.now.lines in
    let new = c.next.new.self in
    let line = c.in-Ok.line.bytes.now in
    let read : Reads old (Some (Ok c.in-Ok.line)) new = rw c.in-Ok.is at c.in_ok-line.ensures.steps in
    line_next (console_of c.args.self.now) (console_of (record { lines = new; pool = c.args.self.now.pool })) _ line _ c.answer_line.result
    c.answer_line.new.self.lines.read read.0 read.1 read.2 refl (c.answer_line.ensures.answered ready (omega (arith, read.2))) c.answer_line.ensures.read
    (mapped_shows _ c.answer_line.result c.map_err-answer.result _ c.map_err-answer.ensures.cases (λ layer fault told. search rules))
