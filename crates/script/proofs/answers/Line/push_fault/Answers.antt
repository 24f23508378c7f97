use Rattle.std.proofs.Common.{◌∙◌}
use Rattle.script.proofs.Puts.{put_then}
use Rattle.script.proofs.answers.Line.push_fault.Goals as goal

pub returns-clause-wrote : goal.returns-clause-wrote
returns-clause-wrote c =
    rw (← c.letter.ensures.value, ← (c.from.ensures ∙ c.number.ensures.value))
    (put_then (put_then (put_then (put_then (put_then (put_then c.push.ensures.wrote c.push_number.ensures.wrote) c.push-2.ensures.wrote) c.push-3.ensures.wrote) c.push-4.ensures.wrote) c.push_number-2.ensures.wrote) c.push-5.ensures.wrote)
