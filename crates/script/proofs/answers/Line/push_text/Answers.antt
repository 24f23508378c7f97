use Rattle.script.proofs.Puts.{put_then}
use Rattle.script.proofs.answers.Line.push_text.Goals as goal

pub returns-clause-wrote : goal.returns-clause-wrote
returns-clause-wrote c = rw (← c.before_zero.ensures.value) (put_then (put_then c.push.ensures.wrote c.push-2.ensures.wrote) c.push-3.ensures.wrote)
