use Rattle.script.proofs.Puts.{put_then}
use Rattle.script.proofs.answers.Line.push_count.Goals as goal

pub returns-clause-wrote : goal.returns-clause-wrote
returns-clause-wrote c = put_then (put_then c.push.ensures.wrote c.push_number.ensures.wrote) c.push-2.ensures.wrote
