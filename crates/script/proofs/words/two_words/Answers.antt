use Rattle.script.proofs.Readings.{no_space}
use Rattle.script.proofs.words.two_words.Goals as goal

pub returns-in_err-more : goal.returns-in_err-more
returns-in_err-more c = rw c.from_residual.ensures (record { cases = no_space _ _ c.cut.result.0 c.cut.result.1 c.cut.ensures.cuts c.in_err-more.was })

pub returns : goal.returns
returns c = record {
  cases = record {
    first = c.cut.result.0;
    second = c.cut-2.result.0;
    behind = c.in_ok-more.field-0;
    cut_first = rw c.in_ok-more.was at c.cut.ensures.cuts;
    cut_second = c.cut-2.ensures.cuts;
    is_first = c.from.ensures;
    is_second = c.from-2.ensures;
  };
}
