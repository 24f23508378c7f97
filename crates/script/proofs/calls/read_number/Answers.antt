use Rattle.std.proofs.Common.{ap}
use Rattle.script.specs.Words.{value_of}
use Rattle.script.proofs.Readings.{word_too_many, number_no, number_yes}
use Rattle.script.proofs.calls.read_number.Goals as goal

pub returns-in-Some-default : goal.returns-in-Some-default
returns-in-Some-default c = record { cases = λ b want. word_too_many _ _ c.cut.result.0 c.cut.result.1 c.cut.ensures.cuts b want c.in-Some-default.field-0-0 c.in-Some-default.is-0 }

pub returns-in-None-Number : goal.returns-in-None-Number
returns-in-None-Number c = record {
  cases = λ b want.
      number_yes _ _ c.cut.result.0 c.cut.result.1 c.cut.ensures.cuts b want c.from.result c.in-None-Number.is-0 c.from.ensures c.in-None-Number.value (ap value_of c.in-None-Number.is-1);
}

pub returns-in-None-Text : goal.returns-in-None-Text
returns-in-None-Text c = record {
  cases = λ b want. number_no _ _ c.cut.result.0 c.cut.result.1 c.cut.ensures.cuts b want c.from.result c.in-None-Text.is-0 c.from.ensures (ap value_of c.in-None-Text.is-1);
}
