use Rattle.std.proofs.Common.{◌∷◌}
use Rattle.script.proofs.Readings.{missing, found, handed_on, one_plain, too_many, numbers_read}
use Rattle.script.proofs.calls.read_numbers.Goals as goal

pub returns-in_err-first : goal.returns-in_err-first
returns-in_err-first c =
    let no = missing c.two_words.result c.ok_or.result _ c.ok_or.ensures.value c.in_err-first.was in
    record {
      cases = λ b want.
          handed_on _ (b ∷ 32 ∷ c.args.rest.bytes.now) c.from_residual.result _ _ c.from_residual.ensures.1 no.1 (one_plain c.args.rest.bytes.now (rw no.0 at c.two_words.ensures.cases) b want);
    }

pub returns-in-None : goal.returns-in-None
returns-in-None c = record { cases = numbers_read _ _ _ _ _ (found c.two_words.ensures.cases c.ok_or.ensures.ok_part c.in_ok-first.was) c.in-None.is c.both_numbers.result c.both_numbers.ensures.cases }

pub returns-in-Some : goal.returns-in-Some
returns-in-Some c = record { cases = too_many _ _ _ _ _ (found c.two_words.ensures.cases c.ok_or.ensures.ok_part c.in_ok-first.was) c.in-Some.field-0 c.in-Some.is }
