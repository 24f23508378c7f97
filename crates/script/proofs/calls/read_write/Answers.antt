use Rattle.std.proofs.Common.{◌∷◌, ◌++◌, codes, sym, ap, ◌∙◌}
use Rattle.std.specs.Result.{result_ok}
use Rattle.script.specs.Lines.{two_numbers}
use Rattle.script.proofs.Readings.{missing, found, handed_on, one_write, write_no_text, write_no_numbers, write_bad_text, write_yes, write_is}
use Rattle.script.proofs.calls.read_write.Goals as goal

pub returns-in_err-first : goal.returns-in_err-first
returns-in_err-first c =
    let no = missing c.two_words.result c.ok_or.result _ c.ok_or.ensures.value c.in_err-first.was in
    record { cases = handed_on _ (119 ∷ 32 ∷ c.args.rest.bytes.now) c.from_residual.result _ _ c.from_residual.ensures.1 no.1 (one_write c.args.rest.bytes.now (rw no.0 at c.two_words.ensures.cases)) }

pub returns-in_err-text : goal.returns-in_err-text
returns-in_err-text c =
    let no = missing c.in_ok-first.more c.ok_or-2.result _ c.ok_or-2.ensures.value c.in_err-text.was in
    record { cases = handed_on _ (119 ∷ 32 ∷ c.args.rest.bytes.now) c.from_residual-in_err-text.result _ _ c.from_residual-in_err-text.ensures.1 no.1 (write_no_text _ _ _ _ _ (found c.two_words.ensures.cases c.ok_or.ensures.ok_part c.in_ok-first.was) no.0) }

pub returns-in_err-number : goal.returns-in_err-number
returns-in_err-number c =
    let two = found c.two_words.ensures.cases c.ok_or.ensures.ok_part c.in_ok-first.was in
    let more = c.ok_or-2.ensures.ok_part ∙ ap result_ok c.in_ok-text.was in
    let no = c.in_err-number.ensures.cases in
    record { cases = handed_on _ (119 ∷ 32 ∷ c.args.rest.bytes.now) c.from_residual-in_err-number.result _ _ c.from_residual-in_err-number.ensures.1 no.0 (write_no_numbers _ _ _ _ _ two c.in_ok-text.text more no.1) }

pub returns-in_err-text-2 : goal.returns-in_err-text-2
returns-in_err-text-2 c =
    let two = found c.two_words.ensures.cases c.ok_or.ensures.ok_part c.in_ok-first.was in
    let more = c.ok_or-2.ensures.ok_part ∙ ap result_ok c.in_ok-text.was in
    let numbers = c.in_ok-number.ensures.cases in
    let no = c.in_err-text-2.ensures.cases in
    record { cases = handed_on _ (119 ∷ 32 ∷ c.args.rest.bytes.now) c.from_residual-in_err-text-2.result _ _ c.from_residual-in_err-text-2.ensures.1 no.0 (write_bad_text _ _ _ _ _ two c.in_ok-text.text more _ _ numbers.0 numbers.1 no.1) }

pub returns : goal.returns
returns c =
    let two = found c.two_words.ensures.cases c.ok_or.ensures.ok_part c.in_ok-first.was in
    let more = c.ok_or-2.ensures.ok_part ∙ ap result_ok c.in_ok-text.was in
    let numbers = c.in_ok-number.ensures.cases in
    let text = c.in_ok-text-2.ensures.cases in
    record {
      cases = (
        write_yes _ _ _ _ _ two c.in_ok-text.text more _ _ numbers.0 numbers.1 text.0,
        ap (λ l. 119 ∷ 32 ∷ l) (write_is _ _ _ _ _ two c.in_ok-text.text more _ _ numbers.0 numbers.1
            ∙ ap (λ l. two_numbers c.in_ok-number.number c.in_ok-number.position ++ codes " " ++ l) (sym text.1)),
      );
    }
