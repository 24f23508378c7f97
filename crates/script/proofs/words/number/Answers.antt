use Rattle.std.proofs.Common.{◌+◌, ◌*◌, ap, ◌∙◌, arith, rules}
use Rattle.script.proofs.Decimals.{short_decimal, front_small, digits_more, read_more, read_all}
use Rattle.script.proofs.words.number.Goals as goal

pub returns-then-is_empty : goal.returns-then-is_empty
returns-then-is_empty c = record { cases = λ m. let s = short_decimal c.args.bytes.now m.0 m.1.0 m.1.1 in search rules }

pub returns-then-bytes-gt1 : goal.returns-then-bytes-gt1
returns-then-bytes-gt1 c = record { cases = λ m. omega (arith, (short_decimal c.args.bytes.now m.0 m.1.0 m.1.1).lead c.if-bytes-eq48.true) }

pub returns-then-not-is_ascii_digit : goal.returns-then-not-is_ascii_digit
returns-then-not-is_ascii_digit c = record {
  cases = λ m. let s = (short_decimal c.args.bytes.now m.0 m.1.0 m.1.1).digits c.loop-b.b-index c.loop-b-test.true in search rules;
}

pub overflow_mul-value : goal.overflow_mul-value
overflow_mul-value c = omega (arith, c.loop-b.invariant.1, front_small c.args.bytes.now c.loop-b.b-index c.loop-b.invariant.0 c.loop-b-test.true c.if-bytes-gt5.false)

pub overflow_add-value : goal.overflow_add-value
overflow_add-value c = let m = front_small c.args.bytes.now c.loop-b.b-index c.loop-b.invariant.0 c.loop-b-test.true c.if-bytes-gt5.false in search rules

pub loop-b-preserved : goal.loop-b-preserved
loop-b-preserved c = (digits_more _ _ c.loop-b-test.true c.loop-b.invariant.0 (search rules), ap (λ d. c.loop-b.value * 10 + d) c.from.ensures ∙ read_more _ _ _ c.loop-b-test.true c.loop-b.invariant.1)

pub returns : goal.returns
returns c = record {
  cases = read_all c.args.bytes.now c.loop-b.b-index c.loop-b.value (search rules) c.if-bytes-gt5.false (λ z. search rules) (omega arith) c.loop-b.invariant.0 c.loop-b.invariant.1;
}
