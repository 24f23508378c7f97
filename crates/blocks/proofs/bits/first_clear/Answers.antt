use Rattle.std.proofs.Common.{◌≡◌, ◌*◌, ◌≤◌, MatchOption, None, nat_lt, arith, rules}
use Rattle.std.specs.Bool.{then_some}
use Rattle.std.proofs.lemmas.Option.{MatchOption-at_none, MatchOption-at_some}
use Rattle.blocks.specs.Bits.{bits}
use Rattle.blocks.proofs.Searches.{first_free}
use Rattle.blocks.proofs.bits.first_clear.Goals as goal

pub returns : goal.returns
returns c =
    let s = bits c.args.bytes.now in
    let to = c.args.to in
    let end = c.div_ceil-end.result in
    let whole : to ≤ 8 * end = omega (arith, c.div_ceil-end.ensures) in
    let after = c.or_else.ensures in
    let kept : MatchOption c.or_else.result (c.filter.result ≡ None) (λ n. c.filter.result ≡ then_some (nat_lt n to) n) = search rules in
    record {
      value = first_free s c.args.from to end whole c.first_clear_of.result c.or_else.result c.filter.result c.first_clear_of.ensures.value
          (λ e. let later = MatchOption-at_none _ _ e after in search rules)
          (λ n e. MatchOption-at_some _ _ n e after) kept;
    }
