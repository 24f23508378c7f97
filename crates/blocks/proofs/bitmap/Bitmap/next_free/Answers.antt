use Rattle.std.proofs.Common.{rules}
use Rattle.std.proofs.lemmas.Option.{MatchOption-at_none, MatchOption-at_some}
use Rattle.blocks.proofs.Maps.{goes_round}
use Rattle.blocks.proofs.bitmap.Bitmap.next_free.Goals as goal

pub returns : goal.returns
returns c =
    let b = c.args.self.now in
    let around = c.or_else.ensures in
    record {
      value = goes_round b.size b.cursor b.bytes.now c.first_clear-ahead.result c.or_else.result c.first_clear-ahead.ensures.value
          (λ e. let before = MatchOption-at_none _ _ e around in search rules)
          (λ n e. MatchOption-at_some _ _ n e around);
    }
