use Rattle.std.proofs.Common.{◌≡◌, ◌-◌, ◌<◌, Some, ap, ◌∙◌, arith}
use Rattle.ordered.specs.Lent.{records}
use Rattle.records.specs.declared.ranges.FreeRange.{FreeRange}
use Rattle.ranges.specs.Ranges.{joined, range_at}
use Rattle.ranges.proofs.Laws.{over_range}
use Rattle.ranges.proofs.Steps.{in_order, owned_parts, replaces, merged_fits, gives}
use Rattle.ranges.proofs.free.put_back.Goals as goal

pub returns-else-left-eq0 : goal.returns-else-left-eq0
returns-else-left-eq0 c = record {
  after = λ m s owned left.
      let t = c.args.ranges.now in
      let u = c.cut_after-right.new.ranges in
      let v = c.replace.new.self in
      let n = c.args.n in
      let l = c.args.left in
      let r = c.cut_after-right.result in
      let some : 0 < l = omega arith in
      let out = owned_parts m n (records t) owned in
      let after = c.cut_after-right.ensures.after m s owned in
      let is : c.join.result ≡ joined l n r = c.join.ensures.value (omega (arith, after.cut.high, s.few, left.fits)) in
      let old : FreeRange = record { first = n - l; length = l } in
      let there : range_at (records u) (n - l) ≡ Some old = after.before (n - l) (omega arith) ∙ left.some some in
      let fits = merged_fits m n l r (records t) (records u) after.cut out.1 left after.before in
      let over = c.replace.ensures in
      let items = over.items (in_order m u after.regular) in
      let put = replaces m u v (joined l n r) after.regular over.room over.past old there fits (items ∙ ap (over_range (records u)) is) in
      record {
        regular = put.regular;
        owned = gives m n l r (records t) (records u) after.cut out.1 left after.before (records v) out.0 put.blocks;
        rest = put.rest ∙ after.rest;
      };
}
