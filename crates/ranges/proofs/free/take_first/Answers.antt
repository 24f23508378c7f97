use Rattle.std.proofs.Common.{◌≡◌, ◌+◌, List, sym, ap, subst, arith}
use Rattle.ordered.specs.Lent.{records}
use Rattle.records.specs.declared.ranges.FreeRange.{FreeRange}
use Rattle.ranges.specs.Ranges.{rest_of, without}
use Rattle.ranges.proofs.Laws.{Out, removes}
use Rattle.ranges.proofs.Steps.{Fitting, Put, in_order, rekeys, rest_past, rest_fits, take_last, take_more}
use Rattle.ranges.proofs.free.take_first.Goals as goal

pub returns-then-range-gt1 : goal.returns-then-range-gt1
returns-then-range-gt1 c = record {
  after = λ m s there.
      let t = c.args.ranges.now in
      let r = c.args.range in
      let u = c.rekey.new.self in
      let xs = records t in
      let ys = without xs r.first in
      let o = removes 0 m r.first xs r s.maximal there in
      let is : c.rest.result ≡ rest_of r = c.rest.ensures.value (omega (arith, o.some, o.high, s.few)) in
      let next : c.rest.result.first ≡ r.first + 1 = ap (λ (x : FreeRange). x.first) is in
      let over = c.rekey.ensures in
      let ord = in_order m t s in
      let fits = subst (Fitting m ys) (sym is) (rest_fits m xs ys r o c.if-range-gt1.true) in
      let put = subst (Put m t ys u) is (rekeys m t u c.rest.result s over.room over.past r.first r c.rekey.result there (omega arith) (omega arith) fits (over.value ord) (over.items ord)) in
      record { regular = put.regular; owned = take_more m xs ys r o c.if-range-gt1.true (records u) put.blocks; rest = put.rest };
}

pub returns-else-range-gt1 : goal.returns-else-range-gt1
returns-else-range-gt1 c = record {
  after = λ m s there.
      let t = c.args.ranges.now in
      let r = c.args.range in
      let u = c.remove.new.self in
      let gone = c.remove.ensures in
      let out = subst (λ (l : List FreeRange). Out 0 m r.first (records t) l r) (sym (gone.items (in_order m t s))) (removes 0 m r.first (records t) r s.maximal there) in
      record {
        regular = record { few = s.few; places = omega (arith, s.places, gone.room); maximal = out.stands };
        owned = take_last m (records t) (records u) r out c.if-range-gt1.false;
        rest = rest_past m t u out.stands gone.past;
      };
}
