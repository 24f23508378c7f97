use Rattle.std.proofs.Common.{◌≡◌, ◌+◌, ◌-◌, Some, None, sym, ap, ◌∙◌, subst, arith}
use Rattle.ordered.specs.Lent.{records}
use Rattle.records.specs.declared.ranges.FreeRange.{FreeRange}
use Rattle.ranges.specs.Ranges.{range_at, joined, without}
use Rattle.ranges.proofs.Laws.{removes_none}
use Rattle.ranges.proofs.Steps.{Fitting, Put, in_order, owned_parts, cut_after, inserts, rekeys, first_fits, first_gives}
use Rattle.ranges.proofs.free.put_first.Goals as goal

pub returns-in-Some : goal.returns-in-Some
returns-in-Some c = record {
  after = λ m s owned left.
      let t = c.args.ranges.now in
      let u = c.rekey.new.self in
      let n = c.args.n in
      let r = c.in-Some.right.length in
      let xs = records t in
      let b = c.saturating_add.result in
      let ys = without xs b in
      let out = owned_parts m n xs owned in
      let next : b ≡ n + 1 = omega (arith, s.few, out.0) in
      let ord = in_order m t s in
      let there = c.in-Some.ensures.finds ord in
      let cut = cut_after m n xs ys (Some c.in-Some.right) s.maximal out.0 out.1 (there ∙ ap (range_at xs) next) (ap (without xs) next) in
      let is : c.join.result ≡ joined 0 n r = c.join.ensures.value (omega (arith, cut.high, s.few)) in
      let first : c.join.result.first ≡ n - 0 = ap (λ (x : FreeRange). x.first) is in
      let over = c.rekey.ensures in
      let fits = subst (Fitting m ys) (sym is) (first_fits m n r xs ys cut out.1 left) in
      let put = subst (Put m t ys u) is (rekeys m t u c.join.result s over.room over.past b c.in-Some.right c.rekey.result (sym there) (omega arith) (omega arith) fits (over.value ord) (over.items ord)) in
      record { regular = put.regular; owned = first_gives m n r xs ys cut out.1 left (records u) out.0 put.blocks; rest = put.rest };
}

pub returns-in-None : goal.returns-in-None
returns-in-None c = record {
  after = λ m s owned left.
      let t = c.args.ranges.now in
      let u = c.insert.new.self in
      let n = c.args.n in
      let xs = records t in
      let out = owned_parts m n xs owned in
      let next : c.saturating_add.result ≡ n + 1 = omega (arith, s.few, out.0) in
      let ord = in_order m t s in
      let none = c.in-None.ensures.finds ord ∙ ap (range_at xs) next in
      let cut = cut_after m n xs xs None s.maximal out.0 out.1 none (sym (removes_none (n + 1) xs (sym none))) in
      let is : c.join-in-None.result ≡ joined 0 n 0 = c.join-in-None.ensures.value (omega arith) in
      let more = c.insert.ensures in
      let fits = subst (Fitting m xs) (sym is) (first_fits m n 0 xs xs cut out.1 left) in
      let put = subst (Put m t xs u) is (inserts m t u c.join-in-None.result s more.room more.past c.insert.result fits (more.value ord) (more.items ord)) in
      record { regular = put.regular; owned = first_gives m n 0 xs xs cut out.1 left (records u) out.0 put.blocks; rest = put.rest };
}
