use Rattle.std.proofs.Common.{◌≡◌, ℕ, ◌+◌, ◌<◌, false, List, None, sym, ap, ◌∙◌, subst, arith}
use Rattle.std.proofs.lemmas.Bool.{cond-false}
use Rattle.std.proofs.lemmas.Bool.Decides.{nat_tests}
use Rattle.ordered.specs.Lent.{records}
use Rattle.ordered.specs.Tables.{Alone, same}
use Rattle.records.specs.Keys.{first_of, first_below}
use Rattle.records.specs.declared.ranges.FreeRange.{FreeRange}
use Rattle.ranges.specs.Ranges.{at_block, range_at, without}
use Rattle.ranges.specs.Steps.{Cut}
use Rattle.ranges.proofs.Steps.{in_order, rest_past, owned_parts, cut_after}
use Rattle.ranges.proofs.free.cut_after.Goals as goal

other : (a k : ℕ) → k < a → same first_below (at_block a) (at_block k) ≡ false
other a k h = grind (arith, nat_tests)

below : (xs ys : List FreeRange) (a k : ℕ) → k < a → Alone first_of first_below xs ys (at_block a) None → range_at ys k ≡ range_at xs k
below xs ys a k h alone = alone (at_block k) ∙ cond-false _ _ _ (other a k h)

pub returns : goal.returns
returns c = record {
  after = λ m s owned.
      let t = c.args.ranges.now in
      let u = c.remove.new.self in
      let n = c.args.n in
      let gone = c.remove.ensures in
      let ord = in_order m t s in
      let out = owned_parts m n (records t) owned in
      let next : c.saturating_add.result ≡ n + 1 = omega (arith, s.few, out.0) in
      let cut = subst (λ (l : ℕ). Cut m (records t) (records u) (record { first = n + 1; length = l })) (sym c.length_of.ensures.value)
      (cut_after m n (records t) (records u) c.remove.result s.maximal out.0 out.1 (gone.value ord ∙ ap (range_at (records t)) next) (gone.items ord ∙ ap (without (records t)) next)) in
      record {
        regular = record { few = s.few; places = omega (arith, s.places, gone.room); maximal = cut.maximal };
        cut = cut;
        before = λ k le. below (records t) (records u) c.saturating_add.result k (omega arith) (gone.alone ord);
        rest = rest_past m t u cut.maximal gone.past;
      };
}
