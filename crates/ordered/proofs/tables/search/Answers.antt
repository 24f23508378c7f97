use Rattle.std.proofs.Common.{◌≡◌, ◌+◌, ◌/◌, ◌<◌, ◌≤◌, length, subst, refl, sym, ◌∙◌, inl, inr, arith}
use Rattle.ordered.specs.Order.{Holds}
use Rattle.ordered.specs.Tables.{Ascending}
use Rattle.ordered.proofs.Search.{Narrowed, Parted, key_read, told, is_met, halved, narrowed_up, narrowed_down, found_index, found_rank, missed_index, missed_rank}
use Rattle.ordered.proofs.tables.search.Goals.{then-is_gt, else-is_gt}
use Rattle.ordered.proofs.tables.search.Goals as goal

pub loop-size-preserved : goal.loop-size-preserved
loop-size-preserved g c =
    let xs = c.args.among.now in
    let middle = c.loop-size.base + c.loop-size.size / 2 in
    let within : middle < length xs = omega arith in
    let has = key_read g.R.Record.keyed xs middle within c.index-among-middle.is c.key.ensures in (
      omega arith,
      λ up.
          halved g.R.Record.keyed g.R.Key.Key.below g.met.R.Key.Key.laws xs c.args.key middle within _ has up _ c.cmp-order.ensures (sym c.is_eq.ensures ∙ c.if-is_eq.false) _ _ _ refl
          (elim c.if-is_gt.branch [
            | then-is_gt w ↦ inl (sym c.is_gt.ensures ∙ w.if-is_gt.true, w.base-is)
            | else-is_gt w ↦ inr (sym c.is_gt.ensures ∙ w.if-is_gt.false, w.base-is)
          ])
          (c.loop-size.invariant.1 up),
    )

pub returns-then-is_eq : goal.returns-then-is_eq
returns-then-is_eq g c =
    let key = g.R.Record.keyed in
    let xs = c.args.among.now in
    let middle = c.loop-size.base + c.loop-size.size / 2 in
    let within : middle < length xs = omega arith in
    let equal = told g.met.R.Key.Key.laws _ c.args.key c.cmp-order.ensures (is_met _ (sym c.is_eq.ensures ∙ c.if-is_eq.true)) in
    let has = key_read key xs middle within c.index-among-middle.is (sym equal ∙ c.key.ensures) in
    let one = g.met.R.Key.Key.laws.one in
    record { within = within; finds = found_index key g.R.Key.Key.below one xs c.args.key middle within has; ranks = found_rank key g.R.Key.Key.below one xs c.args.key middle within has }

pub returns-then-size-eq0 : goal.returns-then-size-eq0
returns-then-size-eq0 g c =
    let key = g.R.Record.keyed in
    let below = g.R.Key.Key.below in
    let one = g.met.R.Key.Key.laws.one in
    let xs = c.args.among.now in
    let base = c.loop-size.base in
    let within : base ≤ length xs = omega arith in
    let none : base + c.loop-size.size ≡ base = omega arith in
    let apart : Ascending key (Holds below) xs → Parted key below xs c.args.key base = λ up. subst (Narrowed key below xs c.args.key base) none (c.loop-size.invariant.1 up) in
    record { within = within; finds = λ up. missed_index key below one xs c.args.key base within (apart up); ranks = λ up. missed_rank key below one xs c.args.key base within (apart up) }

pub returns-in-Less : goal.returns-in-Less
returns-in-Less g c =
    let key = g.R.Record.keyed in
    let below = g.R.Key.Key.below in
    let laws = g.met.R.Key.Key.laws in
    let xs = c.args.among.now in
    let base = c.loop-size.base in
    let within : base < length xs = omega arith in
    let past : base + 1 ≤ length xs = omega arith in
    let last : base + c.loop-size.size ≡ base + 1 = omega arith in
    let has = key_read key xs base within c.index-among-base.is c.key-last.ensures in
    let apart : Ascending key (Holds below) xs → Parted key below xs c.args.key (base + 1) =
    λ up. narrowed_up key below laws xs c.args.key base within _ has up c.cmp.ensures c.in-Less.is base (base + 1) (subst (Narrowed key below xs c.args.key base) last (c.loop-size.invariant.1 up)) in
    record { within = past; finds = λ up. missed_index key below laws.one xs c.args.key (base + 1) past (apart up); ranks = λ up. missed_rank key below laws.one xs c.args.key (base + 1) past (apart up) }

pub returns-in-Equal : goal.returns-in-Equal
returns-in-Equal g c =
    let key = g.R.Record.keyed in
    let xs = c.args.among.now in
    let base = c.loop-size.base in
    let within : base < length xs = omega arith in
    let equal = told g.met.R.Key.Key.laws _ c.args.key c.cmp.ensures c.in-Equal.is in
    let has = key_read key xs base within c.index-among-base.is (sym equal ∙ c.key-last.ensures) in
    let one = g.met.R.Key.Key.laws.one in
    record { within = within; finds = found_index key g.R.Key.Key.below one xs c.args.key base within has; ranks = found_rank key g.R.Key.Key.below one xs c.args.key base within has }

pub returns-in-Greater : goal.returns-in-Greater
returns-in-Greater g c =
    let key = g.R.Record.keyed in
    let below = g.R.Key.Key.below in
    let laws = g.met.R.Key.Key.laws in
    let xs = c.args.among.now in
    let base = c.loop-size.base in
    let within : base < length xs = omega arith in
    let low : base ≤ length xs = omega arith in
    let has = key_read key xs base within c.index-among-base.is c.key-last.ensures in
    let apart : Ascending key (Holds below) xs → Parted key below xs c.args.key base =
    λ up. narrowed_down key below laws xs c.args.key base within _ has up c.cmp.ensures c.in-Greater.is base _ (c.loop-size.invariant.1 up) in
    record { within = low; finds = λ up. missed_index key below laws.one xs c.args.key base low (apart up); ranks = λ up. missed_rank key below laws.one xs c.args.key base low (apart up) }
