use Rattle.std.proofs.Common.{◌≡◌, ℕ, length, sym, subst, arith, rules}
use Rattle.ordered.specs.declared.tables.Table.{Table}
use Rattle.records.specs.declared.ranges.FreeRange.{FreeRange}
use Rattle.ranges.specs.Maps.{Sound}
use Rattle.ranges.specs.Ranges.{Suits}
use Rattle.ranges.proofs.Maps.{new_map, none_sound}
use Rattle.ranges.proofs.range_map.RangeMap.new.Goals.{then-size-gt0, else-size-gt0}
use Rattle.ranges.proofs.range_map.RangeMap.new.Goals as goal

pub returns-clause-sound : goal.returns-clause-sound
returns-clause-sound c =
    let size = c.map_or-size.result in
    let was = c.args.places.now in
    let t = c.new-ranges.result in
    elim c.if-size-gt0.branch [
      | then-size-gt0 w ↦
          let suits : Suits size (length was) = search rules in
          let made = new_map size was t w.insert.new.self w.whole.result w.insert.result suits c.new-ranges.ensures.empty c.new-ranges.ensures.same w.whole.ensures.value w.insert.ensures.room w.insert.ensures.past w.insert.ensures.value w.insert.ensures.items in
          subst (λ (u : Table FreeRange). Sound (record { ranges = u; size = size; spare = size })) (sym w.ranges-is) made.sound
      | else-size-gt0 w ↦
          let none : size ≡ 0 = omega arith in
          subst (λ (u : Table FreeRange). Sound (record { ranges = u; size = size; spare = size })) (sym w.ranges-is)
          (subst (λ (n : ℕ). Sound (record { ranges = t; size = n; spare = n })) (sym none) (none_sound t c.new-ranges.ensures.empty))
    ]
