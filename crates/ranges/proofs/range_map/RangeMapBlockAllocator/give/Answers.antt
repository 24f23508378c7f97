use Rattle.std.proofs.Common.{ℕ, refl, sym, ◌∙◌, subst}
use Rattle.ranges.specs.Maps.{Sound}
use Rattle.ranges.specs.Steps.{Gave, PutsBack}
use Rattle.ranges.proofs.Maps.{gave, gave_sound}
use Rattle.ranges.proofs.range_map.RangeMapBlockAllocator.give.Goals as goal

pub returns : goal.returns
returns c =
    let m = c.args.self.now in
    let n = c.args.n in
    let u = c.put_back.new.ranges in
    let back = subst (λ (l : ℕ). PutsBack m.ranges n l u) c.left_of.ensures.value c.put_back.ensures.after in
    let given : Sound m → Gave m.size m.ranges n u =
    λ s. gave m n c.last_up_to-range.result u s (c.last_up_to-range.ensures.value m.size s.regular) (sym c.is_out.ensures.value ∙ c.if-not-is_out.false) back in
    record { gives = λ s. (refl, (given s).owned); sound = λ s. gave_sound m n u _ s (given s) c.saturating_add-self.ensures; rest = λ s. (given s).rest }
