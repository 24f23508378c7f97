use Rattle.std.proofs.Common.{refl, sym, ◌∙◌}
use Rattle.ordered.proofs.Shifts.{same_parts, take_used}
use Rattle.ordered.proofs.tables.Table.join_list.Goals as goal

pub returns-clause-ordered : goal.returns-clause-ordered
returns-clause-ordered g c =
    let t = c.args.self.now in
    let before = take_used t.count c.len-count.result t.places.now t.places.now c.len-count.ensures.value refl in
    let after = take_used t.count c.len-count.result t.places.now c.join_first.new.places c.len-count.ensures.value c.join_first.auto.places in
    let j = rw (before, after) at c.join_first.ensures.first in j.ordered

pub returns-clause-stands : goal.returns-clause-stands
returns-clause-stands g c =
    let t = c.args.self.now in
    let before = take_used t.count c.len-count.result t.places.now t.places.now c.len-count.ensures.value refl in
    let after = take_used t.count c.len-count.result t.places.now c.join_first.new.places c.len-count.ensures.value c.join_first.auto.places in
    let j = rw (before, after) at c.join_first.ensures.first in j.stands

pub returns-clause-same : goal.returns-clause-same
returns-clause-same g c = λ e. (same_parts c.len-count.result _ _ (c.join_first.ensures.first.same e) c.join_first.ensures.past, refl)

pub returns-clause-none : goal.returns-clause-none
returns-clause-none g c =
    let t = c.args.self.now in
    let before = take_used t.count c.len-count.result t.places.now t.places.now c.len-count.ensures.value refl in
    let j = rw before at c.join_first.ensures.first in λ up none. (same_parts c.len-count.result _ _ (j.none up none ∙ sym before) c.join_first.ensures.past, refl)
