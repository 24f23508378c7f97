use Rattle.reclaim.proofs.Sets.{freed}
use Rattle.reclaim.proofs.trees.give_tree.Goals as goal

pub returns-clause-counted : goal.returns-clause-counted
returns-clause-counted g c = λ s.
    let o = c.in_ok-give_young.ensures in
    freed _ _ _ _ (o.fewer s) (c.free_count-free_before.ensures.value s) (c.freed_since.ensures.value (o.sound s))
