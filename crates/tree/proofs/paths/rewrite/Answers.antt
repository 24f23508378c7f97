use Rattle.std.proofs.Common.{arith}
use Rattle.tree.proofs.Links.{with_data, without_data, spares_more}
use Rattle.tree.proofs.paths.rewrite.Goals.{in-Some+in_ok-store_block, in_default}
use Rattle.tree.proofs.paths.rewrite.Goals as goal

pub returns-clause-rewritten : goal.returns-clause-rewritten
returns-clause-rewritten c = λ ok tracks fresh. (
  c.pointer.ensures.value,
  elim c.match-get.branch [
    | in-Some+in_ok-store_block w ↦ (let look = w.in-Some.ensures.lookup.3 in
        rw w.memory-is (with_data _ _ _ _ _ _ _ fresh _ _ _ _ _ _ w.filled_block.ensures.value (omega arith) look.0 (look.1 0) (c.in_ok-relink.ensures.linked tracks fresh) w.in_ok-store_block.ensures.stored))
    | in_default w ↦ rw w.memory-is (without_data _ _ _ _ _ _ _ fresh _ _ _ (omega (arith, w.in_default.ensures.lookup.3)) w.in_default.ensures.lookup.3 (c.in_ok-relink.ensures.linked tracks fresh))
  ],
)

pub returns-clause-spared : goal.returns-clause-spared
returns-clause-spared c = elim c.match-get.branch [
  | in-Some+in_ok-store_block w ↦ (let look = w.in-Some.ensures.lookup.3 in
      rw w.memory-is (spares_more _ _ _ _ _ _ _ c.in_ok-relink.ensures.spared look.0 (look.1 0) w.in_ok-store_block.ensures.stored))
  | in_default w ↦ rw w.memory-is c.in_ok-relink.ensures.spared
]
