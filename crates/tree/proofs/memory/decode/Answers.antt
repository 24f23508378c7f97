use Rattle.std.proofs.Common.{true, false, arith}
use Rattle.tree.proofs.Blocks.{pointer_told}
use Rattle.tree.proofs.memory.decode.Goals as goal

pub returns-then-birth-eq0 : goal.returns-then-birth-eq0
returns-then-birth-eq0 c = record {
  value = pointer_told c.args.bytes.now c.args.place _ _ false c.word-block.ensures.value c.word-birth.ensures.value (λ e. absurd cc) (λ e. omega arith);
}

pub returns-else-block-eq0 : goal.returns-else-block-eq0
returns-else-block-eq0 c = record {
  value = pointer_told c.args.bytes.now c.args.place _ _ true c.word-block.ensures.value c.word-birth.ensures.value (λ e z. omega arith) (λ e. absurd cc);
}
