use Rattle.std.proofs.Common.{sym, ap, ◌∙◌, arith}
use Rattle.tree.specs.Trees.{pointer_in}
use Rattle.tree.proofs.Places.{some_child}
use Rattle.tree.proofs.memory.children.Goals as goal

pub returns : goal.returns
returns c =
    let inv = c.loop-place.invariant in
    record {
      below = record {
        long = inv.long;
        here = λ k small. inv.here k (omega arith) ∙ ap (λ bytes. pointer_in bytes k) c.in_ok-bytes.ensures.read ∙ sym (some_child _ _ k);
      };
    }
