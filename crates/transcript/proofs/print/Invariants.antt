use Rattle.std.proofs.Common.{◌≡◌, ℕ, List, ◌++◌, length, replicate, vec_items}
use Rattle.script.specs.Consoles.{Prints, opened}
use Rattle.script.specs.Sessions.{Ready, console_of}
use Rattle.transcript.proofs.print.Given as goal

-- what the session still prints follows what was printed so far
abbrev pub invariant-loop-len : goal.invariant-loop-len
invariant-loop-len l =
    Ready l.session × (length l.line ≡ 80)
    × ((rest : List ℕ) → Prints (console_of l.session) rest → Prints (opened (replicate 16384 0) l.script) (vec_items l.out ++ rest))

abbrev pub decreases-loop-len : goal.decreases-loop-len
decreases-loop-len l = length (console_of l.session).rest
