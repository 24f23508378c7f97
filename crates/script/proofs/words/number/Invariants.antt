use Rattle.std.proofs.Common.{◌≡◌, take}
use Rattle.script.proofs.Decimals.{AllDigits, read_on}
use Rattle.script.proofs.words.number.Given as goal

abbrev pub invariant-loop-b : goal.invariant-loop-b
invariant-loop-b l = AllDigits (take l.b-index l.bytes) × (l.value ≡ read_on 0 (take l.b-index l.bytes))
