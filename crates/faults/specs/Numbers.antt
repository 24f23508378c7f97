-- What a refusal prints of its cause.
--     script_number, pool_number, memory_number    the number of a cause, by its layer
--     fault_number                                 the number of a layer's cause
--     fault_letter                                 the layer's letter
--     Alone n l                                    no other layer and cause has the number n
use Rattle.std.specs.Prelude.{◌≡◌, ℕ}
use Rattle.faults.specs.declared.ScriptCause.{ScriptCause}
use Rattle.faults.specs.declared.ScriptCause.TheVariants.{Size, Letter, WordCount, Digits, Text}
use Rattle.faults.specs.declared.PoolCause.{PoolCause}
use Rattle.faults.specs.declared.PoolCause.TheVariants.{DatasetNumber, NoDataset, WrongKind, NumberUsed, OutOfRange, HasClones, HasSnapshots, NoPool}
use Rattle.faults.specs.declared.MemoryCause.{MemoryCause}
use Rattle.faults.specs.declared.MemoryCause.TheVariants.{RowsFull, GroupsSpent, BlocksShort, DeadFull, BadShape, NotEmpty}
use Rattle.faults.specs.declared.Layer.{Layer}
use Rattle.faults.specs.declared.Layer.TheVariants.{Script, Pool, Memory}

-- 1 to 5: the script
abbrev pub script_number : ScriptCause → ℕ
script_number Size = 1
script_number Letter = 2
script_number WordCount = 3
script_number Digits = 4
script_number Text = 5

-- 6 to 12, and 19: the pool
abbrev pub pool_number : PoolCause → ℕ
pool_number DatasetNumber = 6
pool_number NoDataset = 7
pool_number WrongKind = 8
pool_number NumberUsed = 9
pool_number OutOfRange = 10
pool_number HasClones = 11
pool_number HasSnapshots = 12
pool_number NoPool = 19

-- 13 to 18: the memory
abbrev pub memory_number : MemoryCause → ℕ
memory_number RowsFull = 13
memory_number GroupsSpent = 14
memory_number BlocksShort = 15
memory_number DeadFull = 16
memory_number BadShape = 17
memory_number NotEmpty = 18

-- the number of the cause that a layer holds
abbrev pub fault_number : Layer → ℕ
fault_number (Script cause) = script_number cause
fault_number (Pool cause) = pool_number cause
fault_number (Memory cause) = memory_number cause

-- the codes of s, p and m
abbrev pub fault_letter : Layer → ℕ
fault_letter (Script cause) = 115
fault_letter (Pool cause) = 112
fault_letter (Memory cause) = 109

-- l is the only layer and cause with the number n
abbrev pub Alone : ℕ → Layer → Type 0
Alone n l = (other : Layer) → fault_number other ≡ n → other ≡ l
