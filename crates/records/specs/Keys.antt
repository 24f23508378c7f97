-- The key of each kind of record, the order of each kind of key, and the lists of dead records. Assumes nothing.
--     number_of                  a row's key is its dataset number, compared as a number
--     dead_key, dead_below       a dead record's is dataset, birth and block, compared in that order
--     dead_list, dead_moved      a dead record is in its dataset's list, and moves with another dataset
--     first_of, first_below      a free range's is its first block
use Rattle.std.specs.Prelude.{ℕ, Bool, ◌&&◌, ◌||◌, ◌==◌, nat_lt}
use Rattle.records.specs.declared.rows.Row.{Row}
use Rattle.records.specs.declared.dead.DeadRecord.{DeadRecord}
use Rattle.records.specs.declared.ranges.FreeRange.{FreeRange}
use Rattle.records.specs.declared.ranges.FirstBlock.{FirstBlock}

-- the dataset number
abbrev pub number_of : Row → ℕ
number_of r = r.number

-- all that a dead record holds
abbrev pub dead_key : DeadRecord → DeadRecord
dead_key r = r

-- a lower dataset, else a lower birth, else a lower block
abbrev pub dead_below : DeadRecord → DeadRecord → Bool
dead_below a b =
    nat_lt a.dataset b.dataset
    || (a.dataset == b.dataset && (nat_lt a.birth b.birth || (a.birth == b.birth && nat_lt a.block b.block)))

-- the list of its dataset
abbrev pub dead_list : DeadRecord → ℕ
dead_list r = r.dataset

-- the same birth and block, with another dataset
abbrev pub dead_moved : DeadRecord → ℕ → DeadRecord
dead_moved r d = record r { dataset = d }

-- the first block of the range
abbrev pub first_of : FreeRange → FirstBlock
first_of r = record { 0 = r.first }

-- a lower block
abbrev pub first_below : FirstBlock → FirstBlock → Bool
first_below a b = nat_lt a.0 b.0
