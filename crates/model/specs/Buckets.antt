-- The buckets of a dead list. With m ancestors there are m of them, from 0 on.
--     bucket_key s ms k         the key of bucket k
--     InBucket s n ms k x       the dead record x lies in bucket k of dataset n
--     lower s n ms k x          the dead record x stands before the keys of bucket k
--     BucketIs s n k place len  bucket k of n is that part of the dead table
use Rattle.std.specs.Prelude.{◌≡◌, ℕ, zero, suc, ◌+◌, ◌<◌, ◌≤◌, Bool, ◌&&◌, ◌||◌, ◌↔◌, List, length, Some, filter, ◌==◌, nat_le, nat_lt, slice_index}
use Rattle.std.specs.List.{between}
use Rattle.ordered.specs.Lists.{Stands}
use Rattle.records.specs.Keys.{dead_key, dead_below}
use Rattle.records.specs.declared.dead.DeadRecord.{DeadRecord}
use Rattle.model.specs.Datasets.{State, stamp}
use Rattle.model.specs.Families.{Ancestors}

-- the key of bucket 0 is 0, and of each other bucket k the stamp of the kth oldest ancestor
abbrev pub bucket_key : State → List ℕ → ℕ → ℕ
bucket_key s ms zero = 0
bucket_key s ms (suc k) = stamp s (Some (slice_index ms k))

-- a record of n lies in the bucket with the greatest key below its birth
abbrev pub InBucket : State → ℕ → List ℕ → ℕ → DeadRecord → Type 0
InBucket s n ms k x =
    (x.dataset ≡ n) × (bucket_key s ms k < x.birth)
    × ((j : ℕ) → j < length ms → bucket_key s ms j < x.birth → bucket_key s ms j ≤ bucket_key s ms k)

-- a record of a lower dataset, or one of n that was not born after the key
abbrev pub lower : State → ℕ → List ℕ → ℕ → DeadRecord → Bool
lower s n ms k x = nat_lt x.dataset n || (x.dataset == n && nat_le x.birth (bucket_key s ms k))

-- the records from `place` on, `len` in number, are those of bucket k of n, and the records before its keys stand before them
pub record BucketIs (s : State) (n k place len : ℕ) : Type 0 where
  pub ancestors : List ℕ
  pub are : Ancestors s n ancestors
  pub within : place + len ≤ length s.dead
  pub holds : (x : DeadRecord) → Stands dead_key dead_below (between place (place + len) s.dead) x ↔ (Stands dead_key dead_below s.dead x × InBucket s n ancestors k x)
  pub before : place ≡ length (filter (lower s n ancestors k) s.dead)
