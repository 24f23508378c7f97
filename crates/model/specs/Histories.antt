-- Worked histories: what some calls answer in every pool just formatted, whatever its allocator takes and whatever the
-- texts are. All heights are 1, and head 1 is created first.
--     done taken given            the answer of a change that takes and gives back so many blocks
--     Room blocks rows dead s     s has room for so many blocks, rows and dead records
--     Owns k s                    k blocks of s are owned
--     Fits text                   the text fits in a block
--     calls told                  the calls without their answers
--     Forced Has told Left        in every pool just formatted that has the property Has those calls have those answers, and
--                                 leave a pool that has the property Left
--     two_snapshots x y z told    three writes with a snapshot after the first and after the second, and what is told then
--     script_calls x y            the calls of the worked script, and what is told then
--     Histories                   the worked histories
use Rattle.std.specs.Prelude.{◌≡◌, ℕ, ◌≤◌, List, [], ◌∷◌, length, map, Some, None, Ok, Err, Result}
use Rattle.std.specs.Borrow.{Bor}
use Rattle.faults.specs.declared.Layer.{Layer}
use Rattle.faults.specs.declared.Layer.TheVariants.{Pool, Memory}
use Rattle.faults.specs.declared.MemoryCause.TheVariants.{BlocksShort}
use Rattle.faults.specs.declared.PoolCause.TheVariants.{HasClones}
use Rattle.blocks.specs.Sets.{count}
use Rattle.tree.specs.Trees.{block_size}
use Rattle.tree.specs.Paths.{filled}
use Rattle.model.specs.Datasets.{State, reads}
use Rattle.model.specs.Life.{Formatted, Run, transcript}
use Rattle.model.specs.declared.Answer.{Answer}
use Rattle.model.specs.declared.Answer.TheVariants.{Done, Bytes, Count}
use Rattle.model.specs.declared.Call.{Call}
use Rattle.model.specs.declared.Call.TheVariants.{Create, Write, Discard, Read, Snapshot, Clone, Destroy, Unique, Used}

-- a change that takes and gives back so many blocks
abbrev pub done : ℕ → ℕ → Result Answer Layer
done taken given = Ok (Done (record { taken = taken; given = given }))

-- so many blocks, and at least so many places for rows and dead records
abbrev pub Room : ℕ → ℕ → ℕ → State → Type 0
Room blocks rows dead s = (blocks ≤ s.size) × (rows ≤ s.row_room) × (dead ≤ s.dead_room)

-- k blocks are owned
abbrev pub Owns : ℕ → State → Type 0
Owns k s = count s.owns s.size ≡ k

-- the text fits in a block
abbrev pub Fits : Bor (List ℕ) → Type 0
Fits text = length text.now ≤ block_size

-- the calls without their answers
abbrev pub calls : List (Call × Result Answer Layer) → List Call
calls told = map (λ (x : Call × Result Answer Layer). x.0) told

-- whatever run these calls have in a pool just formatted that has the property Has, it has these answers, and leaves a
-- pool that has the property Left
abbrev pub Forced : (State → Type 0) → List (Call × Result Answer Layer) → (State → Type 0) → Type 0
Forced Has told Left = (s t : State) (run : Run s t) → Formatted s → Has s → calls (transcript run) ≡ calls told → (transcript run ≡ told) × Left t

-- a text is written, and another after a snapshot; the snapshot has a clone, and is asked while it has one and after
abbrev pub script_calls : Bor (List ℕ) → Bor (List ℕ) → List (Call × Result Answer Layer)
script_calls x y =
    (Create 1 1, done 0 0) ∷ (Write 1 0 x, done 2 0) ∷ (Snapshot 1 10, done 0 0) ∷ (Write 1 0 y, done 2 0)
    ∷ (Clone 10 2, done 0 0) ∷ (Unique 10, Err (Pool HasClones)) ∷ (Destroy 2, done 0 0) ∷ (Unique 10, Ok (Count 2))
    ∷ (Read 10 0, Ok (Bytes (Some (filled x.now)))) ∷ (Destroy 10, done 0 2) ∷ (Used 1, Ok (Count 2)) ∷ []

-- three texts are written in turn, and snapshots 10 and 11 are taken in between
abbrev pub two_snapshots : Bor (List ℕ) → Bor (List ℕ) → Bor (List ℕ) → List (Call × Result Answer Layer) → List (Call × Result Answer Layer)
two_snapshots x y z told =
    (Create 1 1, done 0 0) ∷ (Write 1 0 x, done 2 0) ∷ (Snapshot 1 10, done 0 0) ∷ (Write 1 0 y, done 2 0)
    ∷ (Snapshot 1 11, done 0 0) ∷ (Write 1 0 z, done 2 0) ∷ told

pub record Histories : Type 0 where
  -- two snapshots, destroyed in either order, give back two blocks each; those of the last write stay owned
  pub older_first : (x y z : Bor (List ℕ)) → Fits x → Fits y → Fits z
      → Forced (Room 6 3 4) (two_snapshots x y z ((Destroy 10, done 0 2) ∷ (Destroy 11, done 0 2) ∷ [])) (Owns 2)
  pub younger_first : (x y z : Bor (List ℕ)) → Fits x → Fits y → Fits z
      → Forced (Room 6 3 4) (two_snapshots x y z ((Destroy 11, done 0 2) ∷ (Destroy 10, done 0 2) ∷ [])) (Owns 2)
  -- a clone that is written gives nothing back, and then both file systems use two blocks
  pub written_clone : (x y : Bor (List ℕ)) → Fits x → Fits y
      → Forced (Room 4 3 2)
      ((Create 1 1, done 0 0) ∷ (Write 1 0 x, done 2 0) ∷ (Snapshot 1 10, done 0 0) ∷ (Clone 10 2, done 0 0)
      ∷ (Write 2 0 y, done 2 0) ∷ (Used 1, Ok (Count 2)) ∷ (Used 2, Ok (Count 2)) ∷ [])
      (Owns 4)
  -- a snapshot cannot be asked while it has a clone; without the clone it has both its blocks alone, and reads as it did
  pub script : (x y : Bor (List ℕ)) → Fits x → Fits y → Forced (Room 4 3 2) (script_calls x y) (Owns 2)
  -- little room: a write takes two blocks before it gives any back, so of size 2 there is none for a second one
  pub size_two : (x y : Bor (List ℕ)) → Fits x → Fits y
      → Forced (λ s. s.size ≡ 2) ((Create 1 1, done 0 0) ∷ (Write 1 0 x, done 2 0) ∷ (Write 1 0 y, Err (Memory BlocksShort)) ∷ []) (Owns 2)
  pub size_four : (x y : Bor (List ℕ)) → Fits x → Fits y
      → Forced (Room 4 1 0) ((Create 1 1, done 0 0) ∷ (Write 1 0 x, done 2 0) ∷ (Write 1 0 y, done 2 2) ∷ []) (Owns 2)
  -- discards: of the positions 0 and 1 the second, which leaves two blocks, and then the first, which leaves a hole
  pub one_discarded : (x y : Bor (List ℕ)) → Fits x → Fits y
      → Forced (Room 4 1 0)
      ((Create 1 1, done 0 0) ∷ (Write 1 0 x, done 2 0) ∷ (Write 1 1 y, done 2 1) ∷ (Discard 1 1, done 1 2) ∷ [])
      (Owns 2)
  pub both_discarded : (x y : Bor (List ℕ)) → Fits x → Fits y
      → Forced (Room 4 1 0)
      ((Create 1 1, done 0 0) ∷ (Write 1 0 x, done 2 0) ∷ (Write 1 1 y, done 2 1) ∷ (Discard 1 1, done 1 2) ∷ (Discard 1 0, done 0 2) ∷ [])
      (λ t. reads t 1 0 ≡ None)
