-- Destroying a snapshot keeps a pool sound, and all other datasets read as before.
use Rattle.std.proofs.Common.{◌≡◌, ℕ, ◌+◌, ◌-◌, ◌*◌, ◌<◌, ◌≤◌, ltb, List, length, refl, sym, ap, ◌∙◌, subst, arith}
use Rattle.std.specs.Option.{option_map}
use Rattle.ordered.specs.Order.{Holds}
use Rattle.ordered.specs.Tables.{Ascending, without_key}
use Rattle.records.specs.Keys.{number_of}
use Rattle.records.specs.declared.rows.Kind.TheVariants.{Snapshot}
use Rattle.records.specs.declared.rows.Pointer.{Pointer}
use Rattle.records.specs.declared.rows.Row.{Row}
use Rattle.tree.specs.Trees.{block_size, block, at}
use Rattle.model.specs.Datasets.{State, Dataset}
use Rattle.model.specs.Families.{IsClone}
use Rattle.model.specs.Figures.{Only}
use Rattle.model.specs.Laws.{Besides}
use Rattle.model.specs.Limits.{Height, Group, PoolSize, RowRoom, DeadRoom}
use Rattle.model.specs.Questions.{questions, AllYes}
use Rattle.model.specs.Soundness.{Sound, Shape}
use Rattle.model.specs.Steps.{Released, SnapshotDestroyed, given, with_previous}
use Rattle.model.specs.declared.Call.TheVariants.{Destroy}
use Rattle.model.proofs.Heirs.{snapshot_after, family_skipped, pointers_skipped, identity_skipped, birth_law_skipped, one_young_skipped}
use Rattle.model.proofs.Merges.{dead_skipped, dead_fits_skipped}
use Rattle.model.proofs.Readings.{reads_at}
use Rattle.model.proofs.Releases.{owned_skipped, below_skipped, born_skipped}
use Rattle.model.proofs.Rows.{length_removed, length_replaced, order_removed, order_replaced}
use Rattle.model.proofs.Shares.{only_dead}
use Rattle.model.proofs.Skipping.{skipped}
use Rattle.model.proofs.Skips.{Skipped}

module _ (s t : State) (n : ℕ) (r : Row) (sound : Sound s) (here : Dataset s n r) (clones : (k : ℕ) → IsClone s n k → ⊥) (gone : SnapshotDestroyed s t n r) where
  abbrev m : ℕ
  m = gone.next

  abbrev x : Row
  x = gone.row

  abbrev c : ℕ
  c = x.born + r.born - given s t

  skip : Skipped s t n m r x c
  skip = skipped s t n r sound here clones gone

  only : (b : ℕ) → Released s m r b → Only s n b
  only b = (only_dead s n m r sound here gone.is_next clones b).0

  -- the shape of the pool
  shape : Shape t
  shape = record {
    size = subst PoolSize (sym skip.size) sound.shape.size;
    memory = ap length skip.memory ∙ sound.shape.memory ∙ ap (λ (z : ℕ). block_size * z) (sym skip.size);
    row_room = subst RowRoom (sym (ap (λ (z : State). z.row_room) gone.rest)) sound.shape.row_room;
    dead_room = subst DeadRoom (sym dead_room) sound.shape.dead_room;
    rows_fit =
        (let long = ap (λ (z : State). length z.rows) gone.rest ∙ length_replaced (without_key number_of ltb s.rows n) (with_previous x r.previous c) in
        let fewer = length_removed s.rows n in
        let fit = sound.shape.rows_fit in
        let room = ap (λ (z : State). z.row_room) gone.rest in
        omega arith);
    dead_fit = omega (arith, dead_fits_skipped s t n m r x c sound skip gone.dead, sound.shape.dead_fit, dead_room);
    ordered = subst (Ascending number_of (Holds ltb)) (sym (ap (λ (z : State). z.rows) gone.rest))
        (order_replaced (without_key number_of ltb s.rows n) (with_previous x r.previous c) (order_removed s.rows n sound.shape.ordered));
    dead_ordered = gone.dead.ordered;
    numbers = λ k y there. (let (_, (z, found, _)) = skip.row_after k y there in sound.shape.numbers k z found);
    heights = λ k y there. (let (_, (z, found, alike)) = skip.row_after k y there in subst Height (sym alike.height) (sound.shape.heights k z found));
    group = subst Group (sym skip.group) sound.shape.group;
    stamps = λ k u is. subst (λ (g : ℕ). (1 ≤ u) × (u < g)) (sym skip.group) (sound.shape.stamps k u (snapshot_after s t n m r x c sound skip k u is));
    below = below_skipped s t n m r x c sound skip only gone.owned;
  }
    where
      dead_room : t.dead_room ≡ s.dead_room
      dead_room = ap (λ (z : State). z.dead_room) gone.rest

  removed : Sound t
  removed = record {
    shape = shape;
    family = family_skipped s t n m r x c sound skip clones;
    pointers = pointers_skipped s t n m r x c sound skip;
    identity = identity_skipped s t n m r x c sound skip;
    birth_law = birth_law_skipped s t n m r x c sound skip;
    one_young = one_young_skipped s t n m r x c sound skip;
    owned = owned_skipped s t n m r x c sound skip only gone.owned;
    dead = dead_skipped s t n m r x c sound skip gone.dead;
    born = born_skipped s t n m r x c sound skip only gone.owned refl;
  }

  -- all other datasets read as before
  pub removal_reads : Besides s t n
  removal_reads k i far (z, there, _) =
      let (y, now, alike) = skip.row_before k z far there in
      let same : at s.memory y.root y.height i ≡ at s.memory z.root z.height i = cc (alike.root, alike.height) in
      reads_at t k y i (at t.memory y.root y.height i) now refl
      ∙ ap (λ (b : List ℕ). option_map (λ (q : Pointer). block b q.block) (at b y.root y.height i)) skip.memory
      ∙ ap (option_map (λ (q : Pointer). block s.memory q.block)) same
      ∙ sym (reads_at s k z i (at s.memory z.root z.height i) there refl)

-- destroying a snapshot keeps a sound pool sound
pub snapshot_destroyed : (s t : State) (n : ℕ) (r : Row) (g : ℕ) → Sound s → Dataset s n r → r.kind ≡ Snapshot g → AllYes (questions s (Destroy n)) → SnapshotDestroyed s t n r → Sound t
snapshot_destroyed s t n r g sound here kind asked gone = removed s t n r sound here asked.1.1.0 gone
