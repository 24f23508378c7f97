-- Small pools: their rows are named one by one, and their trees have height 1 and the first places alone.
--     Small                    what is known of a small pool
--     head_one, alone          the row of head 1, and that row alone
--     small_start              a pool just formatted
--     small_create, small_clone, small_snapshot, small_used    what these calls answer and leave
use Rattle.std.proofs.Common.{◌≡◌, ℕ, ◌+◌, ◌<◌, ◌≤◌, eqb, ltb, List, [], ◌∷◌, length, Some, None, Ok, Option, Result, sym, refl, ap, ap₂, ◌∙◌, subst, arith}
use Rattle.std.specs.List.{sum_by}
use Rattle.std.specs.Prelude.{filter}
use Rattle.faults.specs.declared.Layer.{Layer}
use Rattle.blocks.specs.Sets.{count}
use Rattle.blocks.proofs.Counts.{count_empty}
use Rattle.ordered.specs.Tables.{with_record, replaced}
use Rattle.records.specs.Keys.{number_of}
use Rattle.records.specs.declared.rows.Kind.TheVariants.{Head, Snapshot as OfSnapshot}
use Rattle.records.specs.declared.rows.Pointer.{Pointer}
use Rattle.records.specs.declared.rows.Row.{Row}
use Rattle.model.specs.Datasets.{State, Dataset, Has, head_row}
use Rattle.model.specs.Histories.{done}
use Rattle.model.specs.Life.{Formatted}
use Rattle.model.specs.Limits.{IsDatasetNumber}
use Rattle.model.specs.Questions.{questions, AllYes}
use Rattle.model.specs.Soundness.{Sound}
use Rattle.model.specs.Steps.{Step, Granted, Snapped, clone_row, snapshot_row, with_previous, with_root, with_row}
use Rattle.model.specs.declared.Answer.{Answer}
use Rattle.model.specs.declared.Answer.TheVariants.{Done, Count}
use Rattle.model.specs.declared.Call.TheVariants.{Create, Snapshot, Clone, Used}
use Rattle.model.proofs.Adds.{some_place, head_joins}
use Rattle.model.proofs.Changes.{unchanged}
use Rattle.model.proofs.Clones.{joins}
use Rattle.model.proofs.Figures.{used_figure}
use Rattle.model.proofs.Joins.{Joins}
use Rattle.model.proofs.Keeps.{steps_keep_sound}
use Rattle.model.proofs.Rows.{some_none, row_of, same_row}
use Rattle.model.proofs.SnapshotRows.{no_more_dead}
use Rattle.model.proofs.Snapshots.{likes}
use Rattle.model.proofs.Starts.{formatted_sound}
use Rattle.model.proofs.Sums.{one_count}
use Rattle.model.proofs.Turns.{granted}

-- The pool s in group g, with these rows and so many owned blocks, at most so many dead records, and the sizes of z. Of its
-- trees it has the first w places at most: the root, and the positions in turn.
pub record Small (z s : State) (g w : ℕ) (xs : List Row) (o d : ℕ) : Type 0 where
  pub sound : Sound s
  pub size : s.size ≡ z.size
  pub row_room : s.row_room ≡ z.row_room
  pub dead_room : s.dead_room ≡ z.dead_room
  pub group : s.group ≡ g
  pub rows : s.rows ≡ xs
  pub within : (n e i : ℕ) (q : Pointer) → Has s n e i q → e + i < w
  pub owned : count s.owns s.size ≡ o
  pub dead : length s.dead ≤ d

-- the row of head 1 with this root and so many blocks born, and that row alone
abbrev pub head_one : Option Pointer → ℕ → Row
head_one root born = with_root (head_row 1 1) root born

abbrev pub alone : Option Pointer → ℕ → List Row
alone root born = head_one root born ∷ []

-- a pool just formatted
pub small_start : (s : State) → Formatted s → Small s s 1 0 [] 0 0
small_start s (asked, is) = record {
  sound = subst Sound (sym is) (formatted_sound s.memory s.row_room s.dead_room s.size s.owns asked);
  size = refl;
  row_room = refl;
  dead_room = refl;
  group = ap (λ (x : State). x.group) is;
  rows = empty;
  within = λ n d i q has. absurd (some_none (row_of [] n) has.row (ap (λ xs. row_of xs n) (sym empty) ∙ has.found) refl);
  owned = count_empty s.owns s.size (λ b _. asked.1.0 b);
  dead = omega (arith, ap (λ (x : State). length x.dead) is);
}
  where
    empty : s.rows ≡ []
    empty = ap (λ (x : State). x.rows) is

module _ {z s : State} {g w : ℕ} {rows : List Row} {owned dead : ℕ} (small : Small z s g w rows owned dead) where
  -- a dataset by the named rows
  pub found : (n : ℕ) (r : Row) → row_of rows n ≡ Some r → Dataset s n r
  found n r here = ap (λ xs. row_of xs n) small.rows ∙ here

  -- the row of a new head joins
  small_joined : (t : State) (x : Row) → Joins s x → Sound t → t ≡ with_row s x → Small z t g w (with_record number_of ltb rows x) owned dead
  small_joined t x joins sound is = record {
    sound = sound;
    size = ap (λ (y : State). y.size) is ∙ small.size;
    row_room = ap (λ (y : State). y.row_room) is ∙ small.row_room;
    dead_room = ap (λ (y : State). y.dead_room) is ∙ small.dead_room;
    group = ap (λ (y : State). y.group) is ∙ small.group;
    rows = ap (λ (y : State). y.rows) is ∙ ap (λ xs. with_record number_of ltb xs x) small.rows;
    within = λ n d i q has.
        (let (j, was) = some_place s x joins small.sound n d i q (subst (λ (y : State). Has y n d i q) is has) in small.within j d i q was);
    owned = ap (λ (y : State). count y.owns y.size) is ∙ small.owned;
    dead = omega (arith, small.dead, ap (λ (y : State). length y.dead) is);
  }

  -- create answers so
  pub small_create : (n : ℕ) → IsDatasetNumber n → row_of rows n ≡ None → length rows < z.row_room
      → (a : Result Answer Layer) (t : State) → Step s (Create n 1) a t → (a ≡ done 0 0) × Small z t g w (with_record number_of ltb rows (head_row n 1)) owned dead
  small_create n number unused room a t step =
      let (x, e, (is, same)) = granted s t (Create n 1) a asked step in (
        e ∙ ap Ok (is ∙ ap Done (unchanged s t (ap (λ (y : State). y.owns) same))),
        small_joined t (head_row n 1) (head_joins s n 1 asked) (steps_keep_sound s (Create n 1) a t small.sound step) same,
      )
    where
      asked : AllYes (questions s (Create n 1))
      asked = (number, (ap (λ xs. row_of xs n) small.rows ∙ unused, ((omega arith, omega arith), (omega (arith, ap length small.rows, small.row_room), tt))))

  -- and clone
  pub small_clone : (m n : ℕ) {u : ℕ} {r : Row} → row_of rows m ≡ Some r → r.kind ≡ OfSnapshot u → IsDatasetNumber n → row_of rows n ≡ None → length rows < z.row_room
      → (a : Result Answer Layer) (t : State) → Step s (Clone m n) a t → (a ≡ done 0 0) × Small z t g w (with_record number_of ltb rows (clone_row n r)) owned dead
  small_clone m n {u} {r} here kind number unused room a t step = go (granted s t (Clone m n) a asked step)
    where
      asked : AllYes (questions s (Clone m n))
      asked = (small.sound.shape.numbers m r (found m r here), (number, ((r, found m r here), ((u, (r, found m r here, kind)), (ap (λ xs. row_of xs n) small.rows ∙ unused, (omega (arith, ap length small.rows, small.row_room), tt))))))

      go : (x : Answer) × (a ≡ Ok x) × Granted s (Clone m n) x t → (a ≡ done 0 0) × Small z t g w (with_record number_of ltb rows (clone_row n r)) owned dead
      go (x, e, (is, (y, there, same))) =
          let row : y ≡ r = same_row s.rows m y r there (found m r here) in
          let made : t ≡ with_row s (clone_row n r) = same ∙ ap (λ (v : Row). with_row s (clone_row n v)) row in (
            e ∙ ap Ok (is ∙ ap Done (unchanged s t (ap (λ (v : State). v.owns) made))),
            small_joined t (clone_row n r) (joins s m n r small.sound (found m r here) asked) (steps_keep_sound s (Clone m n) a t small.sound step) made,
          )

  -- and snapshot
  pub small_snapshot : (n m : ℕ) {r : Row} {o : Option ℕ} → row_of rows n ≡ Some r → r.kind ≡ Head o → IsDatasetNumber m → row_of rows m ≡ None → length rows < z.row_room → g < 65535
      → (a : Result Answer Layer) (t : State) → Step s (Snapshot n m) a t
      → (a ≡ done 0 0) × Small z t (g + 1) w (with_record number_of ltb (replaced number_of ltb rows (with_previous r (Some m) 0)) (snapshot_row m r g)) owned dead
  small_snapshot n m {r} {o} here kind number unused room left a t step = go (granted s t (Snapshot n m) a asked step)
    where
      asked : AllYes (questions s (Snapshot n m))
      asked = (small.sound.shape.numbers n r (found n r here), (number, ((r, found n r here), ((o, (r, found n r here, kind)), (ap (λ xs. row_of xs m) small.rows ∙ unused, (omega (arith, ap length small.rows, small.row_room), (omega (arith, small.group), tt)))))))

      Left : Type 0
      Left = Small z t (g + 1) w (with_record number_of ltb (replaced number_of ltb rows (with_previous r (Some m) 0)) (snapshot_row m r g)) owned dead

      made : Snapped s t n m r → Left
      made snap = record {
        sound = steps_keep_sound s (Snapshot n m) a t small.sound step;
        size = ap (λ (y : State). y.size) snap.rest ∙ small.size;
        row_room = ap (λ (y : State). y.row_room) snap.rest ∙ small.row_room;
        dead_room = ap (λ (y : State). y.dead_room) snap.rest ∙ small.dead_room;
        group = ap (λ (y : State). y.group) snap.rest ∙ ap (λ (i : ℕ). i + 1) small.group;
        rows = ap (λ (y : State). y.rows) snap.rest
            ∙ ap₂ (λ xs (i : ℕ). with_record number_of ltb (replaced number_of ltb xs (with_previous r (Some m) 0)) (snapshot_row m r i)) small.rows small.group;
        within = λ k d i q has.
            (let now = subst (λ (y : State). Has y k d i q) snap.rest has in
            let (j, like) = likes s n m r t.dead small.sound (found n r here) asked k now.row now.found in
            small.within j d i q ((like d i q).0 now));
        owned = ap (λ (y : State). count y.owns y.size) snap.rest ∙ small.owned;
        dead = omega (arith, small.dead, no_more_dead s n m r t.dead small.sound (found n r here) asked (record { ordered = snap.dead.ordered; members = snap.dead.members }));
      }

      go : (x : Answer) × (a ≡ Ok x) × Granted s (Snapshot n m) x t → (a ≡ done 0 0) × Left
      go (x, e, (is, (y, there, snap))) =
          let same : Snapped s t n m r = subst (Snapped s t n m) (same_row s.rows n y r there (found n r here)) snap in
          (e ∙ ap Ok (is ∙ ap Done (unchanged s t (ap (λ (v : State). v.owns) same.rest))), made same)

  -- used answers the blocks born in the rows of the file system
  pub small_used : (n k : ℕ) {r : Row} {o : Option ℕ} → row_of rows n ≡ Some r → r.kind ≡ Head o → sum_by (λ (x : Row). x.born) (filter (λ (x : Row). eqb x.owner n) rows) ≡ k
      → (a : Result Answer Layer) (t : State) → Step s (Used n) a t → (a ≡ Ok (Count k)) × Small z t g w rows owned dead
  small_used n k {r} {o} here kind sum a t step =
      let (x, e, ((j, is, used), same)) = granted s t (Used n) a asked step in
      let count : j ≡ k =
      one_count _ s.size j _ used (used_figure s n small.sound) ∙ ap (λ xs. sum_by (λ (y : Row). y.born) (filter (λ (y : Row). eqb y.owner n) xs)) small.rows ∙ sum in
      (e ∙ ap Ok (is ∙ ap Count count), subst (λ (y : State). Small z y g w rows owned dead) (sym same) small)
    where
      asked : AllYes (questions s (Used n))
      asked = (small.sound.shape.numbers n r (found n r here), ((r, found n r here), ((o, (r, found n r here, kind)), tt)))
