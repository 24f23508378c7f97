-- A clone keeps a pool sound, and reads as its snapshot.
use Rattle.std.proofs.Common.{◌≡◌, ℕ, Some, Ok, Option, sym, refl, ap, ◌∙◌}
use Rattle.records.specs.declared.rows.Row.{Row}
use Rattle.model.specs.Datasets.{State, Dataset, row_reads, reads}
use Rattle.model.specs.Laws.{Besides}
use Rattle.model.specs.Questions.{questions, AllYes}
use Rattle.model.specs.Soundness.{Sound}
use Rattle.model.specs.Steps.{with_row, clone_row, Step}
use Rattle.model.specs.declared.Answer.{Answer}
use Rattle.model.specs.declared.Call.TheVariants.{Clone}
use Rattle.model.proofs.Adds.{joined}
use Rattle.model.proofs.Joins.{Joins}
use Rattle.model.proofs.Readings.{reads_beside}
use Rattle.model.proofs.Rows.{some_none, same_row, row_number, added_here}

-- the row of a clone may join the rows
pub joins : (s : State) (m n : ℕ) (r : Row) → Sound s → Dataset s m r → AllYes (questions s (Clone m n)) → Joins s (clone_row n r)
joins s m n r sound here (_, (number, (_, ((u, (x, found, snapshot)), (unused, (room, _)))))) = record {
  unused = unused;
  number = number;
  height = sound.shape.heights m r here;
  room = room;
  owner = refl;
  kind = refl;
  born = refl;
  tree = λ j is. (r, u, found_as j is, ap (λ (y : Row). y.kind) (same_row s.rows m r x here found) ∙ snapshot, refl, refl);
  hole = λ is. absurd (some_none _ r.number refl is);
}
  where
    found_as : (j : ℕ) → Some r.number ≡ Some j → Dataset s j r
    found_as j is = cc (here, row_number s.rows m r here)

-- a clone keeps a sound pool sound
pub cloned : (s : State) (m n : ℕ) (r : Row) → Sound s → Dataset s m r → AllYes (questions s (Clone m n)) → Sound (with_row s (clone_row n r))
cloned s m n r sound here asked = joined s (clone_row n r) (joins s m n r sound here asked) sound

-- a clone reads as its snapshot, and all other positions as before
pub clone_reads : (s t : State) (m n : ℕ) (a : Answer) → Sound s → Step s (Clone m n) (Ok a) t → ((p : ℕ) → reads t n p ≡ reads s m p) × Besides s t n
unfolding reads
clone_reads s t m n a sound ((_, (_, (_, (_, (unused, _))))), (_, (r, here, same))) =
    (λ p. ap (λ (x : State). reads x n p) same ∙ clone p, λ j i _ position. ap (λ (x : State). reads x j i) same ∙ reads_beside s (clone_row n r) j i unused position)
  where
    clone : (p : ℕ) → reads (with_row s (clone_row n r)) n p ≡ reads s m p
    clone p =
        ap (λ (x : Option Row). row_reads s.memory x p) (added_here s.rows (clone_row n r) n refl unused)
        ∙ ap (λ (x : Option Row). row_reads s.memory x p) (sym here)
