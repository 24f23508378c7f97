-- What each step leaves of a sound pool.
use Rattle.std.proofs.Common.{◌≡◌, refl, ℕ, suc, ◌+◌, ◌≤◌, List, [], length, Ok, Err, sym, ap, subst, inl, inr, arith, Bor}
use Rattle.records.specs.declared.rows.Kind.{Kind}
use Rattle.records.specs.declared.rows.Kind.TheVariants.{Head, Snapshot as OfSnapshot}
use Rattle.records.specs.declared.rows.Row.{Row}
use Rattle.tree.specs.Paths.{filled}
use Rattle.model.specs.Datasets.{State, Dataset}
use Rattle.model.specs.Laws.{StepsKeepSound}
use Rattle.model.specs.Paths.{Hole, sinking}
use Rattle.model.specs.Questions.{questions, AllYes, DiscardSinks}
use Rattle.model.specs.Soundness.{Sound}
use Rattle.model.specs.Steps.{Replaced, Destroyed}
use Rattle.model.specs.declared.Call.TheVariants.{Create, Write, Discard, Read, Snapshot, Clone, Destroy, Unique, Used, Bucket}
use Rattle.model.proofs.Adds.{created}
use Rattle.model.proofs.Births.{identity_moved, birth_law_moved, one_young_moved}
use Rattle.model.proofs.Borns.{born_moved}
use Rattle.model.proofs.Deads.{dead_moved, dead_ordered_moved, dead_length_moved}
use Rattle.model.proofs.Clones.{cloned}
use Rattle.model.proofs.Heads.{head_destroyed}
use Rattle.model.proofs.Removals.{snapshot_destroyed}
use Rattle.model.proofs.Snapshots.{snapped}
use Rattle.model.proofs.Kin.{shape_moved, family_moved}
use Rattle.model.proofs.Moves.{Moved}
use Rattle.model.proofs.Owners.{owned_moved, below_moved}
use Rattle.model.proofs.Places.{one_row, pointers_moved}
use Rattle.model.proofs.Readings.{write_moved, discard_moved}

-- a replaced path whose dead records fit leaves a sound pool
replaced_sound : (s t : State) (n : ℕ) (r : Row) (p k : ℕ) (bytes : List ℕ) → Sound s → (rep : Replaced s t n r p k bytes) → Moved s t n r p k rep.new
    → length s.dead + length (sinking s r p) ≤ s.dead_room → Sound t
replaced_sound s t n r p k bytes sound rep moved fits = record {
  shape =
      shape_moved s t n r p k bytes sound rep moved (dead_ordered_moved s t n r p k bytes sound rep moved)
      (omega (arith, dead_length_moved s t n r p k bytes sound rep moved, rep.dead_room)) (below_moved s t n r p k bytes sound rep moved);
  family = family_moved s t n r p k rep.new sound moved;
  pointers = pointers_moved s t n r p k rep.new sound moved;
  identity = identity_moved s t n r p k rep.new sound moved;
  birth_law = birth_law_moved s t n r p k rep.new sound moved;
  one_young = one_young_moved s t n r p k rep.new sound moved;
  owned = owned_moved s t n r p k bytes sound rep moved;
  dead = dead_moved s t n r p k bytes sound rep moved;
  born = born_moved s t n r p k bytes sound rep moved;
}

-- the dead records of a granted write fit
write_fits : (s : State) (n p : ℕ) (text : Bor (List ℕ)) (r : Row) → Dataset s n r → AllYes (questions s (Write n p text)) → length s.dead + length (sinking s r p) ≤ s.dead_room
write_fits s n p text r here (_, (_, (_, (_, (_, ((x, k, there, is, fits), _)))))) =
    let row : x ≡ r = one_row s n x r there here in omega (arith, is, ap (λ (y : Row). length (sinking s y p)) row)

-- and those of a granted discard of data
discard_fits : (s : State) (n p : ℕ) (r : Row) → Dataset s n r → (Hole s r p → ⊥) → AllYes (questions s (Discard n p)) → length s.dead + length (sinking s r p) ≤ s.dead_room
discard_fits s n p r here Filled-in (_, (_, (_, (_, (_, ((x, k, there, sinks, fits), _)))))) =
    go (subst (λ (y : Row). DiscardSinks s p y k) (one_row s n x r there here) sinks)
  where
    go : DiscardSinks s p r k → length s.dead + length (sinking s r p) ≤ s.dead_room
    go (inl (hole, _)) = absurd (Filled-in hole)
    go (inr (_, is)) = omega arith

-- a granted destroy leaves a sound pool
destroyed : (s t : State) (n : ℕ) (r : Row) (k : Kind) → r.kind ≡ k → Sound s → Dataset s n r → AllYes (questions s (Destroy n)) → Destroyed s t n r k → Sound t
destroyed s t n r (Head o) kind sound here asked gone = head_destroyed s t n r o sound here kind asked gone
destroyed s t n r (OfSnapshot g) kind sound here asked gone = snapshot_destroyed s t n r g sound here kind asked gone

pub steps_keep_sound : StepsKeepSound
steps_keep_sound s c (Err l) t sound (_, e) = subst Sound (sym e) sound
steps_keep_sound s (Create n h) (Ok a) t sound (asked, (_, e)) = subst Sound (sym e) (created s n h sound asked)
steps_keep_sound s (Write n p text) (Ok a) t sound (asked, (_, (r, here, rep))) =
    replaced_sound s t n r p (suc r.height) (filled text.now) sound rep (write_moved s t n p text r sound here asked rep) (write_fits s n p text r here asked)
steps_keep_sound s (Discard n p) (Ok a) t sound (asked, (_, (r, here, inl (_, e)))) = subst Sound (sym e) sound
steps_keep_sound s (Discard n p) (Ok a) t sound (asked, (_, (r, here, inr (full, (k, stay, rep))))) =
    replaced_sound s t n r p k [] sound rep (discard_moved s t n p k r sound here asked stay rep) (discard_fits s n p r here full asked)
steps_keep_sound s (Read n p) (Ok a) t sound (_, (_, e)) = subst Sound (sym e) sound
steps_keep_sound s (Snapshot n m) (Ok a) t sound (asked, (_, (r, here, snap))) = snapped s t n m r sound here asked snap
steps_keep_sound s (Clone m n) (Ok a) t sound (asked, (_, (r, here, e))) = subst Sound (sym e) (cloned s m n r sound here asked)
steps_keep_sound s (Destroy n) (Ok a) t sound (asked, (_, (r, here, gone))) = destroyed s t n r r.kind refl sound here asked gone
steps_keep_sound s (Unique n) (Ok a) t sound (_, (_, e)) = subst Sound (sym e) sound
steps_keep_sound s (Used n) (Ok a) t sound (_, (_, e)) = subst Sound (sym e) sound
steps_keep_sound s (Bucket n k) (Ok a) t sound (_, (_, e)) = subst Sound (sym e) sound
