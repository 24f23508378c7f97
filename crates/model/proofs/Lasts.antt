-- A position reads what was last written there, and all others read as before.
use Rattle.std.proofs.Common.{◌≡◌, ℕ, suc, List, Some, None, Ok, refl, ap, ◌∙◌, inl, inr, arith, Bor}
use Rattle.records.specs.declared.rows.Kind.{Kind}
use Rattle.records.specs.declared.rows.Kind.TheVariants.{Head, Snapshot as OfSnapshot}
use Rattle.tree.specs.Trees.{at}
use Rattle.tree.specs.Paths.{filled}
use Rattle.model.specs.Datasets.{State, Position, head_row, reads}
use Rattle.model.specs.Laws.{Besides, Elsewhere, ReadsLast}
use Rattle.model.specs.Soundness.{Sound}
use Rattle.model.specs.Steps.{Destroyed, Step}
use Rattle.model.specs.declared.Answer.{Answer}
use Rattle.model.specs.declared.Call.TheVariants.{Create, Write, Discard, Destroy}
use Rattle.model.proofs.Clones.{clone_reads}
use Rattle.model.proofs.Heads.{head_reads}
use Rattle.model.proofs.Readings.{reads_at, path_end, reads_written, reads_dropped, reads_moved, write_moved, discard_moved, reads_new, reads_beside}
use Rattle.model.proofs.Removals.{removal_reads}
use Rattle.model.proofs.Snapshots.{snapshot_reads}

pub reads_last : ReadsLast
reads_last = record { created = created; written = written; discarded = discarded; snapped = snapshot_reads; cloned = clone_reads; destroyed = destroyed }
  where
    created : (s t : State) (n h : ℕ) (a : Answer) → Sound s → Step s (Create n h) (Ok a) t → ((p : ℕ) → reads t n p ≡ None) × ((m i : ℕ) → Position s m i → reads t m i ≡ reads s m i)
    created s t n h a sound ((_, (unused, _)), (_, e)) =
        (λ p. ap (λ (x : State). reads x n p) e ∙ reads_new s n h p unused, λ m i position. ap (λ (x : State). reads x m i) e ∙ reads_beside s (head_row n h) m i unused position)

    written : (s t : State) (n p : ℕ) (text : Bor (List ℕ)) (a : Answer) → Sound s → Step s (Write n p text) (Ok a) t
        → (reads t n p ≡ Some (filled text.now)) × Elsewhere s t n p
    written s t n p text a sound (asked, (_, (r, here, rep))) =
        let path = write_moved s t n p text r sound here asked rep in (
          reads_written s t n r p (suc r.height) rep.new sound path refl ∙ ap (λ (l : List ℕ). Some l) (rep.memory.stored (omega arith)),
          reads_moved s t n r p (suc r.height) rep.new sound path rep.memory.others,
        )

    discarded : (s t : State) (n p : ℕ) (a : Answer) → Sound s → Step s (Discard n p) (Ok a) t → (reads t n p ≡ None) × Elsewhere s t n p
    discarded s t n p a sound (asked, (_, (r, here, inl (hole, same)))) =
        let is : at s.memory r.root r.height p ≡ None = rw (path_end r.height p) at hole in
        (ap (λ (x : State). reads x n p) same ∙ reads_at s n r p None here is, λ m i _ _. ap (λ (x : State). reads x m i) same)
    discarded s t n p a sound (asked, (_, (r, here, inr (_, (k, stay, rep))))) =
        let path = discard_moved s t n p k r sound here asked stay rep in
        (reads_dropped s t n r p k rep.new sound path stay.within, reads_moved s t n r p k rep.new sound path rep.memory.others)

    destroyed : (s t : State) (n : ℕ) (a : Answer) → Sound s → Step s (Destroy n) (Ok a) t → Besides s t n
    destroyed s t n a sound (asked, (_, (r, here, gone))) = by r.kind gone
      where
        by : (k : Kind) → Destroyed s t n r k → Besides s t n
        by (Head o) head = head_reads s t n sound head
        by (OfSnapshot g) snapshot = removal_reads s t n r sound here asked.1.1.0 snapshot
