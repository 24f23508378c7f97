-- Every promise is kept throughout the life of a pool, whatever the calls.
use Rattle.std.proofs.Common.{◌≡◌, ℕ, false, Ok, Err, refl, sym, subst}
use Rattle.blocks.proofs.Counts.{count_empty}
use Rattle.model.specs.Datasets.{State, Unused}
use Rattle.model.specs.Life.{LifeKept, Formatted, Run, start, call, Unchanged, Promise}
use Rattle.model.specs.Soundness.{Sound}
use Rattle.model.proofs.Asked.{unique, used}
use Rattle.model.proofs.Handed.{sound_after, owned_out, ends}
use Rattle.model.proofs.Memories.{taken_there, there_taken, taken_reads, written_reads}
use Rattle.model.proofs.Starts.{formatted_sound}
use Rattle.model.proofs.Tallies.{counts}

-- a refused call leaves all as it was
unchanged : {s t : State} (run : Run s t) → Unchanged run
unfolding Unchanged
unchanged start = tt
unchanged (call run c (Ok a) step) = tt
unchanged (call run c (Err l) step) = step

module _ (s : State) (formatted : Formatted s) where
  sound : Sound s
  sound = subst Sound (sym formatted.1) (formatted_sound s.memory s.row_room s.dead_room s.size s.owns formatted.0)

  no_block : (b : ℕ) → s.owns b ≡ false
  no_block = formatted.0.1.0

  no_dataset : (m : ℕ) → Unused s m
  no_dataset m = subst (λ (x : State). Unused x m) (sym formatted.1) refl

  -- every run keeps its promise
  kept : {t : State} (run : Run s t) → Promise run
  kept {t} run = record {
    reached = (sound_after run sound).owned;
    out = owned_out run no_block;
    ends = ends run no_block (sound_after run sound);
    unique = unique t (sound_after run sound);
    used = used t (sound_after run sound);
    counts = counts run (count_empty s.owns s.size (λ b _. no_block b));
    snapshots = λ m. ((λ (g, snapshot). there_taken run sound no_dataset m g snapshot), (λ (n, past, taken). taken_there run sound m n past taken));
    keeps = taken_reads run sound;
    writes = written_reads run sound no_dataset;
    refused = unchanged run;
  }

-- and all promises are kept at its start and after each of its calls
pub life_kept : LifeKept
life_kept s _ start formatted = kept s formatted start
life_kept s _ (call {t} {u} run c r step) formatted = (life_kept s t run formatted, kept s formatted (call run c r step))
