-- The worked histories.
use Rattle.std.proofs.Common.{◌≡◌, ℕ, ◌^◌, ◌≤◌, List, [], ◌∷◌, Some, None, Ok, Option, Result, refl, ap, ◌∙◌, arith, rules, Bor}
use Rattle.faults.specs.declared.Layer.{Layer}
use Rattle.records.specs.declared.rows.Pointer.{Pointer}
use Rattle.records.specs.declared.rows.Row.{Row}
use Rattle.records.specs.declared.rows.Kind.TheVariants.{Head, Snapshot as OfSnapshot}
use Rattle.tree.specs.Trees.{fan}
use Rattle.model.specs.Datasets.{State, Position, reads}
use Rattle.model.specs.Histories.{Histories, Fits, Forced, Room, done, two_snapshots}
use Rattle.model.specs.Life.{transcript}
use Rattle.model.specs.declared.Answer.{Answer}
use Rattle.model.specs.declared.Answer.TheVariants.{Bytes}
use Rattle.model.specs.declared.Call.{Call}
use Rattle.model.specs.declared.Call.TheVariants.{Create, Write, Snapshot, Clone, Destroy, Unique}
use Rattle.model.proofs.Alone.{Stored, first_written, second_written, second_dropped, first_dropped}
use Rattle.model.proofs.Lasts.{reads_last}
use Rattle.model.proofs.Rows.{row_of}
use Rattle.model.proofs.SmallClones.{small_alone, small_leave, small_read, small_shared}
use Rattle.model.proofs.Small.{Small, alone, found, small_start, small_create, small_clone, small_snapshot, small_used}
use Rattle.model.proofs.SmallPaths.{few_sink, small_rewrite, small_short}
use Rattle.model.proofs.SmallRemovals.{small_destroy}
use Rattle.model.proofs.Turns.{Follows, and_so, chain, last, turn}

-- what follows from a pool just formatted is forced
forced : {Has Left : State → Type 0} {told : List (Call × Result Answer Layer)} → ((s : State) → Small s s 1 0 [] 0 0 → Has s → Follows s told Left) → Forced Has told Left
forced follows s t run formatted has same = (follows s (small_start s formatted) has).forced (transcript run) t (chain run) same

-- head 1 is created and written, and the rest follows
begun : {z : State} {told : List (Call × Result Answer Layer)} {Left : State → Type 0} (x : Bor (List ℕ)) → Fits x → 2 ≤ z.size → Small z z 1 0 [] 0 0
    → ((s : State) (root : Option Pointer) → Small z s 1 2 (alone root 2) 2 0 → Stored s 0 x → Follows s told Left)
    → Follows z ((Create 1 1, done 0 0) ∷ (Write 1 0 x, done 2 0) ∷ told) Left
begun x fits room empty follows =
    turn (small_create empty 1 (omega arith, omega arith) refl (omega (arith, empty.sound.shape.row_room))) (λ _ small.
    turn (first_written small x fits (omega arith) (omega arith)) (λ s ((root, small), stored).
    follows s root small stored))

-- the rows of head 1 and of its snapshots 10 and 11
abbrev three : Option Pointer → Option Pointer → Option Pointer → List Row
three a b c =
    record { number = 1; height = 1; root = a; previous = Some 11; owner = 1; kind = Head None; born = 2 }
    ∷ record { number = 10; height = 1; root = b; previous = None; owner = 1; kind = OfSnapshot 1; born = 2 }
    ∷ record { number = 11; height = 1; root = c; previous = Some 10; owner = 1; kind = OfSnapshot 2; born = 2 } ∷ []

-- the two snapshots are taken, and the rest follows
snapped : {z : State} {told : List (Call × Result Answer Layer)} {Left : State → Type 0} (x y text : Bor (List ℕ)) → Fits x → Fits y → Fits text
    → Room 6 3 4 z → Small z z 1 0 [] 0 0 → ((s : State) (a b c : Option Pointer) → Small z s 3 2 (three a b c) 6 4 → Follows s told Left)
    → Follows z (two_snapshots x y text told) Left
snapped x y text fits also more room empty follows =
    begun x fits (omega arith) empty (λ _ b small _.
    turn (small_snapshot small 1 10 refl refl (omega arith, omega arith) refl (omega arith) (omega arith)) (λ _ small.
    turn (small_rewrite small 1 refl refl refl 2 y also (omega arith) (few_sink small 1 refl refl refl 0) (omega arith) (omega arith)) (λ _ (c, small).
    turn (small_snapshot small 1 11 refl refl (omega arith, omega arith) refl (omega arith) (omega arith)) (λ _ small.
    turn (small_rewrite small 1 refl refl refl 2 text more (omega arith) (few_sink small 1 refl refl refl 0) (omega arith) (omega arith)) (λ s (a, small).
    follows s a b c small)))))

-- head 1 is written at positions 0 and 1, and the rest follows
both_written : {z : State} {told : List (Call × Result Answer Layer)} {Left : State → Type 0} (x y : Bor (List ℕ)) → Fits x → Fits y
    → Room 4 1 0 z → Small z z 1 0 [] 0 0
    → ((s : State) (root : Option Pointer) → Small z s 1 3 (alone root 3) 3 0 → Stored s 0 x → Stored s 1 y → Follows s told Left)
    → Follows z ((Create 1 1, done 0 0) ∷ (Write 1 0 x, done 2 0) ∷ (Write 1 1 y, done 2 1) ∷ told) Left
both_written x y fits also room empty follows =
    begun x fits (omega arith) empty (λ _ _ small first.
    turn (second_written small x y also room.0 first) (λ s ((root, small), first, second).
    follows s root small first second))

-- a dataset of height 1 has a first position
first : {z s : State} {g w : ℕ} {rows : List Row} {owned dead : ℕ} → Small z s g w rows owned dead → (n : ℕ) {r : Row} → row_of rows n ≡ Some r → r.height ≡ 1 → Position s n 0
first small n {r} named low = (r, found small n r named, omega (arith, ap (λ (h : ℕ). fan ^ h) low))

-- what does not change reads as before
same_reads : {s t : State} (n p : ℕ) → t ≡ s → reads t n p ≡ reads s n p
same_reads n p same = ap (λ (y : State). reads y n p) same

pub histories : Histories
histories = record {
  older_first = λ x y z fits also more. forced (λ _ empty room.
      snapped x y z fits also more room empty (λ _ a b c small.
      turn (small_destroy small 10 11 refl refl (search rules) refl refl refl refl (omega arith)) (λ _ small.
      last (λ _ small. small.owned) (small_destroy small 11 1 refl refl (search rules) refl refl refl refl (omega arith)))));
  younger_first = λ x y z fits also more. forced (λ _ empty room.
      snapped x y z fits also more room empty (λ _ a b c small.
      turn (small_destroy small 11 1 refl refl (search rules) refl refl refl refl (omega arith)) (λ _ small.
      last (λ _ small. small.owned) (small_destroy small 10 1 refl refl (search rules) refl refl refl refl (omega arith)))));
  written_clone = λ x y fits also. forced (λ _ empty room.
      begun x fits (omega arith) empty (λ _ _ small _.
      turn (small_snapshot small 1 10 refl refl (omega arith, omega arith) refl (omega arith) (omega arith)) (λ _ small.
      turn (small_clone small 10 2 refl refl (omega arith, omega arith) refl (omega arith)) (λ _ small.
      turn (small_rewrite small 2 refl refl refl 2 y also (omega arith) (few_sink small 2 refl refl refl 0) (omega arith) (omega arith)) (λ _ (_, small).
      turn (small_used small 1 2 refl refl refl) (λ _ small.
      last (λ _ small. small.owned) (small_used small 2 2 refl refl refl)))))));
  script = λ x y fits also. forced (λ _ empty room.
      begun x fits (omega arith) empty (λ s _ small stored.
      turn (and_so (Snapshot 1 10) (small_snapshot small 1 10 refl refl (omega arith, omega arith) refl (omega arith) (omega arith))
      (λ t step. (reads_last.snapped s t 1 10 _ small.sound step).0 0 ∙ stored)) (λ s (small, kept).
      turn (and_so (Write 1 0 y) (small_rewrite small 1 refl refl refl 2 y also (omega arith) (few_sink small 1 refl refl refl 0) (omega arith) (omega arith))
      (λ t step. (reads_last.written s t 1 0 y _ small.sound step).1 10 0 (λ (e, _). omega arith) (first small 10 refl refl) ∙ kept)) (λ s ((_, small), kept).
      turn (and_so (Clone 10 2) (small_clone small 10 2 refl refl (omega arith, omega arith) refl (omega arith))
      (λ t step. (reads_last.cloned s t 10 2 _ small.sound step).1 10 0 (λ e. omega arith) (first small 10 refl refl) ∙ kept)) (λ s (small, kept).
      turn (and_so (Unique 10) (small_shared small 10 refl 2 refl refl) (λ t step. same_reads 10 0 step.1 ∙ kept)) (λ s (small, kept).
      turn (and_so (Destroy 2) (small_leave small 2 refl refl refl (search rules)) (λ t step. reads_last.destroyed s t 2 _ small.sound step 10 0 (λ e. omega arith) (first small 10 refl refl) ∙ kept)) (λ s (small, kept).
      turn (and_so (Unique 10) (small_alone small 10 refl 1 (search rules) refl refl refl refl (omega arith)) (λ t step. same_reads 10 0 step.1.1 ∙ kept)) (λ s (small, kept).
      turn (λ a t step. (let (is, small) = small_read small 10 refl 0 (omega arith) a t step in (is ∙ ap (λ (o : Option (List ℕ)). Ok (Bytes o)) kept, small))) (λ s small.
      turn (small_destroy small 10 1 refl refl (search rules) refl refl refl refl (omega arith)) (λ s small.
      last (λ _ small. small.owned) (small_used small 1 2 refl refl refl)))))))))));
  size_two = λ x y fits also. forced (λ _ empty room.
      begun x fits (omega arith) empty (λ _ _ small _.
      last (λ _ small. small.owned) (small_short small 1 refl refl refl 0 y also (omega arith) (omega arith))));
  size_four = λ x y fits also. forced (λ _ empty room.
      begun x fits (omega arith) empty (λ _ _ small _.
      last (λ _ ((_, small), _). small.owned) (first_written small y also (omega arith) (omega arith))));
  one_discarded = λ x y fits also. forced (λ _ empty room.
      both_written x y fits also room empty (λ _ _ small first second.
      last (λ _ ((_, small), _). small.owned) (second_dropped small x y room.0 first second)));
  both_discarded = λ x y fits also. forced (λ _ empty room.
      both_written x y fits also room empty (λ _ _ small first second.
      turn (second_dropped small x y room.0 first second) (λ _ ((_, small), first).
      last (λ _ hole. hole) (first_dropped small x (omega arith) first))));
}
