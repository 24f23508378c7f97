-- What the snapshots and the heads at the end of a run read.
use Rattle.std.proofs.Common.{◌≡◌, ℕ, true, false, eqb, ◌&&◌, ◌⊎◌, List, Some, None, Ok, Err, Option, sym, refl, ap, ◌∙◌, subst, inl, inr}
use Rattle.std.proofs.lemmas.Bool.{both_ways, cond_both, eqb-true, eqb-false, eq-eqb, and_parts, and_from}
use Rattle.tree.specs.Paths.{filled}
use Rattle.model.specs.Datasets.{State, IsHead, IsSnapshot, Unused, Position, reads}
use Rattle.model.specs.Life.{Run, start, call, Taken, written_by, written}
use Rattle.model.specs.Soundness.{Sound}
use Rattle.model.specs.Steps.{Step}
use Rattle.model.specs.declared.Answer.{Answer}
use Rattle.model.specs.declared.Call.{Call}
use Rattle.model.specs.declared.Call.TheVariants.{Create, Write, Discard, Snapshot, Clone, Destroy}
use Rattle.model.proofs.Faces.{ComesOrGoes, comes_or_stays, head_or_snapshot, face_kept, snapshot_made, gone, only_destroyed, snapshot_comes, head_same, snapshot_same, position_same}
use Rattle.model.proofs.Handed.{sound_after}
use Rattle.model.proofs.Lasts.{reads_last}
use Rattle.model.proofs.Rows.{some_none, row_of}

-- the call writes or discards position p of head m
abbrev Writes : Call → ℕ → ℕ → Type 0
Writes (Write n i text) m p = (m ≡ n) × (p ≡ i)
Writes (Discard n i) m p = (m ≡ n) × (p ≡ i)
Writes c m p = ⊥

module _ (s t : State) (sound : Sound s) where
  -- only heads are written
  writes_head : (c : Call) (a : Answer) → Step s c (Ok a) t → (m p g : ℕ) → IsSnapshot s m g → Writes c m p → ⊥
  writes_head (Write n i text) a ((_, (_, ((o, head), _))), _) m p g snapshot (is, _) = head_or_snapshot s n g o head (subst (λ (j : ℕ). IsSnapshot s j g) is snapshot)
  writes_head (Discard n i) a ((_, (_, ((o, head), _))), _) m p g snapshot (is, _) = head_or_snapshot s n g o head (subst (λ (j : ℕ). IsSnapshot s j g) is snapshot)
  writes_head c a step m p g snapshot never = never

  -- all other positions read as before
  reads_kept : (c : Call) (a : Answer) → Step s c (Ok a) t → (m p : ℕ) → (ComesOrGoes c m → ⊥) → (Writes c m p → ⊥) → Position s m p → reads t m p ≡ reads s m p
  reads_kept (Create n h) a step m p stays unwritten position = (reads_last.created s t n h a sound step).1 m p position
  reads_kept (Write n i text) a step m p stays unwritten position = (reads_last.written s t n i text a sound step).1 m p unwritten position
  reads_kept (Discard n i) a step m p stays unwritten position = (reads_last.discarded s t n i a sound step).1 m p unwritten position
  reads_kept (Snapshot n k) a step m p stays unwritten position = (reads_last.snapped s t n k a sound step).1 m p stays position
  reads_kept (Clone k n) a step m p stays unwritten position = (reads_last.cloned s t k n a sound step).1 m p stays position
  reads_kept (Destroy n) a step m p stays unwritten position = reads_last.destroyed s t n a sound step m p stays position
  reads_kept c a (_, (_, same)) m p stays unwritten position = ap (λ (x : State). reads x m p) same

  -- a position of a head reads what the call writes there, or what was written there before
  head_reads : (c : Call) (a : Answer) → Step s c (Ok a) t → (before : ℕ → ℕ → Option (List ℕ)) (n p : ℕ) (o : Option ℕ) → IsHead t n o → Position t n p
      → (IsHead s n o → Position s n p → reads s n p ≡ before n p) → reads t n p ≡ written_by s c before n p
  head_reads c a step before n p o head position was = go c step
    where
      -- a position that is not written, of a head that was there
      old : (c : Call) → Step s c (Ok a) t → (ComesOrGoes c n → ⊥) → (Writes c n p → ⊥) → reads t n p ≡ before n p
      old c step stays unwritten =
          let same = face_kept s t sound c a step n stays in
          let there = position_same s t n same p position in
          reads_kept c a step n p stays unwritten there ∙ was (head_same s t n same o head) there

      -- a head that is made, and a position that is written
      made : (m : ℕ) → eqb n m ≡ true → reads t n p ≡ reads t m p
      made m is = ap (λ (k : ℕ). reads t k p) (eqb-true n m is)

      placed : (m i : ℕ) → (eqb n m && eqb p i) ≡ true → reads t n p ≡ reads t m i
      placed m i is = let (same, place) = and_parts (eqb n m) (eqb p i) is in made m same ∙ ap (reads t m) (eqb-true p i place)

      beside : (m i : ℕ) → (eqb n m && eqb p i) ≡ false → (n ≡ m) × (p ≡ i) → ⊥
      beside m i other (e, f) = both_ways (eqb n m && eqb p i) other (and_from (eqb n m) (eqb p i) (eq-eqb n m e) (eq-eqb p i f))

      go : (c : Call) → Step s c (Ok a) t → reads t n p ≡ written_by s c before n p
      go (Create m h) step =
          cond_both (eqb n m) None (before n p) (λ x. reads t n p ≡ x) (λ is. made m is ∙ (reads_last.created s t m h a sound step).0 p)
          (λ other. old (Create m h) step (eqb-false n m other) (λ never. never))
      go (Write m i text) step =
          cond_both (eqb n m && eqb p i) (Some (filled text.now)) (before n p) (λ x. reads t n p ≡ x) (λ is. placed m i is ∙ (reads_last.written s t m i text a sound step).0)
          (λ other. old (Write m i text) step (λ never. never) (beside m i other))
      go (Discard m i) step =
          cond_both (eqb n m && eqb p i) None (before n p) (λ x. reads t n p ≡ x) (λ is. placed m i is ∙ (reads_last.discarded s t m i a sound step).0)
          (λ other. old (Discard m i) step (λ never. never) (beside m i other))
      go (Snapshot m k) step =
          old (Snapshot m k) step (λ e. head_or_snapshot t k s.group o (subst (λ (j : ℕ). IsHead t j o) e head) (snapshot_made s t sound m k a step)) (λ never. never)
      go (Clone m k) step =
          cond_both (eqb n k) (reads s m p) (before n p) (λ x. reads t n p ≡ x) (λ is. made k is ∙ (reads_last.cloned s t m k a sound step).0 p)
          (λ other. old (Clone m k) step (eqb-false n k other) (λ never. never))
      go (Destroy m) step = old (Destroy m) step (λ e. some_none _ head.0 head.1 (ap (row_of t.rows) e ∙ gone s t sound m a step)) (λ never. never)
      go c step = old c step (λ never. never) (λ never. never)

  -- a snapshot stays until it is destroyed
  snapshot_stays : (c : Call) (a : Answer) → Step s c (Ok a) t → (m g : ℕ) → IsSnapshot s m g → (c ≡ Destroy m → ⊥) → ComesOrGoes c m → ⊥
  snapshot_stays c a step m g (x, here, _) kept is = kept (only_destroyed s t sound c a step m x here is)

-- what was taken and not destroyed since is a snapshot
pub taken_there : {s t : State} (run : Run s t) → Sound s → (m n : ℕ) (past : State) → Taken run m n past → (g : ℕ) × IsSnapshot t m g
unfolding Taken
taken_there start sound m n past never = absurd never
taken_there (call {t} {u} run c (Err l) (_, e)) sound m n past taken = subst (λ (x : State). (g : ℕ) × IsSnapshot x m g) (sym e) (taken_there run sound m n past taken)
taken_there (call {t} {u} run c (Ok a) step) sound m n past (inl (is, _)) =
    (t.group, snapshot_made t u (sound_after run sound) n m a (subst (λ (x : Call). Step t x (Ok a) u) is step))
taken_there (call {t} {u} run c (Ok a) step) sound m n past (inr (taken, kept)) =
    let (g, snapshot) = taken_there run sound m n past taken in
    let before = sound_after run sound in
    (g, snapshot_same u t m (sym (face_kept t u before c a step m (snapshot_stays t u before c a step m g snapshot kept))) g snapshot)

-- a snapshot was taken and not destroyed since
pub there_taken : {s t : State} (run : Run s t) → Sound s → ((m : ℕ) → Unused s m) → (m g : ℕ) → IsSnapshot t m g → (n : ℕ) × (past : State) × Taken run m n past
unfolding Taken
there_taken start sound none m g (x, here, _) = absurd (some_none _ x here (none m))
there_taken (call {t} {u} run c (Err l) (_, e)) sound none m g now = there_taken run sound none m g (subst (λ (x : State). IsSnapshot x m g) e now)
there_taken (call {t} {u} run c (Ok a) step) sound none m g now = go (there_taken run sound none m g) (comes_or_stays c m)
  where
    go : (IsSnapshot t m g → (n : ℕ) × (past : State) × Taken run m n past) → ComesOrGoes c m ⊎ (ComesOrGoes c m → ⊥)
        → (n : ℕ) × (past : State) × (((c ≡ Snapshot n m) × (past ≡ t)) ⊎ (Taken run m n past × (c ≡ Destroy m → ⊥)))
    go before (inl comes) = let (n, is) = snapshot_comes t u (sound_after run sound) c a step m g now comes in (n, t, inl (is, refl))
    go before (inr stays) =
        let (n, past, taken) = before (snapshot_same t u m (face_kept t u (sound_after run sound) c a step m stays) g now) in
        (n, past, inr (taken, λ is. stays (subst (λ (x : Call). ComesOrGoes x m) (sym is) refl)))

-- a snapshot reads as its head read when it was taken
pub taken_reads : {s t : State} (run : Run s t) → Sound s → (m n : ℕ) (past : State) → Taken run m n past → (p : ℕ) → Position t m p → reads t m p ≡ reads past n p
unfolding Taken
taken_reads start sound m n past never p position = absurd never
taken_reads (call {t} {u} run c (Err l) (_, e)) sound m n past taken p position =
    ap (λ (x : State). reads x m p) e ∙ taken_reads run sound m n past taken p (subst (λ (x : State). Position x m p) e position)
taken_reads (call {t} {u} run c (Ok a) step) sound m n past (inl (is, then)) p position =
    (reads_last.snapped t u n m a (sound_after run sound) (subst (λ (x : Call). Step t x (Ok a) u) is step)).0 p ∙ ap (λ (x : State). reads x n p) (sym then)
taken_reads (call {t} {u} run c (Ok a) step) sound m n past (inr (taken, kept)) p position =
    let (g, snapshot) = taken_there run sound m n past taken in
    let before = sound_after run sound in
    let stays = snapshot_stays t u before c a step m g snapshot kept in
    let there = position_same t u m (face_kept t u before c a step m stays) p position in
    reads_kept t u before c a step m p stays (writes_head t u before c a step m p g snapshot) there ∙ taken_reads run sound m n past taken p there

-- a head reads what was last written
pub written_reads : {s t : State} (run : Run s t) → Sound s → ((m : ℕ) → Unused s m) → (n p : ℕ) (o : Option ℕ) → IsHead t n o → Position t n p → reads t n p ≡ written run n p
unfolding written
written_reads start sound none n p o (x, here, _) position = absurd (some_none _ x here (none n))
written_reads (call {t} {u} run c (Err l) (_, e)) sound none n p o head position =
    ap (λ (x : State). reads x n p) e
    ∙ written_reads run sound none n p o (subst (λ (x : State). IsHead x n o) e head) (subst (λ (x : State). Position x n p) e position)
written_reads (call {t} {u} run c (Ok a) step) sound none n p o head position =
    head_reads t u (sound_after run sound) c a step (written run) n p o head position (written_reads run sound none n p o)
