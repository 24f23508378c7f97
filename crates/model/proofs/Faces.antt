-- The kind and the height of a dataset, which a granted call keeps of all datasets but the one that it makes or destroys.
--     face s m           the kind and the height of dataset m, or nothing where there is none
--     ComesOrGoes c m    the call c makes or destroys dataset m
--     face_kept          a call keeps the face of every other dataset
use Rattle.std.proofs.Common.{◌≡◌, ℕ, ◌<◌, ◌^◌, ltb, ◌⊎◌, List, [], Some, None, Ok, Option, sym, refl, ap, ◌∙◌, subst, inl, inr}
use Rattle.std.specs.Option.{option_map}
use Rattle.std.proofs.lemmas.Bool.{cases_eq}
use Rattle.ordered.specs.Tables.{replaced, without_key}
use Rattle.records.specs.Keys.{number_of}
use Rattle.records.specs.declared.rows.Kind.{Kind}
use Rattle.records.specs.declared.rows.Kind.TheVariants.{Head, Snapshot as OfSnapshot}
use Rattle.records.specs.declared.rows.Row.{Row}
use Rattle.tree.specs.Trees.{fan}
use Rattle.model.specs.Datasets.{State, Dataset, IsHead, IsSnapshot, Unused, Position, head_row}
use Rattle.model.specs.Soundness.{Sound}
use Rattle.model.specs.Steps.{Replaced, Snapped, Destroyed, Step, with_previous, snapshot_row, clone_row}
use Rattle.model.specs.declared.Answer.{Answer}
use Rattle.model.specs.declared.Call.{Call}
use Rattle.model.specs.declared.Call.TheVariants.{Create, Write, Discard, Snapshot, Clone, Destroy}
use Rattle.model.proofs.Ancestors.{not_both, previous_other}
use Rattle.model.proofs.Places.{one_row}
use Rattle.model.proofs.Rows.{some_none, row_of, row_number, replaced_here, replaced_other, added_here, added_other, removed_here, removed_other}
use Rattle.model.proofs.SameTrees.{mapped}
use Rattle.model.proofs.Skipping.{row_gone}
use Rattle.model.proofs.SnapshotRows.{copy_here}

abbrev pub face_of : Row → Kind × ℕ
face_of r = (r.kind, r.height)

abbrev pub faces : List Row → ℕ → Option (Kind × ℕ)
faces xs m = option_map face_of (row_of xs m)

-- the kind and the height of dataset m, or nothing where there is none
abbrev pub face : State → ℕ → Option (Kind × ℕ)
face s m = faces s.rows m

-- the call makes or destroys dataset m
abbrev pub ComesOrGoes : Call → ℕ → Type 0
ComesOrGoes (Create n h) m = m ≡ n
ComesOrGoes (Snapshot n k) m = m ≡ k
ComesOrGoes (Clone k n) m = m ≡ n
ComesOrGoes (Destroy n) m = m ≡ n
ComesOrGoes c m = ⊥

pub comes_or_stays : (c : Call) (m : ℕ) → ComesOrGoes c m ⊎ (ComesOrGoes c m → ⊥)
comes_or_stays (Create n h) m = cases_eq m n
comes_or_stays (Snapshot n k) m = cases_eq m k
comes_or_stays (Clone k n) m = cases_eq m n
comes_or_stays (Destroy n) m = cases_eq m n
comes_or_stays c m = inr (λ never. never)

-- a head is no snapshot
pub head_or_snapshot : (s : State) (n g : ℕ) (o : Option ℕ) → IsHead s n o → IsSnapshot s n g → ⊥
head_or_snapshot s n g o (x, here, head) (y, there, snapshot) =
    not_both x.kind o g head (ap (λ (r : Row). r.kind) (one_row s n x y here there) ∙ snapshot)

-- a row exchanged for one with the same kind and height
faces_replaced : (xs : List Row) (x y : Row) (n m : ℕ) → row_of xs n ≡ Some y → x.number ≡ n → face_of x ≡ face_of y
    → faces (replaced number_of ltb xs x) m ≡ faces xs m
faces_replaced xs x y n m found number same = go (cases_eq m n)
  where
    go : (m ≡ n) ⊎ (m ≡ n → ⊥) → faces (replaced number_of ltb xs x) m ≡ faces xs m
    go (inl e) =
        let here : row_of xs m ≡ Some y = ap (row_of xs) e ∙ found in
        ap (option_map face_of) (replaced_here xs x y m (number ∙ sym e) here) ∙ ap (λ (f : Kind × ℕ). Some f) same ∙ sym (ap (option_map face_of) here)
    go (inr other) = ap (option_map face_of) (replaced_other xs x m (λ e. other (e ∙ number)))

module _ (s t : State) (sound : Sound s) where
  -- a replaced path
  path_face : (n m p k : ℕ) (r : Row) (bytes : List ℕ) → Dataset s n r → Replaced s t n r p k bytes → face t m ≡ face s m
  path_face n m p k r bytes here replaced = ap (λ (xs : List Row). faces xs m) replaced.rows ∙ faces_replaced s.rows _ r n m here (row_number s.rows n r here) refl

  -- a snapshot that is taken
  snapshot_face : (n k m : ℕ) (r : Row) → Dataset s n r → Unused s k → Snapped s t n k r → (m ≡ k → ⊥) → face t m ≡ face s m
  snapshot_face n k m r here unused snapped other =
      ap (λ (x : State). face x m) snapped.rest
      ∙ ap (option_map face_of) (added_other (replaced number_of ltb s.rows live) (snapshot_row k r s.group) m still other)
      ∙ faces_replaced s.rows live r n m here number refl
    where
      live : Row
      live = with_previous r (Some k) 0

      number : r.number ≡ n
      number = row_number s.rows n r here

      still : row_of (replaced number_of ltb s.rows live) k ≡ None
      still = replaced_other s.rows live k (λ e. some_none _ r (ap (row_of s.rows) (e ∙ number) ∙ here) unused) ∙ unused

  -- a dataset that is destroyed
  destroyed_face : (n m : ℕ) (r : Row) (k : Kind) → Destroyed s t n r k → (m ≡ n → ⊥) → face t m ≡ face s m
  destroyed_face n m r (Head o) gone other = ap (λ (x : State). face x m) gone.rest ∙ ap (option_map face_of) (removed_other s.rows n m sound.shape.ordered other)
  destroyed_face n m r (OfSnapshot g) gone other =
      ap (λ (x : State). face x m) gone.rest
      ∙ faces_replaced (without_key number_of ltb s.rows n) _ gone.row gone.next m still (row_number s.rows gone.next gone.row gone.found) refl
      ∙ ap (option_map face_of) (removed_other s.rows n m sound.shape.ordered other)
    where
      apart : gone.next ≡ n → ⊥
      apart e = previous_other s sound gone.next n gone.is_next.3 (sym e)

      still : row_of (without_key number_of ltb s.rows n) gone.next ≡ Some gone.row
      still = removed_other s.rows n gone.next sound.shape.ordered apart ∙ gone.found

  -- a call keeps the faces of the datasets that it neither makes nor destroys
  pub face_kept : (c : Call) (a : Answer) → Step s c (Ok a) t → (m : ℕ) → (ComesOrGoes c m → ⊥) → face t m ≡ face s m
  face_kept (Create n h) a ((_, (unused, _)), (_, new)) m other =
      ap (λ (x : State). face x m) new ∙ ap (option_map face_of) (added_other s.rows (head_row n h) m unused other)
  face_kept (Write n p text) a (_, (_, (r, here, replaced))) m other = path_face n m p _ r _ here replaced
  face_kept (Discard n p) a (_, (_, (r, here, inl (_, same)))) m other = ap (λ (x : State). face x m) same
  face_kept (Discard n p) a (_, (_, (r, here, inr (_, (k, _, replaced))))) m other = path_face n m p k r [] here replaced
  face_kept (Snapshot n k) a ((_, (_, (_, (_, (unused, _))))), (_, (r, here, snapped))) m other = snapshot_face n k m r here unused snapped other
  face_kept (Clone k n) a ((_, (_, (_, (_, (unused, _))))), (_, (r, here, new))) m other =
      ap (λ (x : State). face x m) new ∙ ap (option_map face_of) (added_other s.rows (clone_row n r) m unused other)
  face_kept (Destroy n) a (_, (_, (r, here, gone))) m other = destroyed_face n m r r.kind gone other
  face_kept c a (_, (_, same)) m other = ap (λ (x : State). face x m) same

  -- what a call makes is a head or a snapshot, and what it destroys is no more
  head_made : (n h : ℕ) (a : Answer) → Step s (Create n h) (Ok a) t → IsHead t n None
  head_made n h a ((_, (unused, _)), (_, e)) = subst (λ (x : State). IsHead x n None) (sym e) (head_row n h, added_here s.rows (head_row n h) n refl unused, refl)

  clone_made : (m n : ℕ) (a : Answer) → Step s (Clone m n) (Ok a) t → (o : Option ℕ) × IsHead t n o
  clone_made m n a ((_, (_, (_, (_, (unused, _))))), (_, (r, here, e))) =
      (Some r.number, subst (λ (x : State). IsHead x n (Some r.number)) (sym e) (clone_row n r, added_here s.rows (clone_row n r) n refl unused, refl))

  pub snapshot_made : (n m : ℕ) (a : Answer) → Step s (Snapshot n m) (Ok a) t → IsSnapshot t m s.group
  snapshot_made n m a (asked, (_, (r, here, snapped))) =
      subst (λ (x : State). IsSnapshot x m s.group) (sym snapped.rest) (snapshot_row m r s.group, copy_here s n m r t.dead sound here asked, refl)

  pub gone : (n : ℕ) (a : Answer) → Step s (Destroy n) (Ok a) t → Unused t n
  gone n a (asked, (_, (r, here, destroyed))) = by r.kind destroyed
    where
      by : (k : Kind) → Destroyed s t n r k → Unused t n
      by (Head o) destroyed = ap (λ (x : State). row_of x.rows n) destroyed.rest ∙ removed_here s.rows n sound.shape.ordered
      by (OfSnapshot g) destroyed = row_gone s t n r sound here asked.1.1.0 destroyed

  -- of the datasets that were there, a call destroys only the one that it names
  pub only_destroyed : (c : Call) (a : Answer) → Step s c (Ok a) t → (m : ℕ) (x : Row) → Dataset s m x → ComesOrGoes c m → c ≡ Destroy m
  only_destroyed (Create n h) a ((_, (unused, _)), _) m x here is = absurd (some_none _ x here (ap (row_of s.rows) is ∙ unused))
  only_destroyed (Snapshot n k) a ((_, (_, (_, (_, (unused, _))))), _) m x here is = absurd (some_none _ x here (ap (row_of s.rows) is ∙ unused))
  only_destroyed (Clone k n) a ((_, (_, (_, (_, (unused, _))))), _) m x here is = absurd (some_none _ x here (ap (row_of s.rows) is ∙ unused))
  only_destroyed (Destroy n) a step m x here is = ap (λ (k : ℕ). Destroy k) (sym is)
  only_destroyed c a step m x here is = absurd is

  -- a snapshot that comes is taken by the call
  pub snapshot_comes : (c : Call) (a : Answer) → Step s c (Ok a) t → (m g : ℕ) → IsSnapshot t m g → ComesOrGoes c m → (n : ℕ) × (c ≡ Snapshot n m)
  snapshot_comes (Create n h) a step m g now is = absurd (head_or_snapshot t n g None (head_made n h a step) (subst (λ (k : ℕ). IsSnapshot t k g) is now))
  snapshot_comes (Snapshot n k) a step m g now is = (n, ap (λ (j : ℕ). Snapshot n j) (sym is))
  snapshot_comes (Clone k n) a step m g now is =
      let (o, head) = clone_made k n a step in absurd (head_or_snapshot t n g o head (subst (λ (j : ℕ). IsSnapshot t j g) is now))
  snapshot_comes (Destroy n) a step m g (x, there, _) is = absurd (some_none _ x there (ap (row_of t.rows) is ∙ gone n a step))
  snapshot_comes c a step m g now is = absurd is

-- datasets with one face are of one kind and have the same positions
module _ (s t : State) (m : ℕ) (same : face t m ≡ face s m) where
  row_same : (x : Row) → Dataset t m x → (y : Row) × Dataset s m y × (face_of y ≡ face_of x)
  row_same x there = mapped face_of (row_of s.rows m) (face_of x) (sym same ∙ ap (option_map face_of) there)

  pub head_same : (o : Option ℕ) → IsHead t m o → IsHead s m o
  head_same o (x, there, kind) = let (y, here, is) = row_same x there in (y, here, ap (λ (f : Kind × ℕ). f.0) is ∙ kind)

  pub snapshot_same : (g : ℕ) → IsSnapshot t m g → IsSnapshot s m g
  snapshot_same g (x, there, kind) = let (y, here, is) = row_same x there in (y, here, ap (λ (f : Kind × ℕ). f.0) is ∙ kind)

  pub position_same : (p : ℕ) → Position t m p → Position s m p
  position_same p (x, there, low) =
      let (y, here, is) = row_same x there in (y, here, subst (λ (h : ℕ). p < fan ^ h) (sym (ap (λ (f : Kind × ℕ). f.1) is)) low)
