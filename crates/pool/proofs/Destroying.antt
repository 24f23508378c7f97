-- From what destroying a head or a snapshot leaves to the step of the call.
--     own_row                      a dataset has the number of its row
--     has_clones, has_snapshots    the steps that are refused
--     head_step, snapshot_step     the steps that are granted
use Rattle.std.proofs.Common.{◌≡◌, ℕ, Bool, true, false, not, ◌&&◌, ◌⊎◌, Ok, Err, Option, ◌≢◌, sym, refl, ap, ap₂, ◌∙◌, subst, inl, inr, arith}
use Rattle.faults.specs.declared.Layer.TheVariants.{Pool}
use Rattle.faults.specs.declared.PoolCause.TheVariants.{HasClones, HasSnapshots}
use Rattle.blocks.proofs.Counts.{count_empty}
use Rattle.records.specs.declared.rows.Kind.{Kind}
use Rattle.records.specs.declared.rows.Kind.TheVariants.{Head, Snapshot}
use Rattle.records.specs.declared.rows.Row.{Row}
use Rattle.model.specs.Datasets.{State, Dataset}
use Rattle.model.specs.Families.{IsClone, OwnSnapshot}
use Rattle.model.specs.Limits.{IsDatasetNumber}
use Rattle.model.specs.Soundness.{Sound}
use Rattle.model.specs.Steps.{Destroyed, HeadDestroyed, OwnedAfter, SnapshotDestroyed, Step, given, taken}
use Rattle.model.specs.declared.Answer.TheVariants.{Done}
use Rattle.model.specs.declared.Call.TheVariants.{Destroy}
use Rattle.model.proofs.Figures.{own_snapshots}
use Rattle.model.proofs.Rows.{row_number}
use Rattle.pool.proofs.Trees.{one_row}

-- a dataset has the number of its row
pub own_row : (s : State) (n : ℕ) (r : Row) → Dataset s n r → Dataset s r.number r
own_row s n r found = subst (λ (m : ℕ). Dataset s m r) (sym (row_number s.rows n r found)) found

-- where all that is owned after was owned before, no block is taken
none_taken : (s t : State) (Given : ℕ → Type 0) → OwnedAfter s t (λ b. ⊥) Given → 0 ≡ taken s t
none_taken s t Given owned = sym (count_empty (λ b. t.owns b && not (s.owns b)) s.size (λ b _. old b (t.owns b) refl))
  where
    stays : (b : ℕ) → ⊥ ⊎ ((s.owns b ≡ true) × (Given b → ⊥)) → s.owns b ≡ true
    stays b (inl none) = absurd none
    stays b (inr (was, _)) = was

    old : (b : ℕ) (is : Bool) → t.owns b ≡ is → (is && not (s.owns b)) ≡ false
    old b false e = refl
    old b true e = ap not (stays b ((owned b).0 e))

module _ (s : State) (n : ℕ) (r : Row) (number : IsDatasetNumber n) (found : Dataset s n r) where
  pub has_clones : (m : ℕ) → IsClone s n m → Step s (Destroy n) (Err (Pool HasClones)) s
  has_clones m clone = (inr (number, inr ((r, found), inl ((λ none. none m clone), refl))), refl)

  pub has_snapshots : (o : Option ℕ) → Sound s → ((m : ℕ) → IsClone s n m → ⊥) → r.kind ≡ Head o → r.previous ≢ o → Step s (Destroy n) (Err (Pool HasSnapshots)) s
  has_snapshots o sound alone kind other =
      (inr (number, inr ((r, found), inr (alone, inl ((λ none. other ((own_snapshots s n r o sound found kind).1 none)), refl)))), refl)

  granted : (t : State) (k : ℕ) (kind : Kind) → ((m : ℕ) → IsClone s n m → ⊥) → ((m : ℕ) → OwnSnapshot s n m → ⊥) → r.kind ≡ kind → Destroyed s t n r kind → 0 ≡ taken s t → k ≡ given s t
      → Step s (Destroy n) (Ok (Done (record { taken = 0; given = k }))) t
  granted t k kind alone none is destroyed takes gives = (
    (number, ((r, found), (alone, (none, tt)))),
    (ap Done (ap₂ (λ (a b : ℕ). record { taken = a; given = b }) takes gives), (r, found, subst (Destroyed s t n r) (sym is) destroyed)),
  )

  pub head_step : (t : State) (k : ℕ) (o : Option ℕ) → Sound s → ((m : ℕ) → IsClone s n m → ⊥) → r.kind ≡ Head o → r.previous ≡ o → HeadDestroyed s t r.number × (k ≡ given s t)
      → Step s (Destroy n) (Ok (Done (record { taken = 0; given = k }))) t
  head_step t k o sound alone is first (destroyed, gives) =
      granted t k (Head o) alone ((own_snapshots s n r o sound found is).0 first) is (subst (HeadDestroyed s t) (row_number s.rows n r found) destroyed)
      (none_taken s t _ destroyed.owned) gives

  pub snapshot_step : (t : State) (k g : ℕ) → ((m : ℕ) → IsClone s n m → ⊥) → r.kind ≡ Snapshot g → SnapshotDestroyed s t r.number r × (k ≡ given s t)
      → Step s (Destroy n) (Ok (Done (record { taken = 0; given = k }))) t
  snapshot_step t k g alone is (destroyed, gives) =
      granted t k (Snapshot g) alone no_head is (subst (λ (m : ℕ). SnapshotDestroyed s t m r) (row_number s.rows n r found) destroyed)
      (none_taken s t _ destroyed.owned) gives
    where
      -- a snapshot has none of its own
      no_head : (m : ℕ) → OwnSnapshot s n m → ⊥
      no_head m (o, (x, there, kind), _) =
          let e : Head o ≡ Snapshot g = sym kind ∙ ap (λ (y : Row). y.kind) (one_row s n r x found there) ∙ is in
          let z : ◌≡◌ {A = ℕ} 0 1 = cc in
          omega arith
