-- The counts that the answers of a run tell add up to the blocks owned at its end.
use Rattle.std.proofs.Common.{◌≡◌, ℕ, ◌+◌, Bool, true, false, cond, not, ◌&&◌, Ok, Err, Result, refl, ap, ◌∙◌, inl, inr, arith}
use Rattle.faults.specs.declared.Layer.{Layer}
use Rattle.blocks.specs.Sets.{count}
use Rattle.records.specs.declared.rows.Kind.{Kind}
use Rattle.records.specs.declared.rows.Kind.TheVariants.{Head, Snapshot as OfSnapshot}
use Rattle.records.specs.declared.rows.Row.{Row}
use Rattle.model.specs.Datasets.{State}
use Rattle.model.specs.Life.{Run, start, call, told_change, all_taken, all_given}
use Rattle.model.specs.Steps.{Step, Destroyed, changed}
use Rattle.model.specs.declared.Answer.{Answer}
use Rattle.model.specs.declared.Answer.TheVariants.{Done}
use Rattle.model.specs.declared.Call.{Call}
use Rattle.model.specs.declared.Call.TheVariants.{Create, Write, Discard, Read, Snapshot, Clone, Destroy, Unique, Used, Bucket}
use Rattle.model.specs.declared.Changed.{Changed}
use Rattle.model.proofs.Counts.{count_balance}

-- a number is owned after a change or given by it, as often as it was owned before or is taken by it
balance : (was is : Bool) → cond is 1 0 + cond (was && not is) 1 0 ≡ cond was 1 0 + cond (is && not was) 1 0
balance true true = refl
balance true false = refl
balance false true = refl
balance false false = refl

-- the counts that the answer r of a step from s to t tells make up for the blocks owned before and after it
abbrev pub Told : State → Result Answer Layer → State → Type 0
Told s r t = count t.owns t.size + (told_change r).given ≡ count s.owns s.size + (told_change r).taken

module _ (s t : State) where
  -- a change tells how many blocks it takes and gives back
  change : (a : Answer) → a ≡ Done (changed s t) → t.size ≡ s.size → Told s (Ok a) t
  change a is size =
      omega (
        arith,
        ap (λ (x : Answer). (told_change (Ok x)).taken) is,
        ap (λ (x : Answer). (told_change (Ok x)).given) is,
        ap (count t.owns) size,
        count_balance t.owns (λ b. s.owns b && not (t.owns b)) s.owns (λ b. t.owns b && not (s.owns b)) s.size (λ b _. balance (s.owns b) (t.owns b)),
      )

  -- nothing changes, and no change is told
  no_change : (r q : Result Answer Layer) → r ≡ q → told_change q ≡ record { taken = 0; given = 0 } → t ≡ s → Told s r t
  no_change r q is none same =
      let c : told_change r ≡ record { taken = 0; given = 0 } = ap told_change is ∙ none in
      omega (arith, ap (λ (x : Changed). x.taken) c, ap (λ (x : Changed). x.given) c, ap (λ (x : State). count x.owns x.size) same)

  size_kept : t ≡ s → t.size ≡ s.size
  size_kept same = ap (λ (x : State). x.size) same

  destroyed_size : (n : ℕ) (r : Row) (k : Kind) → Destroyed s t n r k → t.size ≡ s.size
  destroyed_size n r (Head o) gone = ap (λ (x : State). x.size) gone.rest
  destroyed_size n r (OfSnapshot g) gone = ap (λ (x : State). x.size) gone.rest

  -- the counts that a step tells are those of the blocks that it takes and gives back
  pub told : (c : Call) (r : Result Answer Layer) → Step s c r t → Told s r t
  told c (Err l) (_, same) = no_change (Err l) (Err l) refl refl same
  told (Create n h) (Ok a) (_, (is, new)) = change a is (ap (λ (x : State). x.size) new)
  told (Write n p text) (Ok a) (_, (is, (r, _, replaced))) = change a is replaced.size
  told (Discard n p) (Ok a) (_, (is, (r, _, inl (_, same)))) = change a is (size_kept same)
  told (Discard n p) (Ok a) (_, (is, (r, _, inr (_, (k, _, replaced))))) = change a is replaced.size
  told (Read n p) (Ok a) (_, (is, same)) = no_change (Ok a) _ (ap (λ (x : Answer). Ok x) is) refl same
  told (Snapshot n m) (Ok a) (_, (is, (r, _, snapped))) = change a is (ap (λ (x : State). x.size) snapped.rest)
  told (Clone m n) (Ok a) (_, (is, (r, _, new))) = change a is (ap (λ (x : State). x.size) new)
  told (Destroy n) (Ok a) (_, (is, (r, _, gone))) = change a is (destroyed_size n r r.kind gone)
  told (Unique n) (Ok a) (_, ((k, is, _), same)) = no_change (Ok a) _ (ap (λ (x : Answer). Ok x) is) refl same
  told (Used n) (Ok a) (_, ((k, is, _), same)) = no_change (Ok a) _ (ap (λ (x : Answer). Ok x) is) refl same
  told (Bucket n k) (Ok a) (_, ((p, l, is, _), same)) = no_change (Ok a) _ (ap (λ (x : Answer). Ok x) is) refl same

-- all taken less all given counts are the owned blocks
pub counts : {s t : State} (run : Run s t) → count s.owns s.size ≡ 0 → all_taken run ≡ all_given run + count t.owns t.size
unfolding all_taken all_given
counts start none = omega arith
counts (call {t} {u} run c r step) none = omega (arith, counts run none, told t u c r step)
