-- Replacing a path changes the tree on that path alone.
use Rattle.std.proofs.Common.{◌≡◌, ℕ, zero, suc, ◌+◌, ◌*◌, ◌/◌, ◌%◌, ◌^◌, ◌<◌, ◌≤◌, Bool, cond, eqb, ltb, ◌⊎◌, List, length, Some, None, Option, sym, ap, ◌∙◌, subst, ap₂, inl, inr, ⊎_elim, arith}
use Rattle.std.proofs.lemmas.Bool.{cond-true, cond-false, cases_eq, cases_lt, eq-eqb, ne_eqb, lt-ltb, le-ltb, cond_both, ltb-true, eqb-false}
use Rattle.records.specs.declared.rows.Pointer.{Pointer}
use Rattle.tree.specs.Trees.{block_size, fan, block, pointer_in, child, at, index_at, digit, on_path, Reaches}
use Rattle.tree.specs.Paths.{OnlyChild, Fresh, Rewritten, new_at, led}
use Rattle.tree.specs.Laws.{Reroute}
use Rattle.tree.proofs.Places.{up_wide, index_up, index_wide, index_root, hole_child, some_child, reached}
use Rattle.tree.proofs.Pointers.{Writable, pointer_with, led_child, length_led}
use Rattle.tree.proofs.Frames.{place_same}

-- the new levels have the new pointers
pub new_some : (f : ℕ → ℕ) (g k d : ℕ) → d < k → new_at f g k d ≡ Some (record { block = f d; birth = g })
new_some f g k d new = cond-true (ltb d k) _ None (lt-ltb d k new)

-- holes stand below the new levels
pub new_none : (f : ℕ → ℕ) (g k d : ℕ) → k ≤ d → new_at f g k d ≡ None
new_none f g k d below = cond-false (ltb d k) (Some (record { block = f d; birth = g })) None (le-ltb d k below)

-- a path whose pointers are replaced, in a memory that keeps the blocks of the old tree
module _ (mem mem' : List ℕ) (root : Option Pointer) (h p : ℕ) (put : ℕ → Option Pointer) (inside : p < fan ^ h)
    (same : (b : ℕ) → Reaches mem root h b → block mem' b ≡ block mem b)
    (replaced : (d : ℕ) → d < h → (j : ℕ) → j < fan
    → child mem' (put d) j ≡ cond (eqb j (digit h p d)) (put (suc d)) (child mem (on_path mem root h p d) j)) where
  -- one level down, on the path
  down_on : (d i : ℕ) → d < h → i / fan ≡ index_at h p d
      → child mem' (put d) (i % fan) ≡ cond (eqb i (index_at h p (suc d))) (put (suc d)) (at mem root (suc d) i)
  unfolding at
  down_on d i deep e =
      replaced d deep (i % fan) (omega arith)
      ∙ ap₂ (λ (b : Bool) (o : Option Pointer). cond b (put (suc d)) o) (go (cases_eq i (index_at h p (suc d))))
      (ap (λ (j : ℕ). child mem (at mem root d j) (i % fan)) (sym e))
    where
      go : (i ≡ index_at h p (suc d)) ⊎ (i ≡ index_at h p (suc d) → ⊥) → eqb (i % fan) (digit h p d) ≡ eqb i (index_at h p (suc d))
      go (inl q) = eq-eqb _ _ (ap (λ (n : ℕ). n % fan) q) ∙ sym (eq-eqb _ _ q)
      go (inr n) = ne_eqb _ _ (λ q. n (omega (arith, q, e, index_up h p d deep))) ∙ sym (ne_eqb _ _ n)

  -- one level down, off the path
  down_off : (d i : ℕ) → d < h → i < fan ^ suc d → (i / fan ≡ index_at h p d → ⊥)
      → child mem' (at mem root d (i / fan)) (i % fan) ≡ cond (eqb i (index_at h p (suc d))) (put (suc d)) (at mem root (suc d) i)
  unfolding at
  down_off d i deep wide n =
      place_same mem mem' root h same d (i / fan) (i % fan) (omega arith) (up_wide d i wide)
      ∙ sym (cond-false (eqb i (index_at h p (suc d))) (put (suc d)) (at mem root (suc d) i) (ne_eqb _ _ (λ e. n (ap (λ (j : ℕ). j / fan) e ∙ index_up h p d deep))))

  -- the new pointers on the path, the old ones elsewhere
  pub override : (d i : ℕ) → d ≤ h → i < fan ^ d → at mem' (put 0) d i ≡ cond (eqb i (index_at h p d)) (put d) (at mem root d i)
  unfolding at
  override zero i deep wide =
      sym (cond-true (eqb i (index_at h p 0)) (put 0) root (eq-eqb i (index_at h p 0) (omega (arith, index_root h p inside))))
  override (suc d) i deep wide =
      ap (λ (o : Option Pointer). child mem' o (i % fan)) (override d (i / fan) (omega arith) (up_wide d i wide)) ∙ go (cases_eq (i / fan) (index_at h p d))
    where
      go : (i / fan ≡ index_at h p d) ⊎ (i / fan ≡ index_at h p d → ⊥)
          → child mem' (cond (eqb (i / fan) (index_at h p d)) (put d) (at mem root d (i / fan))) (i % fan)
          ≡ cond (eqb i (index_at h p (suc d))) (put (suc d)) (at mem root (suc d) i)
      go (inl e) = ap (λ (o : Option Pointer). child mem' o (i % fan)) (cond-true (eqb (i / fan) (index_at h p d)) (put d) (at mem root d (i / fan)) (eq-eqb _ _ e)) ∙ down_on d i (omega arith) e
      go (inr n) = ap (λ (o : Option Pointer). child mem' o (i % fan)) (cond-false (eqb (i / fan) (index_at h p d)) (put d) (at mem root d (i / fan)) (ne_eqb _ _ n)) ∙ down_off d i (omega arith) wide n

-- a path of which k levels are new, by the bytes of their blocks
module _ (mem mem' : List ℕ) (root : Option Pointer) (h p : ℕ) (f : ℕ → ℕ) (g k : ℕ) (bytes : List ℕ) (inside : p < fan ^ h)
    (held : (b : ℕ) → Reaches mem root h b → block_size * b + block_size ≤ length mem)
    (fresh : Fresh mem root h f g k)
    (only : (d : ℕ) → k ≤ d → d < h → OnlyChild mem (on_path mem root h p d) (digit h p d))
    (written : Rewritten mem mem' root h p f g k bytes) where
  -- the new pointers of the path
  abbrev put : ℕ → Option Pointer
  put = new_at f g k

  -- the old pointers of the path
  abbrev old : ℕ → Option Pointer
  old = on_path mem root h p

  -- the blocks that the old tree reaches are unchanged
  pub kept : (b : ℕ) → Reaches mem root h b → block mem' b ≡ block mem b
  kept b r = written.others b (λ d new e. fresh.new d new (subst (λ (x : ℕ). Reaches mem root h x) (sym e) r))

  -- the new pointers can be written
  writable : (d : ℕ) → Writable (put d)
  writable d = cond_both (ltb d k) (Some (record { block = f d; birth = g })) None Writable
      (λ e. (fresh.small d (ltb-true d k e), fresh.group.0, fresh.group.1)) (λ e. tt)

  -- a new block leads to the next one, and else to what the old path led to
  renewed : (d : ℕ) → d < k → d < h → (j : ℕ) → j < fan → child mem' (put d) j ≡ cond (eqb j (digit h p d)) (put (suc d)) (child mem (old d) j)
  renewed d new deep j small =
      ap (λ (o : Option Pointer). child mem' o j) (new_some f g k d new)
      ∙ some_child mem' (record { block = f d; birth = g }) j
      ∙ ap (λ (l : List ℕ). pointer_in l j) (written.indirect d new deep)
      ∙ pointer_with (led mem (old d)) (digit h p d) (put (suc d)) j whole (omega arith) small (writable (suc d))
      ∙ ap (λ (o : Option Pointer). cond (eqb j (digit h p d)) (put (suc d)) o) (led_child mem (old d) j small)
    where
      whole : length (led mem (old d)) ≡ block_size
      whole = length_led mem (old d) (λ q e. held q.block (reached mem root h d (index_at h p d) q (omega arith) (index_wide h p d inside (omega arith)) e))

  -- below the new levels all are holes
  ended : (d : ℕ) → k ≤ d → d < h → (j : ℕ) → j < fan → child mem' (put d) j ≡ cond (eqb j (digit h p d)) (put (suc d)) (child mem (old d) j)
  ended d below deep j small =
      ap (λ (o : Option Pointer). child mem' o j) (new_none f g k d below) ∙ hole_child mem' j
      ∙ sym (cond_both (eqb j (digit h p d)) (put (suc d)) (child mem (old d) j) (λ (o : Option Pointer). o ≡ None)
      (λ e. new_none f g k (suc d) (omega arith))
      (λ e. only d below deep j small (eqb-false j (digit h p d) e)))

  -- each new pointer leads on to the next one, and else to what the old path led to
  pub replaced : (d : ℕ) → d < h → (j : ℕ) → j < fan → child mem' (put d) j ≡ cond (eqb j (digit h p d)) (put (suc d)) (child mem (old d) j)
  replaced d deep j small = ⊎_elim (λ (new : d < k). renewed d new deep j small) (λ (below : k ≤ d). ended d below deep j small) (cases_lt d k)

-- a replaced path changes the tree on that path alone
pub reroute : Reroute
reroute mem mem' root h p f g k bytes inside short held fresh only written =
    override mem mem' root h p (new_at f g k) inside
    (kept mem mem' root h p f g k bytes inside held fresh only written)
    (replaced mem mem' root h p f g k bytes inside held fresh only written)
