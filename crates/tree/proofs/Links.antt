-- The blocks of a new path, one after the other.
use Rattle.std.proofs.Common.{get_or, take, get_or-take, length-take, ◌≡◌, ℕ, suc, ◌+◌, ◌<◌, ◌≤◌, ◌⊎◌, List, length, Some, None, Option, sym, refl, ap, ◌∙◌, subst, ap₂, inl, inr, add-one, arith}
use Rattle.std.proofs.lemmas.Bool.{cases_lt}
use Rattle.std.proofs.lemmas.List.{get_or_default}
use Rattle.records.specs.declared.rows.Pointer.{Pointer}
use Rattle.tree.specs.Trees.{block, index_at, digit, on_path, Reaches, Outside, Lost}
use Rattle.tree.specs.Paths.{led, with_pointer, new_at, Fresh, Short, Rewritten}
use Rattle.tree.specs.Steps.{LeadsOut, Put, Linked}
use Rattle.tree.specs.declared.paths.FreshPath.{FreshPath}
use Rattle.tree.specs.Calls.{taken, Spares}
use Rattle.tree.proofs.Walks.{reached_any, out_lost}

led_same : (mem mem' : List ℕ) (q : Option Pointer) → ((p : Pointer) → q ≡ Some p → block mem' p.block ≡ block mem p.block) → led mem' q ≡ led mem q
led_same mem mem' None same = refl
led_same mem mem' (Some p) same = same p refl

module _ (mem : List ℕ) (root : Option Pointer) (h p : ℕ) (f : ℕ → ℕ) (g k : ℕ) (fresh : Fresh mem root h f g k) where
  -- what the old path leads to is not changed
  kept : (mem' : List ℕ) (d : ℕ) → d < k → d < h → Linked mem mem' root h p f g k d → led mem' (on_path mem root h p d) ≡ led mem (on_path mem root h p d)
  kept mem' d low deep l =
      led_same mem mem' (on_path mem root h p d) (λ q e. l.others q.block
      (λ a b z. fresh.new a (omega arith) (subst (Reaches mem root h) (sym z) (reached_any mem root h d (index_at h p d) q (omega arith) e))))

  pub linked_more : (mem' mem'' : List ℕ) (d j n : ℕ) (old below : Option Pointer) → d < k → d < h → Linked mem mem' root h p f g k d
      → old ≡ on_path mem root h p d → j ≡ digit h p d → below ≡ new_at f g k (d + 1) → n ≡ f d
      → Put mem' mem'' n (with_pointer (led mem' old) j below)
      → Linked mem mem'' root h p f g k (d + 1)
  linked_more mem' mem'' d j n old below low deep l eo ej eb en put' = record {
    len = put.len ∙ l.len;
    indirect = λ e el. step e el (cases_lt e d);
    others = λ b ne. put.off b (λ z. ne d (omega arith) (sym z)) ∙ l.others b (λ e el. ne e (omega arith));
  }
    where
      put : Put mem' mem'' (f d) (with_pointer (led mem' old) j below)
      put = subst (λ (m : ℕ). Put mem' mem'' m (with_pointer (led mem' old) j below)) en put'

      here : block mem'' (f d) ≡ with_pointer (led mem (on_path mem root h p d)) (digit h p d) (new_at f g k (suc d))
      here = put.here
          ∙ ap₂ (λ (x : List ℕ) (i : ℕ). with_pointer x i below) (ap (led mem') eo ∙ kept mem' d low deep l) ej
          ∙ ap (with_pointer (led mem (on_path mem root h p d)) (digit h p d)) (eb ∙ ap (new_at f g k) (add-one d))

      step : (e : ℕ) → e < d + 1 → (e < d) ⊎ (d ≤ e)
          → block mem'' (f e) ≡ with_pointer (led mem (on_path mem root h p e)) (digit h p e) (new_at f g k (suc e))
      step e el (inl ed) = put.off (f e) (fresh.apart e d ed low) ∙ l.indirect e ed
      step e el (inr de) =
          let z : d ≡ e = omega arith in
          subst (λ (m : ℕ). block mem'' (f m) ≡ with_pointer (led mem (on_path mem root h p m)) (digit h p m) (new_at f g k (suc m))) z here

  -- a refusal on the way
  pub linked_lost : (mem' : List ℕ) (d n : ℕ) (old : Option Pointer) → d < k → d < h → Linked mem mem' root h p f g k d → old ≡ on_path mem root h p d → n ≡ f d
      → LeadsOut mem' old ⊎ Outside mem' n → Lost mem root h ⊎ Short mem f k
  linked_lost mem' d n old low deep l eo en (inl a) =
      inl (out_lost mem root h d (index_at h p d) old (omega arith) eo (a.0, a.1, omega (arith, l.len, a.2)))
  linked_lost mem' d n old low deep l eo en (inr o) = inr (d, low, omega (arith, l.len, o, en))

  -- all indirect blocks, and the data
  pub with_data : (mem' mem'' bytes text : List ℕ) (d n : ℕ) → bytes ≡ text → d ≡ h → h < k → n ≡ f h → Linked mem mem' root h p f g k d
      → Put mem' mem'' n bytes → Rewritten mem mem'' root h p f g k text
  with_data mem' mem'' bytes text d n et z high en l put = record {
    len = put.len ∙ l.len;
    indirect = λ e low deep. put.off (f e) (λ z. fresh.apart e h deep high (z ∙ en)) ∙ l.indirect e (omega arith);
    stored = λ _. ap (block mem'') (sym en) ∙ put.here ∙ et;
    others = λ b ne. put.off b (λ z. ne h high (sym en ∙ sym z)) ∙ l.others b (λ e el. ne e (omega arith));
  }

  -- all new blocks, where the data is a hole
  pub without_data : (mem' text : List ℕ) (d : ℕ) → d ≡ k → k ≤ h → Linked mem mem' root h p f g k d → Rewritten mem mem' root h p f g k text
  without_data mem' text d z low l = record {
    len = l.len;
    indirect = λ e low deep. l.indirect e (omega arith);
    stored = λ high. absurd (omega arith);
    others = λ b ne. l.others b (λ e el. ne e (omega arith));
  }

-- a block of the new path, among the first m of them
pub taken_at : (f : FreshPath) (m d : ℕ) → d < length (take m f.blocks.now) → (d < length f.blocks.now) × (d < m) × (get_or (take m f.blocks.now) d 0 ≡ taken f d)
taken_at f m d low =
    let below : d < m = omega (arith, length-take m f.blocks.now) in
    (omega (arith, length-take m f.blocks.now), below, get_or-take m f.blocks.now d 0 below)

-- one more block written is one of the new path
pub spares_more : (mem mem' mem'' bytes : List ℕ) (f : FreshPath) (d n : ℕ) → Spares mem mem' f → d < length f.blocks.now → n ≡ taken f d
    → Put mem' mem'' n bytes → Spares mem mem'' f
spares_more mem mem' mem'' bytes f d n s low en put = record {
  len = put.len ∙ s.len;
  others = λ b ne. put.off b (λ z. ne (d, low, get_or_default f.blocks.now d b 0 low ∙ sym en ∙ sym z)) ∙ s.others b ne;
}
