-- The blocks that a pool takes may hold a new path.
use Rattle.std.proofs.Common.{◌≡◌, ℕ, ◌+◌, ◌<◌, ◌≤◌, Bool, true, false, ◌⊎◌, List, length, take, get_or, None, Option, Result, sym, ap, ◌∙◌, subst, inl, inr, ⊎_elim, arith, MatchResult}
use Rattle.std.proofs.lemmas.Bool.{cases_lt}
use Rattle.std.proofs.lemmas.List.{get_or_past, get_or-take, length-take-le}
use Rattle.std.proofs.lemmas.Result.{MatchResult-weaker}
use Rattle.faults.specs.declared.PoolCause.{PoolCause}
use Rattle.faults.specs.declared.PoolCause.TheVariants.{NoPool}
use Rattle.records.specs.declared.rows.Pointer.{Pointer}
use Rattle.records.specs.declared.rows.Row.{Row}
use Rattle.blocks.specs.Meanings.{Meaning}
use Rattle.tree.specs.Trees.{block_size, index_at, on_path, Lost}
use Rattle.tree.specs.Paths.{Fresh, Rewritten, Short, filled, new_at}
use Rattle.tree.specs.declared.paths.Path.{Path}
use Rattle.tree.specs.declared.paths.Route.{Route}
use Rattle.tree.proofs.Places.{at_root}
use Rattle.model.specs.Datasets.{State, Dataset}
use Rattle.model.specs.Soundness.{Sound}
use Rattle.model.proofs.Replacing.{row_owned}
use Rattle.reclaim.specs.Taking.{Took}
use Rattle.pool.specs.Paths.{Planted, Routed}
use Rattle.pool.proofs.Trees.{nothing_lost}

-- no block is free and owned
torn : {A : Type 0} {b : Bool} → b ≡ true → b ≡ false → A
torn yes_true is_false = let z : ◌≡◌ {A = ℕ} 0 1 = cc in absurd (omega arith)

-- taken blocks are fresh for the tree of every dataset
pub fresh_path : (s : State) (n : ℕ) (r : Row) (m w : Meaning) (path : List ℕ) (k : ℕ) → Sound s → Dataset s n r → m.owns ≡ s.owns → m.size ≡ s.size → Took m w path k
    → Fresh s.memory r.root r.height (λ d. get_or path d 0) s.group k
fresh_path s n r m w path k sound found owns size took = record {
  group = (sound.shape.group.0, omega (arith, sound.shape.group.1));
  small = λ d lt. omega (arith, took.below d lt, size, sound.shape.size.1);
  apart = took.apart;
  new = λ d lt reaches. torn (row_owned s n r (get_or path d 0) sound found reaches) (sym (ap (λ (f : ℕ → Bool). f (get_or path d 0)) owns) ∙ took.new d lt);
}

-- and they lie in the memory
pub not_short : (s : State) (m w : Meaning) (path : List ℕ) (k : ℕ) → Sound s → m.size ≡ s.size → Took m w path k → Short s.memory (λ d. get_or path d 0) k → ⊥
not_short s m w path k sound size took (d, lt, out) = omega (arith, took.below d lt, size, sound.shape.memory)

-- the old root of a route is the root of its row
root_is : (s : State) (r : Row) (p : ℕ) (route : Route) (k : ℕ) (text : List ℕ) → Routed s r p route k text → get_or route.old 0 None ≡ r.root
root_is s r p route k text way = way.pointers 0 (omega arith) ∙ at_root s.memory r.root (index_at r.height p 0)

-- the first blocks of a path, which has zeros past them, are the path
first_blocks : (m w : Meaning) (path : List ℕ) (k : ℕ) → Took m w path k → k ≤ 5 → ◌≡◌ {A = ℕ → ℕ} (λ d. get_or (take k path) d 0) (λ d. get_or path d 0)
first_blocks m w path k took few = λ i d. at d (cases_lt d k) i
  where
    long : length (take k path) ≡ k
    long = length-take-le k path (omega (arith, few, took.long))

    at : (d : ℕ) → (d < k) ⊎ (k ≤ d) → get_or (take k path) d 0 ≡ get_or path d 0
    at d (inl lt) = get_or-take k path d 0 lt
    at d (inr le) = get_or_past (take k path) d 0 (omega (arith, long, le)) ∙ sym (took.past d le)

-- what a rewrite says of a tree of height h, a position p and the blocks f 0, f 1 and on
abbrev Writes : State → List ℕ → Route → List ℕ → Result (Option Pointer) PoolCause → ℕ → ℕ → (ℕ → ℕ) → ℕ → Type 0
Writes s memory route text q h p f k =
    ((d : ℕ) → d ≤ h → get_or route.old d None ≡ on_path s.memory (get_or route.old 0 None) h p d) → Fresh s.memory (get_or route.old 0 None) h f s.group k
    → MatchResult q (λ root. (root ≡ new_at f s.group k 0) × Rewritten s.memory memory (get_or route.old 0 None) h p f s.group k (filled text))
    (λ c. (c ≡ NoPool) × (Lost s.memory (get_or route.old 0 None) h ⊎ Short s.memory f k))

-- what writing a new path of taken blocks leaves
pub planted : (s : State) (r : Row) (p : ℕ) (route : Route) (m w : Meaning) (path : List ℕ) (k : ℕ) (text memory : List ℕ) (q : Result (Option Pointer) PoolCause)
    → Sound s → Routed s r p route k text → m.owns ≡ s.owns → m.size ≡ s.size → Took m w path k → k ≤ 5
    → ((route.path.height ≤ 4) × (length (take k path) ≤ route.path.height + 1) × (length text ≤ block_size) → Writes s memory route text q route.path.height route.path.position (λ d. get_or (take k path) d 0) (length (take k path)))
    → MatchResult q (λ root. Planted s m w memory r p k text root) (λ _. ⊥)
planted s r p route m w path k text memory q sound way owns size took few rewrites =
    MatchResult-weaker q (writes tracks fresh)
    (λ root (begins, written). record { path = path; took = took; begins = begins; written = subst (λ (x : Option Pointer). Rewritten s.memory memory x r.height p (λ d. get_or path d 0) s.group k (filled text)) root_at written })
    (λ c (_, lost). ⊎_elim (λ l. nothing_lost s r.number r sound way.found (subst (λ (x : Option Pointer). Lost s.memory x r.height) root_at l)) (not_short s m w path k sound size took) lost)
  where
    root_at : get_or route.old 0 None ≡ r.root
    root_at = root_is s r p route k text way

    tracks : (d : ℕ) → d ≤ r.height → get_or route.old d None ≡ on_path s.memory (get_or route.old 0 None) r.height p d
    tracks d le = subst (λ (x : Option Pointer). get_or route.old d None ≡ on_path s.memory x r.height p d) (sym root_at) (way.pointers d le)

    fresh : Fresh s.memory (get_or route.old 0 None) r.height (λ d. get_or path d 0) s.group k
    fresh = subst (λ (x : Option Pointer). Fresh s.memory x r.height (λ d. get_or path d 0) s.group k) (sym root_at) (fresh_path s r.number r m w path k sound way.found owns size took)

    long : length (take k path) ≡ k
    long = length-take-le k path (omega (arith, few, took.long))

    in_range : (route.path.height ≤ 4) × (length (take k path) ≤ route.path.height + 1) × (length text ≤ block_size)
    in_range =
        let high = (sound.shape.heights r.number r way.found).1 in
        let same = ap (λ (x : Path). x.height) way.path in
        (omega arith, omega (arith, long, way.deep), way.short)

    writes : Writes s memory route text q r.height p (λ d. get_or path d 0) k
    writes =
        subst (λ (x : Path). Writes s memory route text q x.height x.position (λ d. get_or path d 0) k) way.path
        (subst (λ (f : ℕ → ℕ). Writes s memory route text q route.path.height route.path.position f k) (first_blocks m w path k took few)
        (subst (λ (n : ℕ). Writes s memory route text q route.path.height route.path.position (λ d. get_or (take k path) d 0) n) long (rewrites in_range)))
