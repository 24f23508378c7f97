-- What leaves a sound pool can leave: the pointers of an old path, as a list of five places, the young blocks of a
-- dataset, and those of its dead records.
--     RouteOf s r p old     the list old has the path of the row r to position p, and holes past its height
use Rattle.std.proofs.Common.{◌≡◌, ℕ, zero, suc, ◌+◌, ◌/◌, ◌^◌, ◌<◌, ◌≤◌, true, leb, ◌⊎◌, ◌↔◌, List, ◌++◌, length, ◌≢◌, get_or, Some, None, filter, Option, sym, refl, ap, ◌∙◌, ap₂, subst, inl, inr, append-nil, arith}
use Rattle.std.specs.List.{All, AllPairs}
use Rattle.std.proofs.lemmas.Bool.{cases_eq, cases_lt}
use Rattle.blocks.specs.Meanings.{Meaning}
use Rattle.ordered.specs.Tables.{record_of}
use Rattle.records.specs.Keys.{dead_key, dead_below}
use Rattle.records.specs.declared.dead.DeadRecord.{DeadRecord}
use Rattle.records.specs.declared.rows.Pointer.{Pointer}
use Rattle.records.specs.declared.rows.Row.{Row}
use Rattle.tree.specs.Trees.{fan, index_at, Holds}
use Rattle.tree.proofs.Places.{index_wide}
use Rattle.model.specs.Datasets.{State, Dataset, Dead, Young, base, Has, dead_of}
use Rattle.model.specs.Paths.{Leaves, path_of, listed, pointers, sinking}
use Rattle.model.specs.Soundness.{Sound}
use Rattle.model.proofs.Burials.{dead_one, found_key}
use Rattle.model.proofs.Places.{one_row}
use Rattle.model.proofs.Replacing.{place_owned}
use Rattle.model.proofs.Rows.{some_none}
use Rattle.reclaim.specs.Leaving.{sunk, Ready}
use Rattle.reclaim.specs.Giving.{ListReady}
use Rattle.reclaim.specs.Trees.{TreeReady, YoungIn}

-- the list has the path of the row to the position, and holes past its height
pub record RouteOf (s : State) (r : Row) (p : ℕ) (old : List (Option Pointer)) : Type 0 where
  pub long : length old ≡ 5
  pub pointers : (d : ℕ) → d ≤ r.height → get_or old d None ≡ path_of s r p d
  pub past : (d : ℕ) → r.height < d → get_or old d None ≡ None

-- equal pointers make equal lists
pointers_same : (f g : ℕ → Option Pointer) (k : ℕ) → ((d : ℕ) → d < k → f d ≡ g d) → pointers f k ≡ pointers g k
unfolding pointers
pointers_same f g zero e = refl
pointers_same f g (suc k) e = ap₂ ◌++◌ (pointers_same f g k (λ d less. e d (omega arith))) (ap listed (e k (omega arith)))

-- holes at the end add nothing
pointers_past : (f : ℕ → Option Pointer) (k m : ℕ) → k ≤ m → ((d : ℕ) → k ≤ d → f d ≡ None) → pointers f m ≡ pointers f k
unfolding pointers
pointers_past f k zero more holes = let is : 0 ≡ k = omega arith in ap (pointers f) is
pointers_past f k (suc m) more holes = go (pointers_past f k m) (cases_eq k (suc m))
  where
    go : (k ≤ m → ((d : ℕ) → k ≤ d → f d ≡ None) → pointers f m ≡ pointers f k) → (k ≡ suc m) ⊎ (k ≡ suc m → ⊥) → pointers f (suc m) ≡ pointers f k
    go rest (inl e) = ap (pointers f) (sym e)
    go rest (inr other) = ap (λ o. pointers f m ++ listed o) (holes m (omega arith)) ∙ append-nil (pointers f m) ∙ rest (omega arith) holes

-- the old pointers of the list that sink are those of the path
pub sunk_sinking : (s : State) (r : Row) (p : ℕ) (old : List (Option Pointer)) → r.height ≤ 4 → RouteOf s r p old → sunk old (base s r) ≡ sinking s r p
sunk_sinking s r p old low route =
    let f : ℕ → Option Pointer = λ d. get_or old d None in
    let more : suc r.height ≤ length old = omega (arith, route.long) in
    ap (filter (λ q. leb q.birth (base s r)))
    (pointers_past f (suc r.height) (length old) more (λ d deep. route.past d (omega arith))
    ∙ pointers_same f (path_of s r p) (suc r.height) (λ d less. route.pointers d (omega arith)))

-- a pointer of the list stands on the path, at the same depth
on_route : (s : State) (r : Row) (p : ℕ) (old : List (Option Pointer)) → RouteOf s r p old
    → (i : ℕ) (q : Pointer) → get_or old i None ≡ Some q → (i ≤ r.height) × (path_of s r p i ≡ Some q)
on_route s r p old route i q here = go (cases_lt r.height i)
  where
    go : (r.height < i) ⊎ (i ≤ r.height) → (i ≤ r.height) × (path_of s r p i ≡ Some q)
    go (inl past) = absurd (some_none (get_or old i None) q here (route.past i past))
    go (inr deep) = (deep, sym (route.pointers i deep) ∙ here)

-- it leaves
pub leaver_leaves : (s : State) (r : Row) (p : ℕ) (old : List (Option Pointer)) → RouteOf s r p old
    → (i : ℕ) (q : Pointer) → get_or old i None ≡ Some q → Leaves s r p q
leaver_leaves s r p old route i q here = let on = on_route s r p old route i q here in (i, on.0, on.1)

-- what leaves is in the list
pub leaves_leaver : (s : State) (r : Row) (p : ℕ) (old : List (Option Pointer)) → RouteOf s r p old
    → (q : Pointer) → Leaves s r p q → (i : ℕ) × (get_or old i None ≡ Some q)
leaves_leaver s r p old route q (d, deep, here) = (d, route.pointers d deep ∙ here)

-- the dataset has each pointer of the list, at the place of the path
pub leaver_has : (s : State) (n p : ℕ) (r : Row) (old : List (Option Pointer)) → Dataset s n r → p < fan ^ r.height → RouteOf s r p old
    → (i : ℕ) (q : Pointer) → get_or old i None ≡ Some q → Has s n i (index_at r.height p i) q
leaver_has s n p r old found inside route i q here =
    let on = on_route s r p old route i q here in
    record { row = r; found = found; holds = record { deep = on.0; wide = index_wide r.height p i inside on.0; here = on.1 } }

-- so its block is owned
pub leaver_held : (s : State) (n p : ℕ) (r : Row) (old : List (Option Pointer)) → Sound s → Dataset s n r → p < fan ^ r.height → RouteOf s r p old
    → (i : ℕ) (q : Pointer) → get_or old i None ≡ Some q → s.owns q.block ≡ true
leaver_held s n p r old sound found inside route i q here =
    place_owned s n i (index_at r.height p i) q sound (leaver_has s n p r old found inside route i q here)

-- a dataset has no dead record of a block that it reaches
reached_absent : (s : State) (n d i : ℕ) (q : Pointer) → Sound s → Has s n d i q → record_of dead_key dead_below s.dead (dead_key (dead_of n q)) ≡ None
reached_absent s n d i q sound has = go (record_of dead_key dead_below s.dead (dead_key (dead_of n q))) refl
  where
    go : (o : Option DeadRecord) → record_of dead_key dead_below s.dead (dead_key (dead_of n q)) ≡ o → record_of dead_key dead_below s.dead (dead_key (dead_of n q)) ≡ None
    go None e = e
    go (Some x) e =
        let key = found_key dead_key dead_below dead_one s.dead (dead_key (dead_of n q)) x e in
        let is : x ≡ dead_of n q = ap (λ (z : DeadRecord). record { dataset = z.dataset; birth = z.birth; block = z.block }) key in
        absurd (((sound.dead n q).0 (e ∙ ap Some is)).3 (q, (d, i, has), refl))

-- the pointers of the list can leave, where all blocks are owned that the pool owns
pub ready : (s : State) (n p : ℕ) (r : Row) (old : List (Option Pointer)) (w : Meaning) → Sound s → Dataset s n r → p < fan ^ r.height → RouteOf s r p old
    → ((b : ℕ) → s.owns b ≡ true → w.owns b ≡ true) → length s.dead + length (sinking s r p) ≤ s.dead_room
    → Ready w s.dead s.dead_room n (base s r) old
ready s n p r old w sound found inside route more room = record {
  apart = λ i j q x less at_i at_j same.
      omega (arith, (sound.identity n n i j (index_at r.height p i) (index_at r.height p j) q x (has i q at_i) (has j x at_j) same).0);
  young = λ i q here _. more q.block (leaver_held s n p r old sound found inside route i q here);
  absent = λ i q here _. reached_absent s n i (index_at r.height p i) q sound (has i q here);
  fits = omega (arith, room, ap length (sunk_sinking s r p old (sound.shape.heights n r found).1 route));
}
  where
    has : (i : ℕ) (q : Pointer) → get_or old i None ≡ Some q → Has s n i (index_at r.height p i) q
    has = leaver_has s n p r old found inside route

-- the young blocks of a dataset can be given back, whatever the stamp, where all blocks are owned that the pool owns
pub tree_ready : (s : State) (n stamp : ℕ) (r : Row) (w : Meaning) → Sound s → Dataset s n r → ((b : ℕ) → s.owns b ≡ true → w.owns b ≡ true)
    → TreeReady w s.memory r.root r.height stamp
tree_ready s n stamp r w sound found more = record {
  low = (sound.shape.heights n r found).1;
  inside = λ (b, (d, i, q, holds, e), out). omega (arith, sound.pointers.inside n d i q (has d i q holds), sound.shape.memory);
  falls = λ d i q x low up. sound.pointers.falls n d i q x (has (suc d) i q low) (has d (i / fan) x up);
  apart = λ d e i j q x here there same. let (deep, wide, _) = sound.identity n n d e i j q x (has d i q here) (has e j x there) same in (deep, wide);
  owned = λ b (d, i, q, holds, _, e). more b (ap s.owns (sym e) ∙ place_owned s n d i q sound (has d i q holds));
}
  where
    has : (d i : ℕ) (q : Pointer) → Holds s.memory r.root r.height d i q → Has s n d i q
    has d i q holds = record { row = r; found = found; holds = holds }

-- those blocks are the young ones of the dataset
pub young_in : (s : State) (n b : ℕ) (r : Row) → Dataset s n r → Young s n b ↔ YoungIn s.memory r.root r.height (base s r) b
young_in s n b r found = (there, here)
  where
    there : Young s n b → YoungIn s.memory r.root r.height (base s r) b
    there (x, q, is, (d, i, has), late, e) = (
      d,
      i,
      q,
      subst (λ (y : Row). Holds s.memory y.root y.height d i q) (one_row s n has.row r has.found found) has.holds,
      subst (λ (y : Row). base s y < q.birth) (one_row s n x r is found) late,
      e,
    )

    here : YoungIn s.memory r.root r.height (base s r) b → Young s n b
    here (d, i, q, holds, late, e) = (r, q, found, (d, i, record { row = r; found = found; holds = holds }), late, e)

-- the pointer of a dead record
pointer_of : DeadRecord → Pointer
pointer_of r = record { block = r.block; birth = r.birth }

-- the dead table of s has the record r, for dataset n
abbrev pub HasRecord : State → ℕ → DeadRecord → Type 0
HasRecord s n r = (r.dataset ≡ n) × (record_of dead_key dead_below s.dead (dead_key r) ≡ Some r)

-- it is the record of its pointer
rebuilt : (n : ℕ) (r : DeadRecord) → r.dataset ≡ n → r ≡ dead_of n (pointer_of r)
unfolding pointer_of
rebuilt n r of = ap (λ (m : ℕ). dead_of m (pointer_of r)) of

-- its pointer is in the dead list
record_dead : (s : State) (n : ℕ) (r : DeadRecord) → Sound s → HasRecord s n r → Dead s n (pointer_of r)
record_dead s n r sound (of, found) =
    (sound.dead n (pointer_of r)).0 (subst (λ (x : DeadRecord). record_of dead_key dead_below s.dead (dead_key x) ≡ Some x) (rebuilt n r of) found)

-- dead records of a dataset can be given back, no record twice
pub list_ready : (s : State) (n : ℕ) (list : List DeadRecord) (w : Meaning) → Sound s → ((b : ℕ) → s.owns b ≡ true → w.owns b ≡ true)
    → All (HasRecord s n) list → AllPairs (λ r x. r ≢ x) list → ListReady w list
unfolding pointer_of
list_ready s n list w sound more kept apart = record {
  apart = λ i j d less inside same. apart i j d less inside (one _ _ (kept i d (omega arith)) (kept j d inside) same);
  owned = λ i d inside. let (m, _, (e, j, has), _) = record_dead s n _ sound (kept i d inside) in more _ (place_owned s m e j _ sound has);
}
  where
    one : (r x : DeadRecord) → HasRecord s n r → HasRecord s n x → r.block ≡ x.block → r ≡ x
    one r x here there same =
        let (m, _, (d, i, has), _) = record_dead s n r sound here in
        let (m', _, (e, j, has'), _) = record_dead s n x sound there in
        let (_, _, pointers) = sound.identity m m' d e i j (pointer_of r) (pointer_of x) has has' same in
        rebuilt n r here.0 ∙ ap (dead_of n) pointers ∙ sym (rebuilt n x there.0)
