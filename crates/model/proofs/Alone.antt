-- A pool of head 1 alone, with height 1, of which the positions 0 and 1 are written and discarded.
--     Alone              what such a pool is
--     Stored             a position of the head reads a text
--     first_written      position 0 is written
--     second_written     and position 1 beside it
--     second_dropped     position 1 is discarded beside position 0
--     first_dropped      and then position 0
use Rattle.std.proofs.Common.{◌≡◌, ℕ, zero, suc, ◌+◌, ◌-◌, ◌*◌, ◌^◌, ◌<◌, ◌≤◌, List, Some, None, Option, Result, sym, refl, ap, ◌∙◌, subst, arith, Bor}
use Rattle.faults.specs.declared.Layer.{Layer}
use Rattle.records.specs.declared.rows.Pointer.{Pointer}
use Rattle.tree.specs.Trees.{fan, at, child, index_at, digit, on_path}
use Rattle.tree.specs.Paths.{Stay, filled}
use Rattle.tree.proofs.Places.{at_child}
use Rattle.model.specs.Datasets.{State, Dataset, Has, reads}
use Rattle.model.specs.Histories.{Fits, done}
use Rattle.model.specs.Laws.{Elsewhere}
use Rattle.model.specs.Soundness.{Sound}
use Rattle.model.specs.Steps.{Step}
use Rattle.model.specs.declared.Answer.{Answer}
use Rattle.model.specs.declared.Call.TheVariants.{Write, Discard}
use Rattle.model.proofs.Lasts.{reads_last}
use Rattle.model.proofs.Readings.{reads_at}
use Rattle.model.proofs.Rows.{row_of, row_number, some_none, of_all}
use Rattle.model.proofs.Small.{Small, head_one, alone, found}
use Rattle.model.proofs.SmallPaths.{Bounds, none_sink, only_root, small_write, small_rewrite, small_discard}

-- head 1 alone, with the first w places at most, and b blocks
abbrev pub Alone : State → State → ℕ → ℕ → Type 0
Alone z s w b = (root : Option Pointer) × Small z s 1 w (alone root b) b 0

-- position p of head 1 reads the text
abbrev pub Stored : State → ℕ → Bor (List ℕ) → Type 0
Stored s p text = reads s 1 p ≡ Some (filled text.now)

-- what is read after a granted write
written : {s : State} {a : Result Answer Layer} (t : State) (p i j : ℕ) (x : Bor (List ℕ)) → Sound s → a ≡ done i j → Step s (Write 1 p x) a t → Stored t p x × Elsewhere s t 1 p
written {s} t p i j x sound is step = reads_last.written s t 1 p x _ sound (subst (λ r. Step s (Write 1 p x) r t) is step)

-- and after a granted discard
dropped : {s : State} {a : Result Answer Layer} (t : State) (p i j : ℕ) → Sound s → a ≡ done i j → Step s (Discard 1 p) a t → (reads t 1 p ≡ None) × Elsewhere s t 1 p
dropped {s} t p i j sound is step = reads_last.discarded s t 1 p _ sound (subst (λ r. Step s (Discard 1 p) r t) is step)

module _ {z s : State} {w b : ℕ} {root : Option Pointer} (small : Small z s 1 w (alone root b) b 0) where
  -- the head is there
  here : Dataset s 1 (head_one root b)
  here = found small 1 _ refl

  -- where position 1 changes, position 0 reads as before
  first_kept : (t : State) (x : Bor (List ℕ)) → Elsewhere s t 1 1 → Stored s 0 x → Stored t 0 x
  first_kept t x elsewhere stored = elsewhere 1 0 (λ e. omega arith) (_, here, omega arith) ∙ stored

  -- a position that reads a text has a pointer
  pointer : (p : ℕ) (x : Bor (List ℕ)) → Stored s p x → (q : Pointer) × (at s.memory root 1 p ≡ Some q)
  pointer p x stored = go (at s.memory root 1 p) refl
    where
      go : (o : Option Pointer) → at s.memory root 1 p ≡ o → (q : Pointer) × (at s.memory root 1 p ≡ Some q)
      go None hole = absurd (some_none _ _ stored (reads_at s 1 _ p None here hole))
      go (Some q) e = (q, e)

  -- each place is the head's, at depth 0 or 1, and the root has the index 0
  place : (m d i : ℕ) (q : Pointer) → Has s m d i q → (m ≡ 1) × (d ≤ 1) × (d ≡ 0 → i ≡ 0)
  place m d i q has = (sym (row_number (alone root b) m has.row at) ∙ number, omega (arith, has.holds.deep, height), λ top. omega (arith, has.holds.wide, ap (λ (j : ℕ). fan ^ j) top))
    where
      at : row_of (alone root b) m ≡ Some has.row
      at = ap (λ xs. row_of xs m) (sym small.rows) ∙ has.found

      number : has.row.number ≡ 1
      number = of_all (λ x. x.number ≡ 1) (alone root b) m has.row (refl, tt) at

      height : has.row.height ≡ 1
      height = of_all (λ x. x.height ≡ 1) (alone root b) m has.row (refl, tt) at

  -- position 0 is written, and has the only data
  pub first_written : (x : Bor (List ℕ)) → Fits x → w ≤ 2 → b + 2 ≤ z.size
      → (a : Result Answer Layer) (t : State) → Step s (Write 1 0 x) a t → (a ≡ done 2 b) × (Alone z t 2 2 × Stored t 0 x)
  first_written x fits narrow room a t step =
      let (is, (now, left)) = small_rewrite small 1 refl refl refl 0 x fits narrow (none_sink small 1 refl refl refl 0 (omega arith) refl) room (omega arith) a t step in
      let owned : b + 2 - b ≡ 2 = omega arith in
      (is, ((now, subst (λ (i : ℕ). Small z t 1 2 (alone now 2) i 0) owned left), (written t 0 2 b x small.sound is step).0))

-- position 1 is written beside position 0
pub second_written : {z s : State} {root : Option Pointer} (small : Small z s 1 2 (alone root 2) 2 0) (x y : Bor (List ℕ)) → Fits y → 4 ≤ z.size → Stored s 0 x
    → (a : Result Answer Layer) (t : State) → Step s (Write 1 1 y) a t → (a ≡ done 2 1) × (Alone z t 3 3 × Stored t 0 x × Stored t 1 y)
second_written {s = s} small x y fits room first a t step =
    let (is, left) = small_write small 1 refl refl refl 1 3 1 0 1 y fits (omega arith) bounds (omega arith) a t step in
    let (second, elsewhere) = written t 1 2 1 y small.sound is step in
    (is, (left, first_kept small t x elsewhere first, second))
  where
    new : (d : ℕ) → d < 2 → d + index_at 1 1 d < 3
    new zero low = omega arith
    new (suc zero) low = omega arith
    new (suc (suc d)) low = absurd (omega arith)

    bounds : Bounds small 1 refl refl refl 1 2 3 1 0 1
    bounds = record {
      new = new;
      old = λ m d i q has _. omega (arith, small.within m d i q has);
      short = only_root small 1 refl refl refl 1 (omega arith) (omega arith);
      sinks = none_sink small 1 refl refl refl 1 (omega arith) refl;
      fits = omega arith;
      exact = λ x most few least. omega arith;
    }

-- position 1 is discarded beside position 0: the root block stays, as a new one
pub second_dropped : {z s : State} {root : Option Pointer} (small : Small z s 1 3 (alone root 3) 3 0) (x y : Bor (List ℕ)) → 4 ≤ z.size → Stored s 0 x → Stored s 1 y
    → (a : Result Answer Layer) (t : State) → Step s (Discard 1 1) a t → (a ≡ done 1 2) × (Alone z t 2 2 × Stored t 0 x)
second_dropped {s = s} {root} small x y room first second a t step =
    let (q, there) = pointer small 1 y second in
    let (is, left) = small_discard small 1 refl refl refl 1 1 2 0 2 (omega arith) (some_none _ q there) (stay (pointer small 0 x first)) bounds (omega arith) a t step in
    (is, (left, first_kept small t x (dropped t 1 1 2 small.sound is step).1 first))
  where
    stay : (q : Pointer) × (at s.memory root 1 0 ≡ Some q) → Stay s.memory root 1 1 1
    stay (q, is) = record {
      within = omega arith;
      only = λ d low high. absurd (omega arith);
      other = λ _. record { which = 0; small = omega arith; other = λ e. omega arith; pointer = q; here = sym (at_child s.memory root 0 0 0 (omega arith)) ∙ is };
    }

    new : (d : ℕ) → d < 1 → d + index_at 1 1 d < 2
    new zero low = omega arith
    new (suc d) low = absurd (omega arith)

    old : (m d i : ℕ) (q : Pointer) → Has s m d i q → ((m ≡ 1) × (i ≡ index_at 1 1 d) → ⊥) → d + i < 2
    old m d i q has = go d (small.within m d i q has) (place small m d i q has)
      where
        go : (d : ℕ) → d + i < 3 → (m ≡ 1) × (d ≤ 1) × (d ≡ 0 → i ≡ 0) → ((m ≡ 1) × (i ≡ index_at 1 1 d) → ⊥) → d + i < 2
        go zero low (_, _, top) off = omega (arith, top refl)
        go (suc zero) low (is, _, _) off = omega (arith, λ (e : i ≡ 1). off (is, e))
        go (suc (suc d)) low (_, deep, _) off = absurd (omega arith)

    bounds : Bounds small 1 refl refl refl 1 1 2 2 0 2
    bounds = record {
      new = new;
      old = old;
      short = λ q l. omega (arith, l.1);
      sinks = none_sink small 1 refl refl refl 1 (omega arith) refl;
      fits = omega arith;
      exact = λ x most few least. omega arith;
    }

-- the only data is discarded: nothing stays
pub first_dropped : {z s : State} {root : Option Pointer} (small : Small z s 1 2 (alone root 2) 2 0) (x : Bor (List ℕ)) → 2 ≤ z.size → Stored s 0 x
    → (a : Result Answer Layer) (t : State) → Step s (Discard 1 0) a t → (a ≡ done 0 2) × (reads t 1 0 ≡ None)
first_dropped {s = s} {root} small x room first a t step =
    let (q, there) = pointer small 0 x first in
    let (is, _) = small_discard small 1 refl refl refl 0 0 0 0 2 (omega arith) (some_none _ q there) stay bounds (omega arith) a t step in
    (is, (dropped t 0 0 2 small.sound is step).0)
  where
    -- the root leads to nothing else
    holes : (j : ℕ) → j < fan → (j ≡ 0 → ⊥) → (o : Option Pointer) → child s.memory (at s.memory root 0 0) j ≡ o → child s.memory (at s.memory root 0 0) j ≡ None
    holes j less other None e = e
    holes j less other (Some q) e =
        let index : 0 * fan + j ≡ j = omega arith in
        let is : at s.memory root 1 j ≡ Some q = ap (at s.memory root 1) (sym index) ∙ at_child s.memory root 0 0 j less ∙ e in
        let has : Has s 1 1 j q = record { row = _; found = here small; holds = record { deep = omega arith; wide = less; here = is } } in
        absurd (other (omega (arith, small.within 1 1 j q has)))

    only : (d : ℕ) → d < 1 → (j : ℕ) → j < fan → (j ≡ digit 1 0 d → ⊥) → child s.memory (on_path s.memory root 1 0 d) j ≡ None
    only zero high j less other = holes j less other _ refl
    only (suc d) high j less other = absurd (omega arith)

    stay : Stay s.memory root 1 0 0
    stay = record { within = omega arith; only = λ d _. only d; other = λ some. absurd (omega arith) }

    old : (m d i : ℕ) (q : Pointer) → Has s m d i q → ((m ≡ 1) × (i ≡ index_at 1 0 d) → ⊥) → d + i < 0
    old m d i q has = go d (small.within m d i q has) (place small m d i q has)
      where
        go : (d : ℕ) → d + i < 2 → (m ≡ 1) × (d ≤ 1) × (d ≡ 0 → i ≡ 0) → ((m ≡ 1) × (i ≡ index_at 1 0 d) → ⊥) → d + i < 0
        go zero low (is, _, top) off = absurd (off (is, top refl))
        go (suc zero) low (is, _, _) off = absurd (off (is, omega arith))
        go (suc (suc d)) low (_, deep, _) off = absurd (omega arith)

    bounds : Bounds small 1 refl refl refl 0 0 0 2 0 2
    bounds = record {
      new = λ d less. absurd (omega arith);
      old = old;
      short = λ q l. omega (arith, l.1);
      sinks = none_sink small 1 refl refl refl 0 (omega arith) refl;
      fits = omega arith;
      exact = λ x most few least. omega arith;
    }
