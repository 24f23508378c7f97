-- A replaced path in a sound pool moves the places of that path alone.
use Rattle.std.proofs.Common.{◌≡◌, ℕ, suc, ◌+◌, ◌-◌, ◌*◌, ◌^◌, ◌<◌, ◌≤◌, true, cond, eqb, ◌⊎◌, List, length, Some, None, Option, sym, refl, ap, ◌∙◌, subst, ap₂, inl, inr, true≢false, arith}
use Rattle.std.proofs.lemmas.Bool.{cases_eq, cases_lt, cond-true, cond-false, eq-eqb, ne_eqb}
use Rattle.records.specs.declared.rows.Kind.TheVariants.{Head}
use Rattle.records.specs.declared.rows.Pointer.{Pointer}
use Rattle.records.specs.declared.rows.Row.{Row}
use Rattle.tree.specs.Trees.{block_size, fan, at, index_at, digit, Holds, Reaches}
use Rattle.tree.specs.Paths.{OnlyChild, OtherChild, Fresh, new_at}
use Rattle.tree.proofs.Places.{index_wide}
use Rattle.tree.proofs.Frames.{frame}
use Rattle.tree.proofs.Reroutes.{reroute, new_some, new_none}
use Rattle.model.specs.Datasets.{State, Dataset, row_stamp, stamp, base, Has}
use Rattle.model.specs.Paths.{path_of}
use Rattle.model.specs.Soundness.{Sound}
use Rattle.model.specs.Steps.{taken, given, with_root, Replaced}
use Rattle.model.proofs.Moves.{Kin, On, new_pointer, Moved}
use Rattle.model.proofs.Rows.{some_none, row_of, row_number, same_row, replaced_here, replaced_other}

-- a row is its own kin
pub kin_self : (x : Row) → Kin x x
kin_self x = record { number = refl; height = refl; previous = refl; owner = refl; kind = refl }

-- the block of each place is owned
pub place_owned : (s : State) (m d i : ℕ) (q : Pointer) → Sound s → Has s m d i q → s.owns q.block ≡ true
place_owned s m d i q sound has = (sound.owned q.block).1 (m, (q, (d, i, has), refl))

-- the block that a row reaches is owned
pub row_owned : (s : State) (m : ℕ) (x : Row) (b : ℕ) → Sound s → Dataset s m x → Reaches s.memory x.root x.height b → s.owns b ≡ true
row_owned s m x b sound here (d, i, q, holds, e) =
    subst (λ c. s.owns c ≡ true) e (place_owned s m d i q sound (record { row = x; found = here; holds = holds }))

-- a block of a row lies in the memory
pub row_inside : (s : State) (m : ℕ) (x : Row) (b : ℕ) → Sound s → Dataset s m x → Reaches s.memory x.root x.height b → block_size * b + block_size ≤ length s.memory
row_inside s m x b sound here reach =
    let low = sound.shape.below b (row_owned s m x b sound here reach) in
    let whole = sound.shape.memory in
    omega arith

module _ (s t : State) (n : ℕ) (r : Row) (p k : ℕ) (bytes : List ℕ) (sound : Sound s) (found : Dataset s n r) (rep : Replaced s t n r p k bytes) where
  -- the row of the head afterwards
  abbrev row : Row
  row = with_root r (new_at rep.new s.group k 0) (r.born + taken s t - given s t)

  -- it differs in root and count alone
  kin_row : Kin r row
  kin_row = record { number = refl; height = refl; previous = refl; owner = refl; kind = refl }

  -- the head has that row, and all others have theirs
  pub row_here : Dataset t n row
  row_here = ap (λ xs. row_of xs n) rep.rows ∙ replaced_here s.rows row r n (row_number s.rows n r found) found

  pub row_other : (m : ℕ) → (m ≡ n → ⊥) → row_of t.rows m ≡ row_of s.rows m
  row_other m other =
      ap (λ xs. row_of xs m) rep.rows ∙ replaced_other s.rows row m (λ e. other (e ∙ row_number s.rows n r found))

  -- the rows of t, by those of s
  after_cases : (m : ℕ) (x : Row) → Dataset t m x → ((m ≡ n) × (x ≡ row)) ⊎ ((m ≡ n → ⊥) × Dataset s m x)
  after_cases m x here = go (cases_eq m n)
    where
      go : (m ≡ n) ⊎ (m ≡ n → ⊥) → ((m ≡ n) × (x ≡ row)) ⊎ ((m ≡ n → ⊥) × Dataset s m x)
      go (inl e) = inl (e, same_row t.rows n x row (subst (λ j. Dataset t j x) e here) row_here)
      go (inr other) = inr (other, sym (row_other m other) ∙ here)

  -- the rows of s, by those of t
  before_cases : (m : ℕ) (y : Row) → Dataset s m y → ((m ≡ n) × (y ≡ r)) ⊎ ((m ≡ n → ⊥) × Dataset t m y)
  before_cases m y here = go (cases_eq m n)
    where
      go : (m ≡ n) ⊎ (m ≡ n → ⊥) → ((m ≡ n) × (y ≡ r)) ⊎ ((m ≡ n → ⊥) × Dataset t m y)
      go (inl e) = inl (e, same_row s.rows n y r (subst (λ j. Dataset s j y) e here) found)
      go (inr other) = inr (other, row_other m other ∙ here)

  -- each row is kin to the one of before, and the same in other datasets
  pub rows_after : (m : ℕ) (x : Row) → Dataset t m x → (y : Row) × Dataset s m y × Kin y x
  rows_after m x here = go (after_cases m x here)
    where
      go : ((m ≡ n) × (x ≡ row)) ⊎ ((m ≡ n → ⊥) × Dataset s m x) → (y : Row) × Dataset s m y × Kin y x
      go (inl (e, is)) = (r, subst (λ j. Dataset s j r) (sym e) found, subst (λ z. Kin r z) (sym is) kin_row)
      go (inr (_, old)) = (x, old, kin_self x)

  pub rows_before : (m : ℕ) (y : Row) → Dataset s m y → (x : Row) × Dataset t m x × Kin y x
  rows_before m y here = go (before_cases m y here)
    where
      go : ((m ≡ n) × (y ≡ r)) ⊎ ((m ≡ n → ⊥) × Dataset t m y) → (x : Row) × Dataset t m x × Kin y x
      go (inl (e, is)) = (row, subst (λ j. Dataset t j row) (sym e) row_here, subst (λ z. Kin z row) (sym is) kin_row)
      go (inr (_, new)) = (y, new, kin_self y)

  pub rows_same : (m : ℕ) (x : Row) → (m ≡ n → ⊥) → Dataset t m x → Dataset s m x
  rows_same m x other here = sym (row_other m other) ∙ here

  -- no stamp changes
  pub stamp_same : (o : Option ℕ) → stamp t o ≡ stamp s o
  stamp_same None = refl
  stamp_same (Some m) = go (cases_eq m n)
    where
      go : (m ≡ n) ⊎ (m ≡ n → ⊥) → stamp t (Some m) ≡ stamp s (Some m)
      go (inl e) =
          ap₂ row_stamp rep.group (ap (row_of t.rows) e ∙ row_here) ∙ sym (ap (row_stamp s.group) (ap (row_of s.rows) e ∙ found))
      go (inr other) = ap₂ row_stamp rep.group (row_other m other)

  pub bases_same : (x y : Row) → x.previous ≡ y.previous → base t x ≡ base s y
  unfolding base
  bases_same x y e = ap (stamp t) e ∙ stamp_same y.previous

  -- a new place of the path, or a place of before beside it
  abbrev NewOrOld : ℕ → ℕ → ℕ → Pointer → Type 0
  NewOrOld m d i q = (On n r p m d i × (d < k) × (q ≡ new_pointer s rep.new d)) ⊎ (Has s m d i q × (On n r p m d i → ⊥))

  -- no dataset reached the new blocks
  pub unreached : (m : ℕ) (x : Row) (d : ℕ) → Dataset s m x → d < k → Reaches s.memory x.root x.height (rep.new d) → ⊥
  unreached m x d here new reach = true≢false (sym (row_owned s m x (rep.new d) sound here reach) ∙ (rep.free d new).1)

  -- so every tree of before is as it was
  pub tree_same : (m : ℕ) (x : Row) (d i : ℕ) → Dataset s m x → d ≤ x.height → i < fan ^ d → at t.memory x.root d i ≡ at s.memory x.root d i
  tree_same m x d i here deep wide =
      frame s.memory t.memory x.root x.height
      (λ b reach. rep.memory.others b (λ e new is. unreached m x e here new (subst (Reaches s.memory x.root x.height) (sym is) reach)))
      d i deep wide

  -- the new blocks may replace those of the path
  fresh : Fresh s.memory r.root r.height rep.new s.group k
  fresh = record {
    group = (sound.shape.group.0, (let high = sound.shape.group.1 in omega arith));
    small = λ d new. (let low = (rep.free d new).0 in let high = sound.shape.size.1 in omega arith);
    apart = rep.apart;
    new = λ d new. unreached n r d found new;
  }

  module _ (position : p < fan ^ r.height) (deep : k ≤ suc r.height)
      (only : (d : ℕ) → k ≤ d → d < r.height → OnlyChild s.memory (path_of s r p d) (digit r.height p d)) where
    -- the new tree has the new pointers on the path, and the old ones elsewhere
    tree_new : (d i : ℕ) → d ≤ r.height → i < fan ^ d
        → at t.memory row.root d i ≡ cond (eqb i (index_at r.height p d)) (new_at rep.new s.group k d) (at s.memory r.root d i)
    tree_new = reroute s.memory t.memory r.root r.height p rep.new s.group k bytes position deep
        (λ b reach. row_inside s n r b sound found reach) fresh only rep.memory

    new_on : (d i : ℕ) → d ≤ r.height → i < fan ^ d → i ≡ index_at r.height p d → at t.memory row.root d i ≡ new_at rep.new s.group k d
    new_on d i low wide on = tree_new d i low wide ∙ cond-true _ _ _ (eq-eqb _ _ on)

    new_off : (d i : ℕ) → d ≤ r.height → i < fan ^ d → (i ≡ index_at r.height p d → ⊥) → at t.memory row.root d i ≡ at s.memory r.root d i
    new_off d i low wide off = tree_new d i low wide ∙ cond-false _ _ _ (ne_eqb _ _ off)

    -- the new pointers stand on the path
    pub places_made : (d : ℕ) → d < k → Has t n d (index_at r.height p d) (new_pointer s rep.new d)
    places_made d new =
        let low : d ≤ r.height = omega arith in
        let wide = index_wide r.height p d position low in
        record {
          row = row;
          found = row_here;
          holds = record {
            deep = low;
            wide = wide;
            here = new_on d (index_at r.height p d) low wide refl ∙ new_some rep.new s.group k d new;
          };
        }

    -- beside the path the places are kept
    pub places_kept : (m d i : ℕ) (q : Pointer) → Has s m d i q → (On n r p m d i → ⊥) → Has t m d i q
    places_kept m d i q has off = go (before_cases m has.row has.found)
      where
        go : ((m ≡ n) × (has.row ≡ r)) ⊎ ((m ≡ n → ⊥) × Dataset t m has.row) → Has t m d i q
        go (inl (e, is)) =
            let holds : Holds s.memory r.root r.height d i q = subst (λ x. Holds s.memory x.root x.height d i q) is has.holds in
            record {
              row = row;
              found = subst (λ j. Dataset t j row) (sym e) row_here;
              holds = record {
                deep = holds.deep;
                wide = holds.wide;
                here = new_off d i holds.deep holds.wide (λ on. off (e, on)) ∙ holds.here;
              };
            }
        go (inr (_, new)) =
            record {
              row = has.row;
              found = new;
              holds = record {
                deep = has.holds.deep;
                wide = has.holds.wide;
                here = tree_same m has.row d i has.found has.holds.deep has.holds.wide ∙ has.holds.here;
              };
            }

    -- and there are no others
    pub places_after : (m d i : ℕ) (q : Pointer) → Has t m d i q → NewOrOld m d i q
    places_after m d i q has = go (after_cases m has.row has.found)
      where
        -- on the path the pointer is new
        on : m ≡ n → i ≡ index_at r.height p d → new_at rep.new s.group k d ≡ Some q → (d < k) ⊎ (k ≤ d) → NewOrOld m d i q
        on e is here (inl new) =
            let made : Some (new_pointer s rep.new d) ≡ Some q = sym (new_some rep.new s.group k d new) ∙ here in
            inl ((e, is), new, cc)
        on e is here (inr below) = absurd (some_none _ q here (new_none rep.new s.group k d below))

        -- the head, on the path or beside it
        head : m ≡ n → Holds t.memory row.root row.height d i q → (i ≡ index_at r.height p d) ⊎ (i ≡ index_at r.height p d → ⊥) → NewOrOld m d i q
        head e holds (inl is) =
            on e is (sym (new_on d i holds.deep holds.wide is) ∙ holds.here) (cases_lt d k)
        head e holds (inr off) =
            inr (
              record {
                row = r;
                found = subst (λ j. Dataset s j r) (sym e) found;
                holds = record {
                  deep = holds.deep;
                  wide = holds.wide;
                  here = sym (new_off d i holds.deep holds.wide off) ∙ holds.here;
                };
              },
              λ x. off x.1,
            )

        go : ((m ≡ n) × (has.row ≡ row)) ⊎ ((m ≡ n → ⊥) × Dataset s m has.row) → NewOrOld m d i q
        go (inl (e, is)) = head e (subst (λ x. Holds t.memory x.root x.height d i q) is has.holds) (cases_eq i (index_at r.height p d))
        go (inr (other, old)) =
            inr (
              record {
                row = has.row;
                found = old;
                holds = record {
                  deep = has.holds.deep;
                  wide = has.holds.wide;
                  here = sym (tree_same m has.row d i old has.holds.deep has.holds.wide) ∙ has.holds.here;
                };
              },
              λ x. other x.0,
            )

-- the datasets of t have the places of those of s, but for the replaced path
pub moved : (s t : State) (n : ℕ) (r : Row) (p k : ℕ) (bytes : List ℕ) → Sound s → Dataset s n r → (o : Option ℕ) → r.kind ≡ Head o → p < fan ^ r.height
    → k ≤ suc r.height
    → ((d : ℕ) → k ≤ d → d < r.height → OnlyChild s.memory (path_of s r p d) (digit r.height p d))
    → (0 < k → k ≤ r.height → OtherChild s.memory (path_of s r p (k - 1)) (digit r.height p (k - 1)))
    → (rep : Replaced s t n r p k bytes) → Moved s t n r p k rep.new
moved s t n r p k bytes sound found o head position deep only beside rep = record {
  found = found;
  origin = o;
  head = head;
  position = position;
  deep = deep;
  free = rep.free;
  apart = rep.apart;
  beside = beside;
  group = rep.group;
  size = rep.size;
  row_after = rows_after s t n r p k bytes sound found rep;
  row_before = rows_before s t n r p k bytes sound found rep;
  row_same = rows_same s t n r p k bytes sound found rep;
  row_new = row_here s t n r p k bytes sound found rep;
  base_same = bases_same s t n r p k bytes sound found rep;
  after = places_after s t n r p k bytes sound found rep position deep only;
  kept = places_kept s t n r p k bytes sound found rep position deep only;
  made = places_made s t n r p k bytes sound found rep position deep only;
}
