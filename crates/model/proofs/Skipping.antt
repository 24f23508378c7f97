-- Destroying a snapshot skips it: its row goes, and its next has its previous.
use Rattle.std.proofs.Common.{◌≡◌, ℕ, ◌+◌, ◌-◌, ◌<◌, ◌≤◌, ltb, ◌⊎◌, List, Some, None, Option, sym, refl, ap, ◌∙◌, subst, inl, inr, arith}
use Rattle.std.proofs.lemmas.Bool.{cases_eq}
use Rattle.records.specs.Keys.{number_of}
use Rattle.records.specs.declared.rows.Pointer.{Pointer}
use Rattle.records.specs.declared.rows.Row.{Row}
use Rattle.tree.specs.Trees.{Holds}
use Rattle.ordered.specs.Tables.{without_key}
use Rattle.model.specs.Datasets.{State, Dataset, Previous, kind_stamp, row_stamp, stamp, base, Has}
use Rattle.model.specs.Families.{IsClone}
use Rattle.model.specs.Soundness.{Sound}
use Rattle.model.specs.Steps.{SnapshotDestroyed, with_previous, given}
use Rattle.model.proofs.Ancestors.{same_row, base_some, base_below, previous_other}
use Rattle.model.proofs.Rows.{some_none, row_of, row_number, replaced_here, replaced_other, removed_here, removed_other}
use Rattle.model.proofs.Shares.{next_row, next_only}
use Rattle.model.proofs.Skips.{Alike, Source, Skipped}

-- a row is like itself with another previous and count
like : (z : Row) (o : Option ℕ) (b : ℕ) → Alike z (with_previous z o b)
like z o b = record { height = refl; root = refl; owner = refl; kind = refl }

-- a tree has its places in the same memory
moved : (a b : List ℕ) (y z : Row) (d i : ℕ) (q : Pointer) → a ≡ b → y.root ≡ z.root → y.height ≡ z.height → Holds a y.root y.height d i q → Holds b z.root z.height d i q
moved a b y z d i q memory root height holds = rw (memory, root, height) at holds

module _ (s t : State) (n : ℕ) (r : Row) (sound : Sound s) (here : Dataset s n r) (clones : (k : ℕ) → IsClone s n k → ⊥) (gone : SnapshotDestroyed s t n r) where
  abbrev m : ℕ
  m = gone.next

  abbrev x : Row
  x = gone.row

  abbrev c : ℕ
  c = x.born + r.born - given s t

  abbrev now : Row
  now = with_previous x r.previous c

  abbrev fewer : List Row
  fewer = without_key number_of ltb s.rows n

  -- the next has the snapshot as previous, and its owner
  pub next : (x.previous ≡ Some n) × (x.owner ≡ r.owner)
  next =
      let (y, there, previous, owner) = next_row s n m r sound here gone.is_next in
      let same : y ≡ x = same_row y x there gone.found in
      (subst (λ (z : Row). z.previous ≡ Some n) same previous, subst (λ (z : Row). z.owner ≡ r.owner) same owner)

  -- three datasets, of which nobody else has the snapshot as previous
  apart : m ≡ n → ⊥
  apart e = previous_other s sound m n (x, gone.found, next.0) (sym e)

  up : (l : ℕ) → r.previous ≡ Some l → l ≡ n → ⊥
  up l e = previous_other s sound n l (r, here, e)

  pub alone : (k : ℕ) → Previous s k n → k ≡ m
  alone = next_only s n m r sound here gone.is_next clones

  far : (k : ℕ) (y : Row) → (k ≡ m → ⊥) → Dataset s k y → (l : ℕ) → y.previous ≡ Some l → l ≡ n → ⊥
  far k y past there l e is = past (alone k (y, there, e ∙ ap (λ (j : ℕ). Some j) is))

  -- the snapshot is older than its next
  ages : (kind_stamp s.group r.kind < kind_stamp s.group x.kind) × (base s x ≡ kind_stamp s.group r.kind) × (r.height ≡ x.height)
  ages =
      let (y, g, there, kind, height, less) = sound.family.previous m n x gone.found next.0 in
      let same : y ≡ r = same_row y r there here in
      let stamp : kind_stamp s.group r.kind ≡ g = ap (λ (z : Row). kind_stamp s.group z.kind) (sym same) ∙ ap (kind_stamp s.group) kind in
      (omega arith, base_some s x y n g next.0 there kind ∙ sym stamp, ap (λ (z : Row). z.height) (sym same) ∙ height)

  -- the rows of t
  number : now.number ≡ m
  number = row_number s.rows m x gone.found

  pub row_gone : row_of t.rows n ≡ None
  row_gone =
      ap (λ (z : State). row_of z.rows n) gone.rest
      ∙ replaced_other fewer now n (λ e. apart (sym (e ∙ number))) ∙ removed_here s.rows n sound.shape.ordered

  pub row_now : Dataset t m now
  row_now =
      ap (λ (z : State). row_of z.rows m) gone.rest
      ∙ replaced_here fewer now x m number (removed_other s.rows n m sound.shape.ordered apart ∙ gone.found)

  pub row_other : (k : ℕ) → (k ≡ n → ⊥) → (k ≡ m → ⊥) → row_of t.rows k ≡ row_of s.rows k
  row_other k far past =
      ap (λ (z : State). row_of z.rows k) gone.rest
      ∙ replaced_other fewer now k (λ e. past (e ∙ number)) ∙ removed_other s.rows n k sound.shape.ordered far

  not_gone : (k : ℕ) (y : Row) → Dataset t k y → k ≡ n → ⊥
  not_gone k y there e = some_none _ y there (ap (row_of t.rows) e ∙ row_gone)

  -- a dataset of t is the next with its new row, or another with the row that it had
  row_cases : (k : ℕ) (y : Row) → Dataset t k y → ((k ≡ m) × (y ≡ now)) ⊎ ((k ≡ m → ⊥) × Dataset s k y)
  row_cases k y there = go (cases_eq k m)
    where
      go : (k ≡ m) ⊎ (k ≡ m → ⊥) → ((k ≡ m) × (y ≡ now)) ⊎ ((k ≡ m → ⊥) × Dataset s k y)
      go (inl e) = inl (e, same_row y now (subst (λ (j : ℕ). Dataset t j y) e there) row_now)
      go (inr past) = inr (past, sym (row_other k (not_gone k y there) past) ∙ there)

  -- the row that the next had
  at_next : {k : ℕ} {y : Row} → k ≡ m → Dataset s m y → Dataset s k y
  at_next {k} {y} e = subst (λ (j : ℕ). Dataset s j y) (sym e)

  -- each dataset of t had a row like its own, and each but the snapshot still has
  row_after : (k : ℕ) (y : Row) → Dataset t k y → (z : Row) × Dataset s k z × Alike z y
  row_after k y there = go (row_cases k y there)
    where
      go : ((k ≡ m) × (y ≡ now)) ⊎ ((k ≡ m → ⊥) × Dataset s k y) → (z : Row) × Dataset s k z × Alike z y
      go (inl (e, is)) = (x, at_next e gone.found, subst (Alike x) (sym is) (like x r.previous c))
      go (inr (_, old)) = (y, old, like y y.previous y.born)

  row_before : (k : ℕ) (z : Row) → (k ≡ n → ⊥) → Dataset s k z → (y : Row) × Dataset t k y × Alike z y
  row_before k z far there = go (cases_eq k m)
    where
      go : (k ≡ m) ⊎ (k ≡ m → ⊥) → (y : Row) × Dataset t k y × Alike z y
      go (inl e) =
          let is : x ≡ z = same_row x z (at_next e gone.found) there in
          (now, subst (λ (j : ℕ). Dataset t j now) (sym e) row_now, subst (λ (w : Row). Alike w now) is (like x r.previous c))
      go (inr past) = (z, row_other k far past ∙ there, like z z.previous z.born)

  -- the stamps of the others are as before
  group : t.group ≡ s.group
  group = ap (λ (z : State). z.group) gone.rest

  stamp_same : (o : Option ℕ) → ((l : ℕ) → o ≡ Some l → l ≡ n → ⊥) → stamp t o ≡ stamp s o
  stamp_same None far = refl
  stamp_same (Some l) far = go (cases_eq l m)
    where
      go : (l ≡ m) ⊎ (l ≡ m → ⊥) → stamp t (Some l) ≡ stamp s (Some l)
      go (inl e) =
          ap (λ (j : ℕ). row_stamp t.group (row_of t.rows j)) e ∙ ap (row_stamp t.group) row_now ∙ ap (λ (g : ℕ). kind_stamp g x.kind) group
          ∙ sym (ap (row_stamp s.group) (at_next e gone.found))
      go (inr past) = ap (row_stamp t.group) (row_other l (far l refl) past) ∙ ap (λ (g : ℕ). row_stamp g (row_of s.rows l)) group

  base_same : (y z : Row) → z.previous ≡ y.previous → ((l : ℕ) → y.previous ≡ Some l → l ≡ n → ⊥) → base t y ≡ base s z
  unfolding base
  base_same y z e far = stamp_same y.previous far ∙ ap (stamp s) (sym e)

  -- the next's previous now has the stamp that the snapshot's had, which is older
  base_now : base t now ≡ base s r
  base_now = base_same now r refl up

  older : base s r < base s x
  older = omega (arith, base_below s sound n r here, ages.1)

  -- what the next has no younger than the snapshot, the snapshot has
  shared : (d i : ℕ) (q : Pointer) → Has s m d i q → q.birth ≤ base s x → Has s n d i q
  shared d i q has old =
      let (l, previous, there) = sound.birth_law m d i x q gone.found has old in
      let is : Some l ≡ Some n = sym previous ∙ next.0 in
      let same : l ≡ n = cc in
      subst (λ (j : ℕ). Has s j d i q) same there

  -- whose previous each dataset has
  source : (k : ℕ) (y : Row) → Dataset t k y → Source s t n m k y
  source k y there = go (row_cases k y there)
    where
      go : ((k ≡ m) × (y ≡ now)) ⊎ ((k ≡ m → ⊥) × Dataset s k y) → Source s t n m k y
      go (inl (e, is)) = subst (Source s t n m k) (sym is) (record {
        dataset = n;
        row = r;
        found = here;
        which = inl (e, refl);
        previous = refl;
        height = ages.2;
        owner = sym next.1;
        no_younger = omega (arith, ages.0);
        base_same = base_now;
        other = up;
        has = λ d i q has old. shared d i q (subst (λ (j : ℕ). Has s j d i q) e has) (omega (arith, base_now, older));
      })
      go (inr (past, old)) = record {
        dataset = k;
        row = y;
        found = old;
        which = inr (past, refl);
        previous = refl;
        height = refl;
        owner = refl;
        no_younger = omega arith;
        base_same = base_same y y refl (far k y past old);
        other = far k y past old;
        has = λ d i q has _. has;
      }

  -- the places of the others are as before
  memory : t.memory ≡ s.memory
  memory = ap (λ (z : State). z.memory) gone.rest

  after : (k d i : ℕ) (q : Pointer) → Has t k d i q → Has s k d i q
  after k d i q has =
      let (z, found, alike) = row_after k has.row has.found in
      record { row = z; found = found; holds = moved t.memory s.memory has.row z d i q memory alike.root alike.height has.holds }

  kept : (k d i : ℕ) (q : Pointer) → (k ≡ n → ⊥) → Has s k d i q → Has t k d i q
  kept k d i q far has =
      let (y, there, alike) = row_before k has.row far has.found in
      record { row = y; found = there; holds = moved s.memory t.memory has.row y d i q (sym memory) (sym alike.root) (sym alike.height) has.holds }

  -- destroying a snapshot skips it
  pub skipped : Skipped s t n m r x c
  skipped = record {
    found = here;
    next = gone.found;
    previous = next.0;
    owner = next.1;
    alone = alone;
    apart = apart;
    memory = memory;
    group = group;
    size = ap (λ (z : State). z.size) gone.rest;
    now = row_now;
    row_same = λ k y past there. sym (row_other k (not_gone k y there) past) ∙ there;
    row_kept = λ k y far past there. row_other k far past ∙ there;
    row_after = λ k y there. (not_gone k y there, row_after k y there);
    row_before = row_before;
    source = source;
    after = λ k d i q has. (not_gone k has.row has.found, after k d i q has);
    kept = kept;
    older = older;
    base_kept = λ k y past there. base_same y y refl (far k y past there);
    base_now = base_now;
    shared = shared;
  }
