-- The rows after a snapshot was taken: the snapshot has the head's row but for its kind, and the head has the snapshot as
-- previous. The shape and the families of a pool stay sound.
--     with_snapshot    the state after
--     after_cases      each dataset after is the snapshot, the head, or one that was there
--     before_cases     each dataset of before is the head, or keeps its row
--     no_more_dead     there are no more dead records than before
--     shape, family    the two parts of soundness that speak of rows
use Rattle.std.proofs.Common.{◌≡◌, ℕ, ◌+◌, ◌<◌, ◌≤◌, cond, eqb, ltb, ◌⊎◌, List, length, Some, None, Option, sym, refl, ap, ◌∙◌, subst, inl, inr, arith}
use Rattle.std.proofs.lemmas.Bool.{cases_eq, cond-true, cond-false, eq-eqb, ne_eqb}
use Rattle.ordered.specs.Tables.{with_record, replaced}
use Rattle.ordered.proofs.Additions.{no_index_of, length_with}
use Rattle.ordered.proofs.Edits.{ascending_with}
use Rattle.records.specs.Keys.{number_of, dead_key, dead_below}
use Rattle.records.specs.declared.dead.DeadRecord.{DeadRecord}
use Rattle.records.specs.declared.rows.Kind.{Kind}
use Rattle.records.specs.declared.rows.Kind.TheVariants.{Head, Snapshot as OfSnapshot}
use Rattle.records.specs.declared.rows.Pointer.{Pointer}
use Rattle.records.specs.declared.rows.Row.{Row}
use Rattle.model.specs.Datasets.{State, Dataset, Unused, IsHead, kind_stamp, dead_of}
use Rattle.model.specs.Limits.{IsDatasetNumber, Height}
use Rattle.model.specs.Questions.{questions, AllYes}
use Rattle.model.specs.Soundness.{Shape, Family, Sound}
use Rattle.model.specs.Steps.{HandedOver, DeadAfter, altered, snapshot_row, with_previous}
use Rattle.model.specs.declared.Call.TheVariants.{Snapshot}
use Rattle.model.proofs.Ancestors.{not_both}
use Rattle.model.proofs.Burials.{dead_one, dead_chain}
use Rattle.model.proofs.Fewer.{Finds, no_more}
use Rattle.model.proofs.Readings.{head_kind}
use Rattle.model.proofs.Rows.{chain, one, some_none, row_of, row_number, same_row, replaced_here, replaced_other, length_replaced, order_replaced, added_here, added_other, at_number}

-- the state s with a snapshot m of the head that has the row r, and with these dead records
abbrev pub with_snapshot : State → ℕ → Row → List DeadRecord → State
with_snapshot s m r dead =
    altered s (with_record number_of ltb (replaced number_of ltb s.rows (with_previous r (Some m) 0)) (snapshot_row m r s.group)) dead (s.group + 1) s.owns

-- a dataset may have births up to a stamp that no later group lowers
pub later_stamp : (g : ℕ) (k : Kind) → kind_stamp g k ≤ kind_stamp (g + 1) k
later_stamp g (Head o) = omega arith
later_stamp g (OfSnapshot u) = omega arith

module _ (s : State) (n m : ℕ) (r : Row) (dead : List DeadRecord) (sound : Sound s) (found : Dataset s n r) (asked : AllYes (questions s (Snapshot n m))) where
  -- the row of the snapshot, that of the head, and the state with them
  abbrev copy : Row
  copy = snapshot_row m r s.group

  abbrev live : Row
  live = with_previous r (Some m) 0

  abbrev exchanged : List Row
  exchanged = replaced number_of ltb s.rows live

  abbrev t : State
  t = with_snapshot s m r dead

  -- n is a head, and m is unused
  abbrev origin : Option ℕ
  origin = asked.1.1.1.0.0

  pub head : r.kind ≡ Head origin
  head = head_kind s n r origin found asked.1.1.1.0.1

  pub head_stamp : (g : ℕ) → kind_stamp g r.kind ≡ g
  head_stamp g = ap (kind_stamp g) head

  unused : Unused s m
  unused = asked.1.1.1.1.0

  pub old_other : (k : ℕ) (x : Row) → Dataset s k x → k ≡ m → ⊥
  old_other k x there e = some_none _ x there (ap (row_of s.rows) e ∙ unused)

  -- m and n have their new rows, and all others have theirs
  number : r.number ≡ n
  number = row_number s.rows n r found

  still_unused : row_of exchanged m ≡ None
  still_unused = replaced_other s.rows live m (λ e. old_other n r found (sym (e ∙ number))) ∙ unused

  pub copy_here : Dataset t m copy
  copy_here = added_here exchanged copy m refl still_unused

  pub live_here : Dataset t n live
  live_here = added_other exchanged copy n still_unused (old_other n r found) ∙ replaced_here s.rows live r n number found

  others : (k : ℕ) → (k ≡ m → ⊥) → (k ≡ n → ⊥) → row_of t.rows k ≡ row_of s.rows k
  others k far away = added_other exchanged copy k still_unused far ∙ replaced_other s.rows live k (λ e. away (e ∙ number))

  pub row_kept : (k : ℕ) (x : Row) → Dataset s k x → (k ≡ n → ⊥) → Dataset t k x
  row_kept k x there away = others k (old_other k x there) away ∙ there

  -- what holds of the snapshot, of the head, and of all other datasets that were there, holds of all
  pub after_cases : (P : ℕ → Row → Type 0) → P m copy → P n live → ((k : ℕ) (x : Row) → Dataset s k x → (k ≡ n → ⊥) → P k x)
      → (k : ℕ) (x : Row) → Dataset t k x → P k x
  after_cases P at_m at_n at_old k x there = go (cases_eq k m) (cases_eq k n)
    where
      go : (k ≡ m) ⊎ (k ≡ m → ⊥) → (k ≡ n) ⊎ (k ≡ n → ⊥) → P k x
      go (inl e) _ = at_number t.rows P m copy copy_here at_m k x there e
      go (inr _) (inl e) = at_number t.rows P n live live_here at_n k x there e
      go (inr far) (inr away) = at_old k x (sym (others k far away) ∙ there) away

  -- what holds of the head as it was, and of all datasets that keep their row, holds of all that were there
  pub before_cases : (P : ℕ → Row → Type 0) → P n r → ((k : ℕ) (x : Row) → Dataset s k x → Dataset t k x → P k x)
      → (k : ℕ) (x : Row) → Dataset s k x → P k x
  before_cases P at_n at_old k x there = go (cases_eq k n)
    where
      go : (k ≡ n) ⊎ (k ≡ n → ⊥) → P k x
      go (inl e) = at_number s.rows P n r found at_n k x there e
      go (inr away) = at_old k x there (row_kept k x there away)

  -- a snapshot that was there keeps its row
  pub snapshot_kept : (k u : ℕ) (x : Row) → Dataset s k x → x.kind ≡ OfSnapshot u → Dataset t k x
  snapshot_kept k u x there =
      before_cases (λ k x. x.kind ≡ OfSnapshot u → Dataset t k x) (λ is. absurd (not_both r.kind origin u head is)) (λ k x _ now _. now) k x there

  -- and so does a previous
  previous_row : (k j : ℕ) (x z : Row) → Dataset s k x → x.previous ≡ Some j → Dataset t j z → Dataset s j z
  previous_row k j x z there is beside =
      let up = sound.family.previous k j x there is in
      subst (Dataset s j) (same_row t.rows j up.0 z (snapshot_kept j up.1 up.0 up.2 up.3) beside) up.2

  -- which m was not
  not_previous : (k : ℕ) (x : Row) → Dataset s k x → x.previous ≡ Some m → ⊥
  not_previous k x there is = let up = sound.family.previous k m x there is in old_other m up.0 up.2 refl

  -- heads are the heads of before
  head_kept : (k : ℕ) (o : Option ℕ) → IsHead s k o → IsHead t k o
  head_kept k o (x, there, is) =
      before_cases (λ k x. x.kind ≡ Head o → IsHead t k o) (λ is. (live, live_here, is)) (λ k x _ now is. (x, now, is)) k x there is

  head_old : (k : ℕ) (o : Option ℕ) → IsHead t k o → IsHead s k o
  head_old k o (x, there, is) =
      after_cases (λ k x. x.kind ≡ Head o → IsHead s k o) (λ is. absurd (not_both copy.kind o s.group is refl)) (λ is. (r, found, is))
      (λ k x old _ is. (x, old, is)) k x there is

  -- there are no more dead records than before: each is one of before, for n or now for m
  pub no_more_dead : DeadAfter t (HandedOver s n m) → length dead ≤ length s.dead
  no_more_dead after = no_more dead_key dead_below dead_one dead_chain moved dead s.dead after.ordered sound.shape.dead_ordered
      (λ x is. (let q : Pointer = record { block = x.block; birth = x.birth } in came x.dataset q ((after.members x.dataset q).0 is)))
    where
      moved : DeadRecord → DeadRecord
      moved x = record { dataset = cond (eqb x.dataset n) m x.dataset; birth = x.birth; block = x.block }

      came : (k : ℕ) (q : Pointer) → HandedOver s n m k q → (x : DeadRecord) × Finds dead_key dead_below s.dead x × (moved x ≡ dead_of k q)
      came k q (inl (e, was)) = (dead_of n q, was, ap (λ (l : ℕ). dead_of l q) (cond-true (eqb n n) m n (eq-eqb n n refl) ∙ sym e))
      came k q (inr (_, away, was)) = (dead_of k q, was, ap (λ (l : ℕ). dead_of l q) (cond-false (eqb k n) m k (ne_eqb k n away)))

  -- the shape of the pool, where its dead table is m's and the others'
  pub shape : DeadAfter t (HandedOver s n m) → Shape t
  shape after = record {
    size = sound.shape.size;
    memory = sound.shape.memory;
    row_room = sound.shape.row_room;
    dead_room = sound.shape.dead_room;
    rows_fit = omega (arith, length_with number_of ltb exchanged copy, length_replaced s.rows live, asked.1.1.1.1.1.0);
    dead_fit = omega (arith, no_more_dead after, sound.shape.dead_fit);
    ordered =
        ascending_with number_of ltb one chain exchanged copy (no_index_of number_of ltb exchanged m still_unused) (order_replaced s.rows live sound.shape.ordered);
    dead_ordered = after.ordered;
    numbers = after_cases (λ k x. IsDatasetNumber k) asked.1.0 asked.0 (λ k x old _. sound.shape.numbers k x old);
    heights =
        after_cases (λ k x. Height x.height) (sound.shape.heights n r found) (sound.shape.heights n r found) (λ k x old _. sound.shape.heights k x old);
    group = (omega arith, omega (arith, asked.1.1.1.1.1.1.0));
    stamps = λ k u (x, there, is).
        after_cases (λ k x. x.kind ≡ OfSnapshot u → (1 ≤ u) × (u < s.group + 1)) (λ is. own u is) (λ is. absurd (not_both r.kind origin u head is))
        (λ k x old _ is. (let low = sound.shape.stamps k u (x, old, is) in (low.0, omega (arith, low.1)))) k x there is;
    below = sound.shape.below;
  }
    where
      own : (u : ℕ) → OfSnapshot s.group ≡ OfSnapshot u → (1 ≤ u) × (u < s.group + 1)
      own u is = let e : s.group ≡ u = cc in (omega (arith, sound.shape.group), omega arith)

  -- the families
  pub family : Family t
  family = record {
    head = λ k o. after_cases (λ k x. x.kind ≡ Head o → x.owner ≡ k) (λ is. absurd (not_both copy.kind o s.group is refl))
        (λ is. sound.family.head n o r found is) (λ k x old _ is. sound.family.head k o x old is) k;
    owner = after_cases (λ k x. (o : Option ℕ) × IsHead t x.owner o) (owner n r found) (owner n r found) (λ k x old _. owner k x old);
    origin = λ k j is.
        (let up = sound.family.origin k j (head_old k (Some j) is) in (up.0, (up.1.0, snapshot_kept j up.0 up.1.0 up.1.1 up.1.2, up.1.2)));
    previous = λ k j. after_cases (λ k x. x.previous ≡ Some j → IsPrevious j x) (previous_copy j) (previous_live j) (λ k x old _ is. previous_old k j x old is) k;
    within = λ k j x z there beside. after_cases (λ k x. x.previous ≡ Some j → (o : Option ℕ) → IsHead t x.owner o → IsWithin j o z x)
        (within n j r z found beside) (within_live j z beside) (λ k x old _. within k j x z old beside) k x there;
    first = after_cases (λ k x. x.previous ≡ None → IsHead t x.owner None) (first n r found) (λ is. absurd (some_none _ m refl is)) (λ k x old _. first k x old);
    alone = λ k j x z there beside.
        after_cases (λ k x. Alone k x j z) (alone_copy j z beside) (alone_live j z beside) (λ k x old away. alone_old k x old away j z beside) k x there;
    next = λ k u. after_cases (λ k x. x.kind ≡ OfSnapshot u → HasNext k x) (λ is. (n, live, live_here, refl, refl))
        (λ is. absurd (not_both r.kind origin u head is)) (λ k x old _. next k u x old) k;
  }
    where
      owner : (k : ℕ) (x : Row) → Dataset s k x → (o : Option ℕ) × IsHead t x.owner o
      owner k x old = let up = sound.family.owner k x old in (up.0, head_kept x.owner up.0 up.1)

      IsPrevious : ℕ → Row → Type 0
      IsPrevious j x = (z : Row) × (u : ℕ) × Dataset t j z × (z.kind ≡ OfSnapshot u) × (z.height ≡ x.height) × (u < kind_stamp (s.group + 1) x.kind)

      previous_old : (k j : ℕ) (x : Row) → Dataset s k x → x.previous ≡ Some j → IsPrevious j x
      previous_old k j x old is =
          let up = sound.family.previous k j x old is in
          (up.0, up.1, snapshot_kept j up.1 up.0 up.2 up.3, up.3, up.4, omega (arith, up.5, later_stamp s.group x.kind))

      previous_copy : (j : ℕ) → r.previous ≡ Some j → IsPrevious j copy
      previous_copy j is =
          let up = sound.family.previous n j r found is in
          (up.0, up.1, snapshot_kept j up.1 up.0 up.2 up.3, up.3, up.4, omega (arith, up.5, head_stamp s.group))

      previous_live : (j : ℕ) → Some m ≡ Some j → IsPrevious j live
      previous_live j is =
          let e : m ≡ j = cc in
          (copy, s.group, subst (λ i. Dataset t i copy) e copy_here, refl, refl, omega (arith, head_stamp (s.group + 1)))

      IsWithin : ℕ → Option ℕ → Row → Row → Type 0
      IsWithin j o z x = ((z.owner ≡ x.owner) × (o ≡ Some j → ⊥)) ⊎ ((z.owner ≡ x.owner → ⊥) × (o ≡ Some j))

      within : (k j : ℕ) (x z : Row) → Dataset s k x → Dataset t j z → x.previous ≡ Some j → (o : Option ℕ) → IsHead t x.owner o → IsWithin j o z x
      within k j x z old beside is o own = sound.family.within k j x z old (previous_row k j x z old is beside) is o (head_old x.owner o own)

      within_live : (j : ℕ) (z : Row) → Dataset t j z → Some m ≡ Some j → (o : Option ℕ) → IsHead t r.owner o → IsWithin j o z live
      within_live j z beside is o own =
          let e : j ≡ m = cc in
          inl (
            at_number t.rows (λ _ z. z.owner ≡ r.owner) m copy copy_here refl j z beside e,
            λ from.
                (let up = sound.family.origin r.owner j (head_old r.owner (Some j) (subst (IsHead t r.owner) from own)) in
                old_other j up.1.0 up.1.1 e),
          )

      first : (k : ℕ) (x : Row) → Dataset s k x → x.previous ≡ None → IsHead t x.owner None
      first k x old is = head_kept x.owner None (sound.family.first k x old is)

      Alone : ℕ → Row → ℕ → Row → Type 0
      Alone k x j z = x.owner ≡ z.owner → x.previous ≡ z.previous → k ≡ j

      alone_copy : (j : ℕ) (z : Row) → Dataset t j z → Alone m copy j z
      alone_copy = after_cases (Alone m copy) (λ _ _. refl) (λ _ e. absurd (not_previous n r found e))
          (λ j z old away owners e. absurd (away (sym (sound.family.alone n j r z found old owners e))))

      alone_live : (j : ℕ) (z : Row) → Dataset t j z → Alone n live j z
      alone_live = after_cases (Alone n live) (λ _ e. absurd (not_previous n r found (sym e))) (λ _ _. refl)
          (λ j z old _ _ e. absurd (not_previous j z old (sym e)))

      alone_old : (k : ℕ) (x : Row) → Dataset s k x → (k ≡ n → ⊥) → (j : ℕ) (z : Row) → Dataset t j z → Alone k x j z
      alone_old k x was away = after_cases (Alone k x) (λ owners e. absurd (away (sound.family.alone k n x r was found owners e)))
          (λ _ e. absurd (not_previous k x was e)) (λ j z old _. sound.family.alone k j x z was old)

      HasNext : ℕ → Row → Type 0
      HasNext k x = (j : ℕ) × (z : Row) × Dataset t j z × (z.previous ≡ Some k) × (z.owner ≡ x.owner)

      next : (k u : ℕ) (x : Row) → Dataset s k x → x.kind ≡ OfSnapshot u → HasNext k x
      next k u x old is =
          let up = sound.family.next k u x old is in
          before_cases (λ j z. z.previous ≡ Some k → z.owner ≡ x.owner → HasNext k x) (λ before own. (m, copy, copy_here, before, own))
          (λ j z _ now before own. (j, z, now, before, own)) up.0 up.1 up.2 up.3 up.4
