-- File systems by the owner of a row and by the walk from the head, and what they use.
--     belongs_owner    the datasets of the file system of head n have the owner n
--     owners_tell      and only they
--     base_falls       bases fall from previous to previous
--     used_young       what a file system uses is what is young in its datasets
--     used_total       so the counts of its rows add up to what it uses
use Rattle.std.proofs.Common.{◌≡◌, ℕ, zero, suc, ◌+◌, ◌<◌, ◌≤◌, Bool, ◌⊎◌, Some, None, Option, sym, refl, ap, ◌∙◌, subst, inl, inr, arith}
use Rattle.std.specs.List.{sum_by}
use Rattle.std.specs.Prelude.{◌≢◌, ◌==◌, ◌↔◌, nat_lt}
use Rattle.std.proofs.lemmas.Bool.{cases_lt, eqb-true, eq-eqb}
use Rattle.records.specs.Keys.{number_of}
use Rattle.records.specs.declared.rows.Kind.{Kind}
use Rattle.records.specs.declared.rows.Kind.TheVariants.{Head, Snapshot}
use Rattle.records.specs.declared.rows.Pointer.{Pointer}
use Rattle.records.specs.declared.rows.Row.{Row}
use Rattle.model.specs.Datasets.{State, Dataset, IsHead, Previous, kind_stamp, stamp, base, Has, Young}
use Rattle.model.specs.Families.{Met, nearest, farther, Belongs}
use Rattle.model.specs.Figures.{HowMany, Uses, UsedIs}
use Rattle.model.specs.Laws.{OwnersTell, UsedIsSum, system_rows}
use Rattle.model.specs.Soundness.{Sound}
use Rattle.model.proofs.Ancestors.{same_row, base_some, base_below}
use Rattle.model.proofs.Rows.{one}
use Rattle.model.proofs.Sums.{alike, one_count, Passes, sum_passing}

-- one step more at the end of a walk
met_more : (s : State) (o : Option ℕ) (n m k : ℕ) → Met s o n m → Previous s m k → o ≢ Some k → Met s o n k
met_more s o n m k (nearest previous other) last within = farther previous other (nearest last within)
met_more s o n m k (farther {m = j} previous other met) last within = farther previous other (met_more s o j m k met last within)

module _ (s : State) (sound : Sound s) (n : ℕ) (o : Option ℕ) (head : IsHead s n o) where
  -- a previous has the same owner, or is the origin
  pub side : (k j : ℕ) (r x : Row) → Dataset s k r → Dataset s j x → r.owner ≡ n → r.previous ≡ Some j
      → ((x.owner ≡ n) × (o ≢ Some j)) ⊎ ((x.owner ≢ n) × (o ≡ Some j))
  side k j r x here there own previous =
      subst (λ (i : ℕ). ((x.owner ≡ i) × (o ≢ Some j)) ⊎ ((x.owner ≢ i) × (o ≡ Some j))) own
      (sound.family.within k j r x here there previous o (subst (λ (i : ℕ). IsHead s i o) (sym own) head))

  -- a previous that is not the origin has the same owner
  previous_owner : (k j : ℕ) (r x : Row) → Dataset s k r → r.owner ≡ n → Previous s k j → o ≢ Some j → Dataset s j x → x.owner ≡ n
  previous_owner k j r x here own (y, found, previous) other there =
      go (side k j r x here there own (ap (λ (z : Row). z.previous) (same_row r y here found) ∙ previous))
    where
      go : ((x.owner ≡ n) × (o ≢ Some j)) ⊎ ((x.owner ≢ n) × (o ≡ Some j)) → x.owner ≡ n
      go (inl (is, _)) = is
      go (inr (_, is)) = absurd (other is)

  -- what is met from a dataset of the owner has the same owner
  met_owner : (k m : ℕ) (r x : Row) → Dataset s k r → r.owner ≡ n → Met s o k m → Dataset s m x → x.owner ≡ n
  met_owner k m r x here own (nearest previous other) there = previous_owner k m r x here own previous other there
  met_owner k m r x here own (farther {m = j} (y, found, previous) other met) there =
      let (z, _, below, _, _, _) = sound.family.previous k j y found previous in
      met_owner j m z x below (previous_owner k j r z here own (y, found, previous) other below) met there

  -- every row of the owner is the head's, or its dataset is met from the head
  owner_met : (g m : ℕ) (r : Row) → s.group < kind_stamp s.group r.kind + g → Dataset s m r → r.owner ≡ n → (m ≡ n) ⊎ Met s o n m
  owner_met zero m r less here own = absurd (never r.kind refl)
    where
      never : (k : Kind) → r.kind ≡ k → ⊥
      never (Head p) kind = omega (arith, ap (kind_stamp s.group) kind)
      never (Snapshot t) kind = omega (arith, ap (kind_stamp s.group) kind, sound.shape.stamps m t (r, here, kind))
  owner_met (suc g) m r less here own = go (owner_met g) r.kind refl
    where
      go : ((j : ℕ) (x : Row) → s.group < kind_stamp s.group x.kind + g → Dataset s j x → x.owner ≡ n → (j ≡ n) ⊎ Met s o n j)
          → (k : Kind) → r.kind ≡ k → (m ≡ n) ⊎ Met s o n m
      go up (Head p) kind = inl (sym (sound.family.head m p r here kind) ∙ own)
      go up (Snapshot t) kind = end (up j x (omega (arith, less, y.5, stamp)) there (owner ∙ own))
        where
          next : (j : ℕ) × (x : Row) × Dataset s j x × (x.previous ≡ Some m) × (x.owner ≡ r.owner)
          next = sound.family.next m t r here kind

          j : ℕ
          j = next.0

          x : Row
          x = next.1

          there : Dataset s j x
          there = next.2

          previous : x.previous ≡ Some m
          previous = next.3

          owner : x.owner ≡ r.owner
          owner = next.4

          y : (z : Row) × (u : ℕ) × Dataset s m z × (z.kind ≡ Snapshot u) × (z.height ≡ x.height) × (u < kind_stamp s.group x.kind)
          y = sound.family.previous j m x there previous

          stamp : y.1 ≡ kind_stamp s.group r.kind
          stamp = sym (ap (kind_stamp s.group) y.3) ∙ ap (λ (z : Row). kind_stamp s.group z.kind) (same_row y.0 r y.2 here)

          within : o ≢ Some m
          within is = pick (side j m x r there here (owner ∙ own) previous)
            where
              pick : ((r.owner ≡ n) × (o ≢ Some m)) ⊎ ((r.owner ≢ n) × (o ≡ Some m)) → ⊥
              pick (inl (_, other)) = other is
              pick (inr (other, _)) = other own

          end : (j ≡ n) ⊎ Met s o n j → (m ≡ n) ⊎ Met s o n m
          end (inl is) = inr (nearest (x, subst (λ (i : ℕ). Dataset s i x) is there, previous) within)
          end (inr met) = inr (met_more s o n j m met (x, there, previous) within)

-- a dataset of the file system of head n has the owner n
pub belongs_owner : (s : State) (n m : ℕ) (r : Row) → Sound s → Dataset s m r → Belongs s n m → r.owner ≡ n
belongs_owner s n m r sound here (o, (x, there, kind), which) = go which
  where
    own : x.owner ≡ n
    own = sound.family.head n o x there kind

    go : (m ≡ n) ⊎ Met s o n m → r.owner ≡ n
    go (inl is) = ap (λ (z : Row). z.owner) (same_row r x here (subst (λ (i : ℕ). Dataset s i x) (sym is) there)) ∙ own
    go (inr met) = met_owner s sound n o (x, there, kind) n m x r there own met here

pub owners_tell : OwnersTell
owners_tell s n o sound head m r here = (
  (λ own. (o, head, owner_met s sound n o head (suc s.group) m r (omega arith) here own)),
  belongs_owner s n m r sound here,
)

-- the base of a row whose previous is named
base_is : (s : State) (r : Row) (o : Option ℕ) → r.previous ≡ o → base s r ≡ stamp s o
unfolding base
base_is s r o previous = ap (stamp s) previous

-- bases fall from previous to previous
pub base_falls : (s : State) (n m : ℕ) (r x : Row) → Sound s → Dataset s n r → r.previous ≡ Some m → Dataset s m x → base s x < base s r
base_falls s n m r x sound here previous there =
    let y = sound.family.previous n m r here previous in
    let kind : x.kind ≡ Snapshot y.1 = ap (λ (z : Row). z.kind) (same_row x y.0 there y.2) ∙ y.3 in
    omega (arith, base_below s sound m x there, ap (kind_stamp s.group) kind, base_some s r x m y.1 previous there kind)

-- block b is young in a dataset with the owner n
abbrev pub Top : State → ℕ → ℕ → Type 0
Top s n b = (m : ℕ) × (r : Row) × Dataset s m r × (r.owner ≡ n) × Young s m b

module _ (s : State) (sound : Sound s) (n : ℕ) (o : Option ℕ) (head : IsHead s n o) where
  -- head n has one origin
  pub one_origin : (p : Option ℕ) → IsHead s n p → p ≡ o
  one_origin p (r, here, kind) =
      let e : Head p ≡ Head o = sym kind ∙ ap (λ (z : Row). z.kind) (same_row r head.0 here head.1) ∙ head.2 in
      cc

  -- the datasets of the owner have their bases at the stamp of the origin or above
  based : (g k : ℕ) (r : Row) → base s r < g → Dataset s k r → r.owner ≡ n → stamp s o ≤ base s r
  based zero k r less here own = absurd (omega arith)
  based (suc g) k r less here own = go (based g) r.previous refl
    where
      go : ((j : ℕ) (x : Row) → base s x < g → Dataset s j x → x.owner ≡ n → stamp s o ≤ base s x) → (p : Option ℕ) → r.previous ≡ p → stamp s o ≤ base s r
      go up None previous =
          let is : None ≡ o = one_origin None (subst (λ (i : ℕ). IsHead s i None) own (sound.family.first k r here previous)) in
          omega (arith, ap (stamp s) is)
      go up (Some j) previous = pick (side s sound n o head k j r below.0 here below.2 own previous)
        where
          below : (x : Row) × (t : ℕ) × Dataset s j x × (x.kind ≡ Snapshot t) × (x.height ≡ r.height) × (t < kind_stamp s.group r.kind)
          below = sound.family.previous k j r here previous

          pick : ((below.0.owner ≡ n) × (o ≢ Some j)) ⊎ ((below.0.owner ≢ n) × (o ≡ Some j)) → stamp s o ≤ base s r
          pick (inl (is, _)) =
              let falls = base_falls s k j r below.0 sound here previous below.2 in
              omega (arith, up j below.0 (omega arith) below.2 is)
          pick (inr (_, is)) = omega (arith, base_is s r o (previous ∙ sym is))

  -- from a dataset of the owner up to the one in which a block is young that is younger than the origin
  climb : (g k d i : ℕ) (r : Row) (q : Pointer) → base s r < g → Dataset s k r → r.owner ≡ n → Has s k d i q → stamp s o < q.birth → Top s n q.block
  climb zero k d i r q less here own has young = absurd (omega arith)
  climb (suc g) k d i r q less here own has young = go (climb g) (cases_lt (base s r) q.birth)
    where
      go : ((j e l : ℕ) (x : Row) (y : Pointer) → base s x < g → Dataset s j x → x.owner ≡ n → Has s j e l y → stamp s o < y.birth → Top s n y.block)
          → (base s r < q.birth) ⊎ (q.birth ≤ base s r) → Top s n q.block
      go up (inl newer) = (k, r, here, own, (r, q, here, (d, i, has), newer, refl))
      go up (inr older) = pick (side s sound n o head k j r x here there own previous)
        where
          law : (j : ℕ) × (r.previous ≡ Some j) × Has s j d i q
          law = sound.birth_law k d i r q here has older

          j : ℕ
          j = law.0

          previous : r.previous ≡ Some j
          previous = law.1

          x : Row
          x = law.2.row

          there : Dataset s j x
          there = law.2.found

          pick : ((x.owner ≡ n) × (o ≢ Some j)) ⊎ ((x.owner ≢ n) × (o ≡ Some j)) → Top s n q.block
          pick (inl (is, _)) =
              let falls = base_falls s k j r x sound here previous there in
              up j d i x q (omega arith) there is law.2 young
          pick (inr (_, is)) = absurd (omega (arith, base_is s r o (previous ∙ sym is)))

  uses_top : (b : ℕ) → Uses s n b → Top s n b
  uses_top b (p, m, q, is, belongs, (d, i, has), young, e) =
      subst (Top s n) e (climb (suc (base s has.row)) m d i has.row q (omega arith) has.found (belongs_owner s n m has.row sound has.found belongs) has
      (omega (arith, ap (stamp s) (one_origin p is))))

  top_uses : (b : ℕ) → Top s n b → Uses s n b
  top_uses b (m, r, here, own, (x, q, there, points, young, e)) =
      let is = same_row r x here there in
      (o, m, q, head, (owners_tell s n o sound head m r here).0 own, points, omega (arith, based (suc (base s r)) m r (omega arith) here own, ap (base s) is), e)

-- what a file system uses are the blocks that are young in the datasets of its owner
pub used_young : (s : State) (n b : ℕ) → Sound s → Top s n b ↔ Uses s n b
used_young s n b sound = (there, back)
  where
    there : Top s n b → Uses s n b
    there (m, r, here, own, young) =
        let up = sound.family.owner m r here in
        top_uses s sound n up.0 (subst (λ (i : ℕ). IsHead s i up.0) own up.1) b (m, r, here, own, young)

    back : Uses s n b → Top s n b
    back used = uses_top s sound n used.0 used.3 b used

-- a file system uses as many blocks as are young in its datasets
pub used_total : (s : State) (n : ℕ) (young : Row → ℕ) → Sound s → ((m : ℕ) (r : Row) → Dataset s m r → HowMany (Young s m) s.size (young r))
    → UsedIs s n (sum_by young (system_rows s n))
used_total s n young sound counts =
    alike _ (Uses s n) s.size _ (λ b _. equal b)
    (sum_passing number_of nat_lt one s.size (Young s) sound.one_young young test s.rows sound.shape.ordered (λ m r here _. counts m r here))
  where
    test : Row → Bool
    test r = r.owner == n

    equal : (b : ℕ) → Passes number_of nat_lt one s.size (Young s) sound.one_young young test s.rows b ↔ Uses s n b
    equal b = (
      (λ (m, r, here, own, young). (used_young s n b sound).0 (m, r, here, eqb-true r.owner n own, young)),
      (λ used. (let (m, r, here, own, young) = (used_young s n b sound).1 used in (m, r, here, eq-eqb r.owner n own, young))),
    )

pub used_is_sum : UsedIsSum
used_is_sum s n k young sound used counts = one_count (Uses s n) s.size k _ used (used_total s n young sound counts)
