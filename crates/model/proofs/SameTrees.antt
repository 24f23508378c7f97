-- Memory and rows determine a sound pool: its owned blocks, its dead records and the counts of its rows follow.
--     bare s           s but for its rows, dead records and owned blocks
--     plain s n        the row of dataset n but for its count
--     SameTrees s t    s and t differ in counts, dead records and owned blocks alone
use Rattle.std.proofs.Common.{◌≡◌, ℕ, true, false, ltb, [], Some, None, Option, sym, refl, ap, ◌∙◌, subst, ap₂, arith}
use Rattle.std.specs.Cmp.{both_ways}
use Rattle.std.specs.Option.{option_map}
use Rattle.ordered.specs.Tables.{record_of}
use Rattle.ordered.proofs.Equals.{equal_tables}
use Rattle.records.specs.Keys.{number_of, dead_key, dead_below}
use Rattle.records.specs.declared.dead.DeadRecord.{DeadRecord}
use Rattle.records.specs.declared.rows.Pointer.{Pointer}
use Rattle.records.specs.declared.rows.Row.{Row}
use Rattle.tree.specs.Trees.{Holds}
use Rattle.model.specs.Datasets.{State, Dataset, row_stamp, stamp, base, Has, Reaches, Young, Dead, Buried}
use Rattle.model.specs.Figures.{HowMany}
use Rattle.model.specs.Soundness.{Sound}
use Rattle.model.specs.Steps.{altered, with_previous}
use Rattle.model.proofs.Burials.{dead_one, dead_chain, found_key}
use Rattle.model.proofs.Rows.{chain, one, some_none, row_of}
use Rattle.model.proofs.Sums.{alike, one_count}

-- s but for its rows, dead records and owned blocks
abbrev pub bare : State → State
bare s = altered s [] [] s.group (λ b. false)

-- the row r but for its count
abbrev pub uncounted : Row → Row
uncounted r = with_previous r r.previous 0

-- the row of dataset n but for its count
abbrev pub plain : State → ℕ → Option Row
plain s n = option_map uncounted (row_of s.rows n)

pub record SameTrees (s t : State) : Type 0 where
  pub bare : bare s ≡ bare t
  pub rows : (n : ℕ) → plain s n ≡ plain t n

turned : (s t : State) → SameTrees s t → SameTrees t s
turned s t same = record { bare = sym same.bare; rows = λ n. sym (same.rows n) }

-- where a function gives something, it was given something
pub mapped : {A B : Type 0} (f : A → B) (o : Option A) (y : B) → option_map f o ≡ Some y → (x : A) × (o ≡ Some x) × (f x ≡ y)
mapped f None y e = absurd (some_none None y e refl)
mapped f (Some x) y e = (x, refl, cc)

-- options that have the same are the same
same_option : {A : Type 0} (o p : Option A) → ((x : A) → o ≡ Some x → p ≡ Some x) → ((x : A) → p ≡ Some x → o ≡ Some x) → o ≡ p
same_option None None there back = refl
same_option None (Some y) there back = back y refl
same_option (Some x) p there back = sym (there x refl)

-- a count says nothing of the stamp
plain_stamp : (g : ℕ) (o : Option Row) → row_stamp g (option_map uncounted o) ≡ row_stamp g o
plain_stamp g None = refl
plain_stamp g (Some x) = refl

module _ (s t : State) (same : SameTrees s t) where
  -- a dataset of s is one of t, with the same row but for the count
  row_there : (n : ℕ) (x : Row) → Dataset s n x → (y : Row) × Dataset t n y × (uncounted y ≡ uncounted x)
  row_there n x here = mapped uncounted (row_of t.rows n) (uncounted x) (sym (same.rows n) ∙ ap (option_map uncounted) here)

  -- and has the same pointers
  has_there : (n d i : ℕ) (q : Pointer) → Has s n d i q → Has t n d i q
  has_there n d i q has =
      let (y, there, e) = row_there n has.row has.found in
      let holds : Holds t.memory has.row.root has.row.height d i q =
      subst (λ (z : State). Holds z.memory has.row.root has.row.height d i q) same.bare has.holds
      in
      record { row = y; found = there; holds = subst (λ (z : Row). Holds t.memory z.root z.height d i q) (sym e) holds }

  reach_there : (n b : ℕ) → Reaches s n b → Reaches t n b
  reach_there n b (q, (d, i, has), e) = (q, (d, i, has_there n d i q has), e)

  -- the stamps are the same
  stamp_there : (o : Option ℕ) → stamp t o ≡ stamp s o
  stamp_there None = refl
  stamp_there (Some n) =
      sym (plain_stamp t.group (row_of t.rows n)) ∙ ap₂ (λ (z : State) o. row_stamp z.group o) (sym same.bare) (sym (same.rows n))
      ∙ plain_stamp s.group (row_of s.rows n)

  base_there : (x y : Row) → uncounted y ≡ uncounted x → base t y ≡ base s x
  unfolding base
  base_there x y e = ap (λ (z : Row). stamp t z.previous) e ∙ stamp_there x.previous

  -- and what is young
  young_there : (n b : ℕ) → Young s n b → Young t n b
  young_there n b (x, q, here, (d, i, has), young, e) =
      let (y, there, is) = row_there n x here in
      (y, q, there, (d, i, has_there n d i q has), omega (arith, base_there x y is), e)

module _ (s t : State) (same : SameTrees s t) (sound : Sound s) (good : Sound t) where
  back : SameTrees t s
  back = turned s t same

  -- what is owned in s is owned in t
  owned_there : (b : ℕ) → s.owns b ≡ true → t.owns b ≡ true
  owned_there b own = let (n, reach) = (sound.owned b).0 own in (good.owned b).1 (n, reach_there s t same n b reach)

  -- the row of a dataset of s is its row in t
  row_same : (n : ℕ) (x : Row) → Dataset s n x → Dataset t n x
  row_same n x here =
      let (y, there, e) = row_there s t same n x here in
      let young = alike (Young t n) (Young s n) t.size y.born (λ b _. (young_there t s back n b, young_there s t same n b)) (good.born n y there) in
      let born : y.born ≡ x.born = one_count (Young s n) s.size y.born x.born (subst (λ (z : State). HowMany (Young s n) z.size y.born) (sym same.bare) young) (sound.born n x here) in
      there ∙ ap Some (ap₂ (λ (z : Row) k. with_previous z z.previous k) e born)

  -- a dead record of s is one of t
  dead_there : (n : ℕ) (q : Pointer) → Dead s n q → Dead t n q
  dead_there n q (m, (x, here, is), (d, i, has), gone) =
      let (y, there, e) = row_there s t same n x here in
      (m, (y, there, ap (λ (z : Row). z.previous) e ∙ is), (d, i, has_there s t same m d i q has), λ reach. gone (reach_there t s back n q.block reach))

  dead_same : (k x : DeadRecord) → record_of dead_key dead_below s.dead k ≡ Some x → record_of dead_key dead_below t.dead k ≡ Some x
  dead_same k x found =
      let key : x ≡ k = found_key dead_key dead_below dead_one s.dead k x found in
      let q : Pointer = record { block = k.block; birth = k.birth } in
      let here : Buried s k.dataset q = found ∙ ap Some key in
      (good.dead k.dataset q).1 (dead_there k.dataset q ((sound.dead k.dataset q).0 here)) ∙ ap Some (sym key)

-- sound pools with the same trees are the same
pub same_trees : (s t : State) → SameTrees s t → Sound s → Sound t → s ≡ t
same_trees s t same sound good = λ i. altered (same.bare i) (rows i) (dead i) (same.bare i).group (λ b. owns b i)
  where
    back : SameTrees t s
    back = turned s t same

    rows : s.rows ≡ t.rows
    rows = equal_tables number_of ltb one chain s.rows t.rows sound.shape.ordered good.shape.ordered
        (λ n. same_option (row_of s.rows n) (row_of t.rows n) (row_same s t same sound good n) (row_same t s back good sound n))

    dead : s.dead ≡ t.dead
    dead = equal_tables dead_key dead_below dead_one dead_chain s.dead t.dead sound.shape.dead_ordered good.shape.dead_ordered
        (λ k. same_option (record_of dead_key dead_below s.dead k) (record_of dead_key dead_below t.dead k)
        (dead_same s t same sound good k) (dead_same t s back good sound k))

    owns : (b : ℕ) → s.owns b ≡ t.owns b
    owns b = both_ways (s.owns b) (t.owns b) (owned_there s t same sound good b) (owned_there t s back good sound b)
