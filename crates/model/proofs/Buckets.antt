-- The ancestors of a dataset, and the buckets of its dead list, in a sound pool.
--     one_line               a dataset has one list of ancestors
--     no_line, line_below    it is empty without a previous; else the previous comes last
--     last_key               the stamp of the previous is the last key
--     bucket_row             the stamp of an ancestor's previous is the key of its bucket
--     small_key, few         keys are below the group number, so there are fewer ancestors than groups
--     in_bucket              a bucket has the records born after its key and not after the next
--     one_bucket             each record of a dead list lies in exactly one of its buckets
use Rattle.std.proofs.Common.{◌≡◌, ℕ, zero, suc, ◌<◌, ◌≤◌, ◌⊎◌, ◌↔◌, List, [], ◌∷◌, ◌++◌, length, get_or, Some, None, sym, refl, ap, ap₂, ◌∙◌, subst, inl, inr, arith, le_refl, length-append}
use Rattle.std.specs.Prelude.{nat_lt}
use Rattle.std.proofs.Math.Seq.{get_or-append_seam}
use Rattle.std.proofs.lemmas.Bool.{cases_lt}
use Rattle.std.proofs.lemmas.List.{get_or_append_left}
use Rattle.ordered.specs.Lists.{Stands}
use Rattle.ordered.specs.Tables.{record_of}
use Rattle.records.specs.Keys.{number_of, dead_key, dead_below}
use Rattle.records.specs.declared.dead.DeadRecord.{DeadRecord}
use Rattle.records.specs.declared.rows.Row.{Row}
use Rattle.model.specs.Buckets.{InBucket, bucket_key}
use Rattle.model.specs.Datasets.{State, Dataset, base, row_stamp, stamp}
use Rattle.model.specs.Families.{Ancestors, none, after}
use Rattle.model.specs.Laws.{OneBucket}
use Rattle.model.specs.Soundness.{Sound}
use Rattle.model.proofs.Ancestors.{base_below}
use Rattle.model.proofs.Births.{base_below as base_below_group}

-- a dataset has one list of ancestors
pub one_line : {s : State} {n : ℕ} {ms ks : List ℕ} → Ancestors s n ms → Ancestors s n ks → ms ≡ ks
one_line (none r found e) (none x there f) = refl
one_line (none r found e) (after (x, there, f) b) = cc
one_line (after (r, found, e) a) (none x there f) = cc
one_line {s = s} (after {m = m} {ms = ms} (r, found, e) a) (after {m = k} {ms = ks} (x, there, f) b) =
    let same : m ≡ k = cc in
    let rest = one_line a (subst (λ (j : ℕ). Ancestors s j ks) (sym same) b) in
    ap₂ (λ (js : List ℕ) (j : ℕ). js ++ j ∷ []) rest same

-- without a previous, it is empty
pub no_line : {s : State} {ms : List ℕ} (r : Row) → Ancestors s r.number ms → Dataset s r.number r → r.previous ≡ None → ms ≡ []
no_line r line found e = one_line line (none r found e)

-- with one, that comes last, after its own ancestors
pub line_below : {s : State} {n : ℕ} {ms : List ℕ} (r : Row) (m : ℕ) → Ancestors s n ms → Dataset s n r → r.previous ≡ Some m → (ks : List ℕ) × Ancestors s m ks × (ms ≡ ks ++ m ∷ [])
line_below r m (none x there f) found e = let z : ◌≡◌ {A = ℕ} 0 1 = cc in absurd (omega arith)
line_below {s = s} r m (after {m = k} {ms = ks} (x, there, f) a) found e =
    let same : k ≡ m = cc in
    (ks, subst (λ (j : ℕ). Ancestors s j ks) same a, ap (λ (j : ℕ). ks ++ j ∷ []) same)

-- one more ancestor
one_more : (ms : List ℕ) (m : ℕ) → length (ms ++ m ∷ []) ≡ suc (length ms)
one_more ms m = omega (arith, length-append ms (m ∷ []))

module _ (s : State) where
  -- the stamp of the previous is the last key
  pub last_key : {n : ℕ} {ms : List ℕ} → Ancestors s n ms → (r : Row) × Dataset s n r × (stamp s r.previous ≡ bucket_key s ms (length ms))
  last_key (none r found e) = (r, found, ap (stamp s) e)
  last_key (after {m = m} {ms = ms} (r, found, e) a) =
      (r, found, ap (stamp s) e ∙ ap (λ (j : ℕ). stamp s (Some j)) (sym (get_or-append_seam ms m [] 0)) ∙ ap (bucket_key s (ms ++ m ∷ [])) (sym (one_more ms m)))

  -- a younger ancestor changes no older key
  older_key : (ms : List ℕ) (m k : ℕ) → k ≤ length ms → bucket_key s (ms ++ m ∷ []) k ≡ bucket_key s ms k
  older_key ms m zero le = refl
  older_key ms m (suc k) le = ap (λ (j : ℕ). stamp s (Some j)) (get_or_append_left ms (m ∷ []) 0 k (omega arith))

  -- the stamp of an ancestor's previous is the key of its bucket
  pub bucket_row : {n : ℕ} {ms : List ℕ} → Ancestors s n ms → (k : ℕ) → k < length ms → (x : Row) × Dataset s (get_or ms k 0) x × (stamp s x.previous ≡ bucket_key s ms k)
  bucket_row (none r found e) k lt = absurd (omega arith)
  bucket_row (after {m = m} {ms = ms} previous a) k lt = go (bucket_row a k) (cases_lt k (length ms))
    where
      Is : ℕ → Type 0
      Is j = (x : Row) × Dataset s (get_or (ms ++ m ∷ []) j 0) x × (stamp s x.previous ≡ bucket_key s (ms ++ m ∷ []) j)

      go : (k < length ms → (x : Row) × Dataset s (get_or ms k 0) x × (stamp s x.previous ≡ bucket_key s ms k)) → (k < length ms) ⊎ (length ms ≤ k) → Is k
      go older (inl less) =
          let (x, found, e) = older less in
          (x, subst (λ (j : ℕ). Dataset s j x) (sym (get_or_append_left ms (m ∷ []) 0 k less)) found, e ∙ sym (older_key ms m k (omega arith)))
      go older (inr more) =
          let (x, found, e) = last_key a in
          let last : k ≡ length ms = omega (arith, one_more ms m) in
          subst Is (sym last)
          (x, subst (λ (j : ℕ). Dataset s j x) (sym (get_or-append_seam ms m [] 0)) found, e ∙ sym (older_key ms m (length ms) (le_refl (length ms))))

module _ (s : State) (sound : Sound s) (n : ℕ) (ms : List ℕ) (line : Ancestors s n ms) where
  -- the keys rise
  rises : (k : ℕ) → k < length ms → bucket_key s ms k < bucket_key s ms (suc k)
  unfolding base
  rises k lt =
      let (x, found, e) = bucket_row s line k lt in
      omega (arith, base_below s sound (get_or ms k 0) x found, e, ap (row_stamp s.group) found)

  rise : (i j : ℕ) → i ≤ j → j ≤ length ms → bucket_key s ms i ≤ bucket_key s ms j
  rise i zero le within = let e : i ≡ zero = omega arith in rw e (le_refl 0)
  rise i (suc j) le within = go (rise i j) (cases_lt i (suc j))
    where
      go : (i ≤ j → j ≤ length ms → bucket_key s ms i ≤ bucket_key s ms j) → (i < suc j) ⊎ (suc j ≤ i) → bucket_key s ms i ≤ bucket_key s ms (suc j)
      go before (inl lt) = omega (arith, before (omega arith) (omega arith), rises j (omega arith))
      go before (inr more) = let e : i ≡ suc j = omega arith in rw e (le_refl (bucket_key s ms (suc j)))

  high : (k : ℕ) → k ≤ length ms → k ≤ bucket_key s ms k
  high zero le = omega arith
  high (suc k) le = omega (arith, high k (omega arith), rises k (omega arith))

  -- and are below the group number
  pub small_key : (k : ℕ) → k ≤ length ms → bucket_key s ms k < s.group
  unfolding base
  small_key k le =
      let (r, found, e) = last_key s line in
      omega (arith, rise k (length ms) le (le_refl (length ms)), e, base_below_group s sound n r found)

  -- there are fewer ancestors than groups
  pub few : length ms < s.group
  few = omega (arith, high (length ms) (le_refl (length ms)), small_key (length ms) (le_refl (length ms)))

  module _ (x : DeadRecord) (stands : Stands dead_key dead_below s.dead x) (of : x.dataset ≡ n) where
    -- a dead record was born, and by the stamp of the previous
    born : (1 ≤ x.birth) × (x.birth ≤ bucket_key s ms (length ms))
    born =
        let (m, (y, there, previous), (d, i, has), _) = (sound.dead x.dataset (record { block = x.block; birth = x.birth })).0 stands in
        let births = sound.pointers.births m d i has.row (record { block = x.block; birth = x.birth }) has.found has in
        let (r, found, e) = last_key s line in
        let same : Some y ≡ Some r = sym there ∙ ap (λ (j : ℕ). record_of number_of nat_lt s.rows j) of ∙ found in
        let is : r.previous ≡ Some m = cc in
        let top = ap (row_stamp s.group) has.found in
        let last = sym e ∙ ap (stamp s) is in
        (births.0, omega (arith, births.1, top, last))

    abbrev Between : ℕ → Type 0
    Between k = (bucket_key s ms k < x.birth) × (x.birth ≤ bucket_key s ms (suc k))

    -- a bucket has the records born after its key and not after the next
    pub in_bucket : (k : ℕ) → k < length ms → InBucket s n ms k x ↔ Between k
    in_bucket k within = (there, λ (above, under). (of, above, greatest above under))
      where
        there : InBucket s n ms k x → Between k
        there (_, above, greatest) = (above, go (cases_lt (bucket_key s ms (suc k)) x.birth) (cases_lt (suc k) (length ms)))
          where
            go : (bucket_key s ms (suc k) < x.birth) ⊎ (x.birth ≤ bucket_key s ms (suc k)) → (suc k < length ms) ⊎ (length ms ≤ suc k) → x.birth ≤ bucket_key s ms (suc k)
            go (inr under) _ = under
            go (inl over) (inl more) = absurd (omega (arith, greatest (suc k) more over, rises k within))
            go (inl over) (inr last) = let e : length ms ≡ suc k = omega arith in subst (λ (j : ℕ). x.birth ≤ bucket_key s ms j) e born.1

        greatest : bucket_key s ms k < x.birth → x.birth ≤ bucket_key s ms (suc k) → (j : ℕ) → j < length ms → bucket_key s ms j < x.birth → bucket_key s ms j ≤ bucket_key s ms k
        greatest above under j lt less = go (cases_lt k j)
          where
            go : (k < j) ⊎ (j ≤ k) → bucket_key s ms j ≤ bucket_key s ms k
            go (inl later) = absurd (omega (arith, rise (suc k) j (omega arith) (omega arith)))
            go (inr first) = rise j k first (omega arith)

    -- it lies in one of them
    some_bucket : (m : ℕ) → m ≤ length ms → x.birth ≤ bucket_key s ms m → (k : ℕ) × (k < length ms) × Between k
    some_bucket zero le under = absurd (omega (arith, born.0))
    some_bucket (suc m) le under = go (some_bucket m (omega arith)) (cases_lt (bucket_key s ms m) x.birth)
      where
        go : (x.birth ≤ bucket_key s ms m → (k : ℕ) × (k < length ms) × Between k) → (bucket_key s ms m < x.birth) ⊎ (x.birth ≤ bucket_key s ms m)
            → (k : ℕ) × (k < length ms) × Between k
        go earlier (inl above) = (m, omega arith, (above, under))
        go earlier (inr lower) = earlier lower

    no_later : (j k : ℕ) → j < k → k < length ms → Between j → Between k → ⊥
    no_later j k lt within a b = omega (arith, rise (suc j) k (omega arith) (omega arith), a.1, b.0)

    -- and in no other
    in_one : (k : ℕ) × (k < length ms) × InBucket s n ms k x × ((j : ℕ) → j < length ms → InBucket s n ms j x → j ≡ k)
    in_one =
        let (k, within, between) = some_bucket (length ms) (le_refl (length ms)) born.1 in
        (k, within, (in_bucket k within).1 between, λ j lt inside. only k within between j lt ((in_bucket j lt).0 inside) (cases_lt j k) (cases_lt k j))
      where
        only : (k : ℕ) → k < length ms → Between k → (j : ℕ) → j < length ms → Between j → (j < k) ⊎ (k ≤ j) → (k < j) ⊎ (j ≤ k) → j ≡ k
        only k within between j lt inside (inl less) _ = absurd (no_later j k less within inside between)
        only k within between j lt inside _ (inl more) = absurd (no_later k j more lt between inside)
        only k within between j lt inside (inr a) (inr b) = omega arith

pub one_bucket : OneBucket
one_bucket s n ms x sound line stands of = in_one s sound n ms line x stands of
