-- The young part of a dead list, as a part of the dead table.
--     young_part     between the ends of the young part are the young dead records
--     old_part       outside of them are all others
--     small_stamp    a stamp is at most the last group number
--     unique_young   as many as a snapshot alone reaches
use Rattle.std.proofs.Common.{◌≡◌, ℕ, suc, ◌+◌, ◌-◌, ◌^◌, ◌≤◌, min, not, ◌&&◌, ◌||◌, ltb, List, length, Some, None, Option, filter, sym, refl, ap, ◌∙◌, subst, arith}
use Rattle.std.proofs.lemmas.Bool.Decides.{nat_tests}
use Rattle.std.proofs.lemmas.List.Elements.{filter_agree}
use Rattle.ordered.specs.Tables.{part_of, without_part, record_of}
use Rattle.records.specs.Keys.{number_of, dead_key, dead_below}
use Rattle.records.specs.declared.dead.DeadRecord.{DeadRecord}
use Rattle.records.specs.declared.rows.Kind.{Kind}
use Rattle.records.specs.declared.rows.Kind.TheVariants.{Head, Snapshot}
use Rattle.records.specs.declared.rows.Row.{Row}
use Rattle.model.specs.Datasets.{State, Dataset, base, row_stamp, stamp}
use Rattle.model.specs.Families.{IsClone}
use Rattle.model.specs.Figures.{UniqueIs}
use Rattle.model.specs.Soundness.{Sound}
use Rattle.model.proofs.Figures.{is_next, is_young, unique_snapshot, young_dead}
use Rattle.pool.proofs.Exchange.{base_is}

-- a key from which records of dataset n may stand that have the birth b
abbrev from_birth : ℕ → ℕ → DeadRecord
from_birth n b = record { dataset = n; birth = b; block = 0 }

module _ (n t b m : ℕ) (x : DeadRecord) (later : b ≡ suc t) (after : m ≡ suc n) where
  young_inside : (not (dead_below x (from_birth n b)) && dead_below x (from_birth m 0)) ≡ is_young n t x
  young_inside = grind (arith, nat_tests)

  old_outside : (dead_below x (from_birth n b) || not (dead_below x (from_birth m 0))) ≡ not (is_young n t x)
  old_outside = grind (arith, nat_tests)

-- where the young records of a dataset begin, and where its list ends
abbrev pub young_first : ℕ → ℕ → DeadRecord
young_first n t = from_birth n (min (t + 1) (2 ^ 32 - 1))

abbrev pub list_end : ℕ → DeadRecord
list_end n = from_birth (min (n + 1) (2 ^ 32 - 1)) 0

module _ (n t : ℕ) (dead : List DeadRecord) (low high : DeadRecord) (number : n ≤ 999) (group : t ≤ 65535) (last : high ≡ list_end n) (first : low ≡ young_first n t) where
  pub young_part : part_of dead_key dead_below dead low high ≡ filter (is_young n t) dead
  young_part = rw (first, last) (filter_agree _ _ (λ x. young_inside n t _ _ x (omega arith) (omega arith)) dead)

  pub old_part : without_part dead_key dead_below dead low high ≡ filter (λ x. not (is_young n t x)) dead
  old_part = rw (first, last) (filter_agree _ _ (λ x. old_outside n t _ _ x (omega arith) (omega arith)) dead)

-- a stamp is at most the last group number
pub small_stamp : (s : State) (o : Option ℕ) → Sound s → stamp s o ≤ 65535
small_stamp s None sound = omega arith
small_stamp s (Some m) sound = go (record_of number_of ltb s.rows m) refl
  where
    of_kind : (r : Row) (k : Kind) → Dataset s m r → r.kind ≡ k → row_stamp s.group (Some (record r { kind = k })) ≤ 65535
    of_kind r (Head o) found is = sound.shape.group.1
    of_kind r (Snapshot t) found is = omega (arith, sound.shape.stamps m t (r, found, is), sound.shape.group.1)

    go : (o : Option Row) → record_of number_of ltb s.rows m ≡ o → row_stamp s.group o ≤ 65535
    go None e = omega arith
    go (Some r) e = of_kind r r.kind e refl

-- what a snapshot alone reaches is counted between the ends of the young part of its next
pub unique_young : (s : State) (n : ℕ) (r x : Row) (since : ℕ) (low high : DeadRecord) (young : List DeadRecord) → Sound s → Dataset s n r → ((m : ℕ) → IsClone s n m → ⊥)
    → Dataset s x.number x → x.previous ≡ Some n → x.owner ≡ r.owner → since ≡ stamp s r.previous → low ≡ young_first x.number since → high ≡ list_end x.number
    → young ≡ part_of dead_key dead_below s.dead low high → UniqueIs s n (length young)
unique_young s n r x since low high young sound here none there previous owner is first last part =
    let small : since ≤ 65535 = omega (arith, small_stamp s r.previous sound) in
    let found : young ≡ young_dead s x.number (base s r) =
    part ∙ young_part x.number since s.dead low high (sound.shape.numbers x.number x there).1 small last first ∙ ap (young_dead s x.number) (base_is s r since is) in
    subst (λ (xs : List DeadRecord). UniqueIs s n (length xs)) (sym found)
    (unique_snapshot s n x.number r sound here none (is_next s n x.number r x sound here there previous owner))
