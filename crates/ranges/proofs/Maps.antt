-- A range map's answers, from its ranges. Assumes nothing.
use Rattle.std.proofs.Common.{◌≡◌, ℕ, ◌+◌, ◌-◌, ◌^◌, min, ◌<◌, ◌≤◌, Bool, true, false, not, ◌&&◌, ltb, List, [], ◌∷◌, ◌++◌, length, take, drop, set, Option, Result, sym, refl, ap, ◌∙◌, subst, ⊎_elim, arith}
use Rattle.std.proofs.lemmas.List.{take-append-drop}
use Rattle.std.proofs.lemmas.Bool.{cases_lt, and_from, and_left, and_right, or_left, le-ltb, lt-ltb}
use Rattle.std.proofs.lemmas.Bool.Decides.{nat_tests}
use Rattle.ordered.specs.Lent.{KeptPast, Ordered, records, room}
use Rattle.ordered.specs.Tables.{answer, after}
use Rattle.ordered.specs.declared.tables.Table.{Table}
use Rattle.ordered.specs.declared.tables.InsertError.{InsertError}
use Rattle.ordered.proofs.Shifts.{take_length}
use Rattle.records.specs.Keys.{first_of, first_below}
use Rattle.records.specs.declared.ranges.FreeRange.{FreeRange}
use Rattle.blocks.specs.Sets.{count}
use Rattle.blocks.proofs.Changes.{free_less, free_more}
use Rattle.blocks.proofs.Counts.{count_empty, count_full}
use Rattle.ranges.specs.Maps.{map_of, Sound}
use Rattle.ranges.specs.Ranges.{all, within, in_some, apart, held, last_before, has, reach, Suits}
use Rattle.ranges.specs.Steps.{Regular, Took, Gave, PutsBack}
use Rattle.ranges.specs.declared.range_map.RangeMap.{RangeMap}
use Rattle.ranges.proofs.Lasts.{last_in, reaches}
use Rattle.ranges.proofs.Laws.{with_range}
use Rattle.ranges.proofs.Steps.{Fitting, Put, in_order, inserts, owned_parts}

-- by o, the last range that begins at or before block k
pub looked : (m : RangeMap) (k : ℕ) (o : Option FreeRange) → Sound m → o ≡ last_before (records m.ranges) (k + 1) → (ltb k m.size && not (has o k)) ≡ (map_of m).owns k
looked m k o s last = ap (λ (b : Bool). ltb k m.size && not b) (ap (λ o. has o k) last ∙ sym (last_in m.size k (records m.ranges) s.regular.maximal))

-- where no range is free, all blocks are owned
pub all_held : (n : ℕ) (rs : List FreeRange) → length rs ≡ 0 → count (held n rs) n ≡ n
all_held n rs e = count_full (held n rs) n (λ k h. and_from _ _ (lt-ltb k n h) (ap not (none rs e k)))
  where
    none : (rs : List FreeRange) → length rs ≡ 0 → (k : ℕ) → in_some rs k ≡ false
    none [] e k = refl
    none (r ∷ rs) e k = absurd (omega arith)

-- a new map: one range of all blocks, put into a table with no records
module _ (n : ℕ) (t u : Table FreeRange) (empty : records t ≡ []) (suits : Suits n (room t)) where
  pub empty_regular : Regular n t
  empty_regular = record { few = suits.1; places = suits.2; maximal = ap (apart 0 n) empty }

  none_free : (k : ℕ) → in_some (records t) k ≡ false
  none_free k = ap (λ (l : List FreeRange). in_some l k) empty

  pub all_fits : Fitting n (records t) (all n)
  all_fits = record { some = omega (arith, suits.0); high = omega arith; clear = λ k a b. none_free k }

  module _ (put : Put n t (records t) u (all n)) where
    pub owns_none : (k : ℕ) → held n (records u) k ≡ false
    owns_none k = ⊎_elim
        (λ (lt : k < n). let here : within (all n) k ≡ true = grind (arith, nat_tests) in and_right (ltb k n) _ (ap not (put.blocks k ∙ or_left _ _ here)))
        (λ (le : n ≤ k). and_left _ _ (le-ltb k n le))
        (cases_lt k n)

    pub new_sound : Sound (record { ranges = u; size = n; spare = n })
    new_sound = record { regular = put.regular; counted = (let z : count (held n (records u)) n ≡ 0 = count_empty (held n (records u)) n (λ k lt. owns_none k) in omega arith) }

    -- the other places are as they were
    pub first_written : KeptPast t u → u.places.now ≡ set t.places.now 0 (all n)
    first_written past =
        let only : records u ≡ all n ∷ [] = put.items ∙ ap (λ (l : List FreeRange). with_range l (all n)) empty in
        let places = u.places.now in
        let front : take 1 places ≡ all n ∷ [] = ap (λ (m : ℕ). take m places) (sym (ap length only)) ∙ take_length u.count places ∙ only in
        let back : drop 1 places ≡ drop 1 t.places.now = subst (λ (l : List FreeRange). drop (length l) places ≡ drop (length l) t.places.now) only past in
        sym (take-append-drop 1 places) ∙ ap (λ (l : List FreeRange). l ++ drop 1 places) front ∙ ap (λ (l : List FreeRange). all n ∷ l) back
        ∙ over t.places.now (omega (arith, suits.0, suits.2))
      where
        over : (xs : List FreeRange) → 0 < length xs → all n ∷ drop 1 xs ≡ set xs 0 (all n)
        over [] h = absurd (omega arith)
        over (x ∷ xs) h = refl

-- the same of a table made over places that held `was`, from what its insertion answers
pub record New (n : ℕ) (was : List FreeRange) (u : Table FreeRange) : Type 0 where
  pub sound : Sound (record { ranges = u; size = n; spare = n })
  pub empty : (k : ℕ) → held n (records u) k ≡ false
  pub written : u.places.now ≡ set was 0 (all n)

pub new_map : (n : ℕ) (was : List FreeRange) (t u : Table FreeRange) (r : FreeRange) (a : Result (Unit {0}) InsertError) → Suits n (length was) → records t ≡ [] → t.places.now ≡ was → r ≡ all n
    → room u ≡ room t → KeptPast t u → (Ordered first_of first_below t → a ≡ answer first_of first_below (room t) (records t) r) → (Ordered first_of first_below t → records u ≡ after first_of first_below (records t) r a)
    → New n was u
new_map n was t u r a fits empty same is room_same past value items =
    let suits : Suits n (room t) = subst (λ (l : ℕ). Suits n l) (sym (ap length same)) fits in
    let regular = empty_regular n t u empty suits in
    let ord = in_order n t regular in
    let free = subst (Fitting n (records t)) (sym is) (all_fits n t u empty suits) in
    let put = subst (Put n t (records t) u) is (inserts n t u r regular room_same past a free (value ord) (items ord)) in
    record {
      sound = new_sound n t u empty suits put;
      empty = owns_none n t u empty suits put;
      written = first_written n t u empty suits put past ∙ ap (λ l. set l 0 (all n)) same;
    }

-- a map of no blocks, over any places
pub none_sound : (t : Table FreeRange) → records t ≡ [] → Sound (record { ranges = t; size = 0; spare = 0 })
none_sound t empty = record { regular = record { few = omega arith; places = omega arith; maximal = ap (apart 0 0) empty }; counted = omega arith }

-- a block taken, and one given back
pub took_sound : (m : RangeMap) (b : ℕ) (u : Table FreeRange) (left : ℕ) → Sound m → Took m.size m.ranges b u → left ≡ m.spare - 1 → Sound (record { ranges = u; size = m.size; spare = left })
took_sound m b u left s took e = record {
  regular = took.regular;
  counted = omega (arith, free_less (map_of m) (map_of (record { ranges = u; size = m.size; spare = left })) b (refl, took.owned), s.counted);
}

pub gave : (m : RangeMap) (b : ℕ) (o : Option FreeRange) (u : Table FreeRange) → Sound m → o ≡ last_before (records m.ranges) (b + 1) → (ltb b m.size && not (has o b)) ≡ true
    → PutsBack m.ranges b (reach o b) u → Gave m.size m.ranges b u
gave m b o u s last out back =
    let owned : (map_of m).owns b ≡ true = sym (looked m b o s last) ∙ out in
    let parts = owned_parts m.size b (records m.ranges) owned in
    back m.size s.regular owned (reaches m.size b (records m.ranges) s.regular.maximal parts.1 o (sym last))

pub gave_sound : (m : RangeMap) (b : ℕ) (u : Table FreeRange) (left : ℕ) → Sound m → Gave m.size m.ranges b u → left ≡ min (m.spare + 1) (2 ^ 32 - 1) → Sound (record { ranges = u; size = m.size; spare = left })
gave_sound m b u left s gave e = record {
  regular = gave.regular;
  counted = omega (arith, free_more (map_of m) (map_of (record { ranges = u; size = m.size; spare = left })) b (refl, gave.owned), s.regular.few, s.counted);
}
