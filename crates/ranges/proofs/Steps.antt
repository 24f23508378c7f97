-- The steps of a take and a give, on maximal ranges and on the table that holds them. Assumes nothing.
use Rattle.std.proofs.Common.{◌≡◌, ℕ, ◌+◌, ◌-◌, ◌<◌, ◌≤◌, Bool, true, false, if◌then◌else◌, not, ◌&&◌, ◌||◌, eqb, ltb, leb, ◌⊎◌, List, length, get_or, drop, is_some, Some, None, Option, Ok, Result, sym, refl, ap, ◌∙◌, subst, inl, inr, ⊎_elim, arith}
use Rattle.std.proofs.lemmas.List.{drop-drop}
use Rattle.std.proofs.lemmas.Bool.{cases_eq, cases_lt, cond-true, cond-false, or_parts, or_from, or_left, or_right, and_parts, and_right, and_from, not-true, eq-eqb, le-leb, lt-ltb, ltb-true}
use Rattle.std.proofs.lemmas.Bool.Decides.{nat_tests}
use Rattle.std.proofs.lemmas.Option.{none-some}
use Rattle.ordered.specs.Lent.{KeptPast, Ordered, records, room}
use Rattle.ordered.specs.Tables.{answer, after, fits_at, fits_over}
use Rattle.ordered.specs.declared.tables.Table.{Table}
use Rattle.ordered.specs.declared.tables.InsertError.{InsertError}
use Rattle.ordered.proofs.Lookups.{found, missing}
use Rattle.records.specs.Keys.{first_of, first_below}
use Rattle.records.specs.declared.ranges.FreeRange.{FreeRange}
use Rattle.blocks.specs.Sets.{Joins}
use Rattle.ranges.specs.Ranges.{needed, within, in_some, apart, held, at_block, range_at, without, long, Reaches, rest_of, joined}
use Rattle.ranges.specs.Steps.{Regular, Clear, Cut, Rest}
use Rattle.ranges.proofs.Apart.{at_most_half, rises, spaced}
use Rattle.ranges.proofs.Laws.{Out, cases_option, place_at, with_range, over_range, same_first, removes, removes_none, adds, absent, begins, swapped}

-- an owned block is below the size and in no range
pub owned_parts : (n k : ℕ) (rs : List FreeRange) → held n rs k ≡ true → (k < n) × (in_some rs k ≡ false)
owned_parts n k rs e = let two = and_parts (ltb k n) (not (in_some rs k)) e in (ltb-true k n two.0, not-true (in_some rs k) two.1)

-- b alone leaves the free blocks
pub leaves : (n b : ℕ) (xs ys : List FreeRange) → b < n → in_some xs b ≡ true → in_some ys b ≡ false → ((k : ℕ) → (k ≡ b → ⊥) → in_some ys k ≡ in_some xs k) → Joins (held n xs) b (held n ys)
leaves n b xs ys lt inn out rest = record {
  was = and_right (ltb b n) (not (in_some xs b)) (ap not inn);
  is = and_from _ _ (lt-ltb b n lt) (ap not out);
  others = λ k ne. ap (λ (t : Bool). ltb k n && not t) (rest k ne);
}

pub in_order : (n : ℕ) (t : Table FreeRange) → Regular n t → Ordered first_of first_below t
in_order n t s = rises 0 n (records t) s.maximal

-- no range begins at a block that lies in none
pub untouched : (n k : ℕ) (xs : List FreeRange) → apart 0 n xs ≡ true → in_some xs k ≡ false → without xs k ≡ xs
untouched n k xs e out = (missing first_of first_below xs (at_block k) (absent 0 n k xs e out)).less

-- what stands past the records of u stands past the places that they can need
pub rest_past : (n : ℕ) (t u : Table FreeRange) → apart 0 n (records u) ≡ true → KeptPast t u → Rest n t u
rest_past n t u e past =
    let l : ℕ = length (records u) in
    let half = at_most_half n (records u) e in
    let more : l + (needed n - l) ≡ needed n = omega arith in
    ap (λ (m : ℕ). drop m u.places.now) (sym more) ∙ sym (drop-drop (needed n - l) l u.places.now) ∙ ap (drop (needed n - l)) past
    ∙ drop-drop (needed n - l) l t.places.now ∙ ap (λ (m : ℕ). drop m t.places.now) more

-- the range r can stand beside rs
pub record Fitting (n : ℕ) (rs : List FreeRange) (r : FreeRange) : Type 0 where
  pub some : 0 < r.length
  pub high : r.first + r.length ≤ n
  pub clear : Clear rs r

-- the table u holds the ranges rs and r, and past them what t holds
pub record Put (n : ℕ) (t : Table FreeRange) (rs : List FreeRange) (u : Table FreeRange) (r : FreeRange) : Type 0 where
  pub items : records u ≡ with_range rs r
  pub regular : Regular n u
  pub blocks : (k : ℕ) → in_some (records u) k ≡ (within r k || in_some rs k)
  pub rest : Rest n t u

-- a range that begins at most a block earlier or later than the one at i stays between the same two
stays : (n b : ℕ) (xs : List FreeRange) (r : FreeRange) (i : ℕ) (d : FreeRange) → apart 0 n xs ≡ true → place_at xs b ≡ Some i → r.first ≤ b + 1 → b ≤ r.first + 1
    → fits_at first_of first_below xs d (first_of r) i ≡ true
stays n b xs r i d e at high low = and_from _ _ (above (cases_eq i 0)) (under (cases_lt (i + 1) (length xs)))
  where
    here : (i < length xs) × ((get_or xs i d).first ≡ b)
    here = let f = found first_of first_below xs (at_block b) i at in (f.within, same_first (get_or xs i d) b (f.here d))

    above : (i ≡ 0) ⊎ (i ≡ 0 → ⊥) → (eqb i 0 || ltb (get_or xs (i - 1) d).first r.first) ≡ true
    above (inl first) = or_left _ _ (eq-eqb i 0 first)
    above (inr later) = or_right _ _ (lt-ltb (get_or xs (i - 1) d).first r.first (omega (arith, here.1, spaced 0 n xs (i - 1) i d e (omega arith) here.0)))

    under : (i + 1 < length xs) ⊎ (length xs ≤ i + 1) → (leb (length xs) (i + 1) || ltb r.first (get_or xs (i + 1) d).first) ≡ true
    under (inl more) = or_right _ _ (lt-ltb r.first (get_or xs (i + 1) d).first (omega (arith, here.1, spaced 0 n xs i (i + 1) d e (omega arith) more)))
    under (inr last) = or_left _ _ (le-leb (length xs) (i + 1) last)

-- the calls of the table that put a range in: t became u
module _ (n : ℕ) (t u : Table FreeRange) (r : FreeRange) (s : Regular n t) (same : room u ≡ room t) (past : KeptPast t u) where
  put : (rs : List FreeRange) → apart 0 n rs ≡ true → Fitting n rs r → records u ≡ with_range rs r → Put n t rs u r
  put rs e f items =
      let more = adds 0 n rs r e (omega arith) f.some f.high f.clear in
      let stands : apart 0 n (records u) ≡ true = ap (apart 0 n) items ∙ more.stands in
      record {
        items = items;
        regular = record { few = s.few; places = omega (arith, s.places); maximal = stands };
        blocks = λ k. ap (λ (l : List FreeRange). in_some l k) items ∙ more.blocks k;
        rest = rest_past n t u stands past;
      }

  -- in the place of the one that begins where it does
  pub replaces : (old : FreeRange) → range_at (records t) r.first ≡ Some old → Fitting n (without (records t) r.first) r → records u ≡ over_range (records t) r
      → Put n t (without (records t) r.first) u r
  replaces old there f items = put _ (removes 0 n r.first (records t) old s.maximal there).stands f (items ∙ swapped 0 n (records t) old r s.maximal there)

  -- in the place of the one that begins at b, which the table never refuses
  pub rekeys : (b : ℕ) (old : FreeRange) (a : Bool) → range_at (records t) b ≡ Some old → r.first ≤ b + 1 → b ≤ r.first + 1 → Fitting n (without (records t) b) r
      → ((d : FreeRange) → a ≡ fits_over first_of first_below (records t) d (first_of r) (place_at (records t) b)) → records u ≡ (if a then with_range (without (records t) b) r else records t)
      → Put n t (without (records t) b) u r
  rekeys b old a there high low f value items = go (cases_option (place_at (records t) b))
    where
      go : (place_at (records t) b ≡ None) ⊎ ((i : ℕ) × (place_at (records t) b ≡ Some i)) → Put n t (without (records t) b) u r
      go (inl none) = absurd (none-some old (sym (missing first_of first_below (records t) (at_block b) none).entry ∙ there))
      go (inr (i, at)) =
          let answer : a ≡ true = value old ∙ ap (fits_over first_of first_below (records t) old (first_of r)) at ∙ stays n b (records t) r i old s.maximal at high low in
          put _ (removes 0 n b (records t) old s.maximal there).stands f (items ∙ cond-true _ _ _ answer)

  -- among the others: a place is always left
  pub inserts : (a : Result (Unit {0}) InsertError) → Fitting n (records t) r → a ≡ answer first_of first_below (room t) (records t) r → records u ≡ after first_of first_below (records t) r a → Put n t (records t) u r
  inserts a f value items =
      let none = absent 0 n r.first (records t) s.maximal (f.clear r.first (omega arith) (omega arith)) in
      let more = adds 0 n (records t) r s.maximal (omega arith) f.some f.high f.clear in
      let left : length (records t) < room t = omega (arith, at_most_half n (with_range (records t) r) more.stands, more.longer, s.places) in
      let placed : a ≡ Ok tt = value ∙ cond-false _ _ _ (ap is_some none) ∙ cond-true _ _ _ (lt-ltb (length (records t)) (room t) left) in
      put (records t) s.maximal f (items ∙ ap (after first_of first_below (records t) r) placed)

-- a range cut out, or an empty one
pub cut_none : (n f : ℕ) (xs : List FreeRange) → apart 0 n xs ≡ true → f ≤ n → Clear xs (record { first = f; length = 0 }) → Cut n xs xs (record { first = f; length = 0 })
cut_none n f xs e h clear = record {
  maximal = e;
  blocks = λ k. let z : within (record { first = f; length = 0 }) k ≡ false = grind (arith, nat_tests) in sym (ap (λ (b : Bool). b || in_some xs k) z);
  clear = clear;
  high = omega arith;
}

pub cut_out : (n k : ℕ) (xs ys : List FreeRange) (r : FreeRange) (f : ℕ) → Out 0 n k xs ys r → f ≡ r.first → Cut n xs ys (record { first = f; length = r.length })
cut_out n k xs ys r f o e =
    subst (λ (f : ℕ). Cut n xs ys (record { first = f; length = r.length })) (sym e) (record { maximal = o.stands; blocks = o.blocks; clear = o.clear; high = o.high })

-- the range that begins right after block b, or none
pub cut_after : (n b : ℕ) (xs ys : List FreeRange) (o : Option FreeRange) → apart 0 n xs ≡ true → b < n → in_some xs b ≡ false → o ≡ range_at xs (b + 1) → ys ≡ without xs (b + 1)
    → Cut n xs ys (record { first = b + 1; length = long o })
cut_after n b xs ys (Some r) e lt out is gone =
    let o = removes 0 n (b + 1) xs r e (sym is) in
    subst (λ (l : List FreeRange). Cut n xs l (record { first = b + 1; length = r.length })) (sym gone) (cut_out n (b + 1) xs _ r (b + 1) o (sym o.at))
cut_after n b xs ys None e lt out is gone =
    subst (λ (l : List FreeRange). Cut n xs l (record { first = b + 1; length = 0 })) (sym (gone ∙ removes_none (b + 1) xs (sym is))) (cut_none n (b + 1) xs e (omega arith) clear)
  where
    before : (j : ℕ) → j + 1 ≡ b + 1 → in_some xs j ≡ false
    before j q = let i : j ≡ b = omega arith in ap (in_some xs) i ∙ out

    clear : Clear xs (record { first = b + 1; length = 0 })
    clear k a h = ⊎_elim (λ (i : k ≡ b + 1). ap (in_some xs) i ∙ begins 0 n (b + 1) xs e before (sym is)) (λ (ne : k ≡ b + 1 → ⊥). before k (omega arith)) (cases_eq k (b + 1))

-- the merged range of a give: r blocks after b were cut out of xs, which left ys
module _ (n b l r : ℕ) (xs ys : List FreeRange) (right : Cut n xs ys (record { first = b + 1; length = r })) (out : in_some xs b ≡ false) (left : Reaches xs b l)
    (same : (k : ℕ) → k ≤ b → range_at ys k ≡ range_at xs k) where
  stays_out : (k : ℕ) → in_some xs k ≡ false → in_some ys k ≡ false
  stays_out k e = (or_parts _ _ (sym (right.blocks k) ∙ e)).1

  cut_before : Cut n ys (without ys (b - l)) (record { first = b - l; length = l })
  cut_before = go (cases_eq l 0)
    where
      go : (l ≡ 0) ⊎ (l ≡ 0 → ⊥) → Cut n ys (without ys (b - l)) (record { first = b - l; length = l })
      go (inl e) =
          subst (λ (l : ℕ). Cut n ys (without ys (b - l)) (record { first = b - l; length = l })) (sym e)
          (subst (λ (f : ℕ). Cut n ys (without ys f) (record { first = f; length = 0 })) (omega arith)
          (subst (λ (v : List FreeRange). Cut n ys v (record { first = b; length = 0 })) (sym (untouched n b ys right.maximal (stays_out b out)))
          (cut_none n b ys right.maximal (omega (arith, right.high))
          (λ k a h. ⊎_elim (λ (i : k ≡ b). stays_out k (ap (in_some xs) i ∙ out)) (λ (ne : k ≡ b → ⊥). stays_out k (left.none e k (omega arith))) (cases_eq k b)))))
      go (inr ne) =
          let is : range_at ys (b - l) ≡ Some (record { first = b - l; length = l }) = same (b - l) (omega arith) ∙ left.some (omega arith) in
          cut_out n (b - l) ys _ (record { first = b - l; length = l }) (b - l) (removes 0 n (b - l) ys (record { first = b - l; length = l }) right.maximal is) refl

  pub merged_fits : Fitting n (without ys (b - l)) (joined l b r)
  merged_fits =
      let cut = cut_before in
      let fits : l ≤ b = left.fits in
      record {
        some = omega arith;
        high = omega (arith, right.high);
        clear = λ k a h. ⊎_elim
            (λ (c : k ≤ b). cut.clear k a (omega arith))
            (λ (c : b < k). (or_parts _ _ (sym (cut.blocks k) ∙ right.clear k (omega arith) (omega arith))).1)
            (⊎_elim (λ (c : b < k). inr c) (λ (c : k ≤ b). inl c) (cases_lt b k));
      }

  pub gives : (ws : List FreeRange) → b < n → ((k : ℕ) → in_some ws k ≡ (within (joined l b r) k || in_some (without ys (b - l)) k)) → Joins (held n ws) b (held n xs)
  gives ws lt blocks =
      let cut = cut_before in
      let fits : l ≤ b = left.fits in
      let here : within (joined l b r) b ≡ true = grind (arith, nat_tests) in
      leaves n b ws xs lt (blocks b ∙ or_left _ _ here) out
      (λ k ne. right.blocks k ∙ ap (λ (z : Bool). within (record { first = b + 1; length = r }) k || z) (cut.blocks k) ∙ regroup k (in_some (without ys (b - l)) k) ne fits ∙ sym (blocks k))
    where
      regroup : (k : ℕ) (z : Bool) → (k ≡ b → ⊥) → l ≤ b → (within (record { first = b + 1; length = r }) k || (within (record { first = b - l; length = l }) k || z)) ≡ (within (joined l b r) k || z)
      regroup k true ne fits = grind (arith, nat_tests)
      regroup k false ne fits = grind (arith, nat_tests)

-- the same with no range before b
module _ (n b r : ℕ) (xs ys : List FreeRange) (right : Cut n xs ys (record { first = b + 1; length = r })) (out : in_some xs b ≡ false) (left : Reaches xs b 0) where
  first_out : (k : ℕ) → in_some xs k ≡ false → in_some ys k ≡ false
  first_out k e = (or_parts _ _ (sym (right.blocks k) ∙ e)).1

  pub first_fits : Fitting n ys (joined 0 b r)
  first_fits = record {
    some = omega arith;
    high = omega (arith, right.high);
    clear = λ k a h. ⊎_elim
        (λ (i : k ≡ b). first_out k (ap (in_some xs) i ∙ out))
        (λ (ne : k ≡ b → ⊥). ⊎_elim
        (λ (c : b < k). right.clear k (omega arith) (omega arith))
        (λ (c : k ≤ b). first_out k (left.none refl k (omega arith)))
        (cases_lt b k))
        (cases_eq k b);
  }

  pub first_gives : (ws : List FreeRange) → b < n → ((k : ℕ) → in_some ws k ≡ (within (joined 0 b r) k || in_some ys k)) → Joins (held n ws) b (held n xs)
  first_gives ws lt blocks =
      let here : within (joined 0 b r) b ≡ true = grind (arith, nat_tests) in
      leaves n b ws xs lt (blocks b ∙ or_left _ _ here) out
      (λ k ne. let z : within (record { first = b + 1; length = r }) k ≡ within (joined 0 b r) k = grind (arith, nat_tests) in right.blocks k ∙ ap (λ (c : Bool). c || in_some ys k) z ∙ sym (blocks k))

-- the first block of a range of xs taken, which left ys without that range
module _ (n : ℕ) (xs ys : List FreeRange) (r : FreeRange) (o : Out 0 n r.first xs ys r) where
  held_first : in_some xs r.first ≡ true
  held_first = let s : 0 < r.length = o.some in let here : within r r.first ≡ true = grind (arith, nat_tests) in o.blocks r.first ∙ or_left _ _ here

  free_first : in_some ys r.first ≡ false
  free_first = o.clear r.first (omega arith) (omega arith)

  pub rest_fits : 1 < r.length → Fitting n ys (rest_of r)
  rest_fits h = record { some = omega arith; high = omega (arith, o.high); clear = λ k a b. o.clear k (omega arith) (omega arith) }

  pub take_last : r.length ≤ 1 → Joins (held n xs) r.first (held n ys)
  take_last h =
      leaves n r.first xs ys (omega (arith, o.some, o.high)) held_first free_first
      (λ k ne. let z : within r k ≡ false = grind (arith, nat_tests) in sym (o.blocks k ∙ ap (λ (b : Bool). b || in_some ys k) z))

  pub take_more : 1 < r.length → (ws : List FreeRange) → ((k : ℕ) → in_some ws k ≡ (within (rest_of r) k || in_some ys k)) → Joins (held n xs) r.first (held n ws)
  take_more h ws blocks =
      let away : within (rest_of r) r.first ≡ false = grind (arith, nat_tests) in
      leaves n r.first xs ws (omega (arith, o.some, o.high)) held_first
      (blocks r.first ∙ or_from _ _ away free_first)
      (λ k ne. let z : within (rest_of r) k ≡ within r k = grind (arith, nat_tests) in blocks k ∙ ap (λ (b : Bool). b || in_some ys k) z ∙ sym (o.blocks k))
