-- Rows by their place in the table and by their number.
--     row_at      the row at a place is found by its number
--     place_of    a row that is found has a place
--     some_row    a row that passes, from its place
--     no_row      no row passes where none of the places has one that does
use Rattle.std.proofs.Common.{◌≡◌, ℕ, ltb, ◌<◌, List, [], ◌∷◌, length, get_or, Some, None, Option, sym, refl, ap, ◌∙◌, subst, arith}
use Rattle.std.specs.List.{AllWithin, HoldsAt}
use Rattle.std.proofs.lemmas.List.{get_or_default}
use Rattle.ordered.specs.Order.{Holds}
use Rattle.ordered.specs.Tables.{Ascending, index_of}
use Rattle.ordered.proofs.Lookups.{at_index, found, missing}
use Rattle.ordered.proofs.Orders.{same_below, same_equal}
use Rattle.records.specs.Keys.{number_of}
use Rattle.records.specs.declared.rows.Row.{Row}
use Rattle.model.proofs.Rows.{one, some_none, row_of}

-- the row at a place is found by its number
pub row_at : (xs : List Row) (k : ℕ) (x : Row) → Ascending number_of (Holds ltb) xs → k < length xs → ((d : Row) → get_or xs k d ≡ x) → row_of xs x.number ≡ Some x
row_at xs k x up lt here =
    let index : index_of number_of ltb xs x.number ≡ Some k =
    at_index number_of ltb xs x.number k lt
    (λ j d before. same_below ltb one (get_or xs j d).number x.number (subst (λ (y : Row). Holds ltb (get_or xs j d).number y.number) (here d) (up j k d before lt)))
    (λ d. same_equal ltb one (get_or xs k d).number x.number (ap number_of (here d))) in
    (found number_of ltb xs x.number k index).entry x ∙ ap Some (here x)

-- a row that is found has a place
pub place_of : (xs : List Row) (m : ℕ) (x : Row) → row_of xs m ≡ Some x → (k : ℕ) × (k < length xs) × ((d : Row) → get_or xs k d ≡ x)
place_of xs m x there = go (index_of number_of ltb xs m) refl
  where
    go : (o : Option ℕ) → index_of number_of ltb xs m ≡ o → (k : ℕ) × (k < length xs) × ((d : Row) → get_or xs k d ≡ x)
    go None e = absurd (some_none _ x there (missing number_of ltb xs m e).entry)
    go (Some k) e =
        let f = found number_of ltb xs m k e in
        (k, f.within, λ d. let is : Some (get_or xs k d) ≡ Some x = sym (f.entry d) ∙ there in cc)

-- a row that passes is found, from its place
pub some_row : (P : Row → Type 0) (xs : List Row) → Ascending number_of (Holds ltb) xs → (k : ℕ) × (k < length xs) × HoldsAt P xs k → (m : ℕ) × (x : Row) × (row_of xs m ≡ Some x) × P x
some_row P [] up (k, lt, passes) = absurd (omega arith)
some_row P (y ∷ ys) up (k, lt, passes) =
    let x = get_or (y ∷ ys) k y in
    (x.number, x, row_at (y ∷ ys) k x up lt (λ d. get_or_default (y ∷ ys) k d y lt), passes y)

-- no row passes where no place has one that does
pub no_row : (P No : Row → Type 0) (xs : List Row) → ((x : Row) → No x → P x → ⊥) → AllWithin No xs 0 (length xs) → (m : ℕ) (x : Row) → row_of xs m ≡ Some x → P x → ⊥
no_row P No xs clash none m x there passes =
    let at = place_of xs m x there in
    clash x (subst No (at.2 x) (none at.0 x (omega arith) at.1)) passes
