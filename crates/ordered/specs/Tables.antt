-- Records in the order of their keys: what they are, and what looking up, putting in and taking out mean. Assumes nothing.
-- Throughout, `key` is the key of a record, `below` the order of the keys, and xs are records, in a table's order.
--     same below a b                      a and b are the same key
--     Ascending key below xs              each key is below the next, so no key stands twice
--     index_of, record_of                 where the record with a key stands, and that record; nothing where none has it
--     rank_of                             how many records have keys below a key
--     part_of, without_part               the records with keys from one key on and below another, and the others
--     with_record, without_key, replaced  xs with one more record, without one, with one in the place of another
--     fits_at, fits_over                  whether a key can stand at an index in the place of the one there
--     Alone                               two lists of records differ at one key alone
--     either r                            the index in an answer of the search
--     answer, after                       what an insertion answers, and the records that it leaves
use Rattle.std.specs.Prelude.{◌≡◌, ℕ, suc, ◌+◌, ◌-◌, ◌<◌, Bool, false, if◌then◌else◌, not, ◌&&◌, ◌||◌, List, [], ◌∷◌, length, is_some, Some, None, Ok, Err, filter, Option, Result, ◌==◌, nat_le, nat_lt, slice_index_or}
use Rattle.std.specs.Option.{option_map}
use Rattle.ordered.specs.declared.tables.InsertError.{InsertError}
use Rattle.ordered.specs.declared.tables.InsertError.TheVariants.{Present, Full}

-- neither key is below the other
abbrev pub same : {K : Type 0} → (K → K → Bool) → K → K → Bool
same below a b = not (below a b) && not (below b a)

-- an earlier record has a lower key
abbrev pub Ascending : {R K : Type 0} → (R → K) → (K → K → Type 0) → List R → Type 0
Ascending {R} key below xs = (i j : ℕ) (d : R) → i < j → j < length xs → below (key (slice_index_or xs i d)) (key (slice_index_or xs j d))

-- the index of the record with key k
abbrev pub index_of : {R K : Type 0} → (R → K) → (K → K → Bool) → List R → K → Option ℕ
index_of key below [] k = None
index_of key below (x ∷ xs) k = if same below (key x) k then Some 0 else option_map suc (index_of key below xs k)

-- the record with key k
abbrev pub record_of : {R K : Type 0} → (R → K) → (K → K → Bool) → List R → K → Option R
record_of key below [] k = None
record_of key below (x ∷ xs) k = if same below (key x) k then Some x else record_of key below xs k

-- how many records have keys below k
abbrev pub rank_of : {R K : Type 0} → (R → K) → (K → K → Bool) → List R → K → ℕ
rank_of key below [] k = 0
rank_of key below (x ∷ xs) k = if below (key x) k then suc (rank_of key below xs k) else rank_of key below xs k

-- the records whose keys are not below `low` and are below `high`
abbrev pub part_of : {R K : Type 0} → (R → K) → (K → K → Bool) → List R → K → K → List R
part_of key below xs low high = filter (λ x. not (below (key x) low) && below (key x) high) xs

-- the others: those whose keys are below `low`, or not below `high`
abbrev pub without_part : {R K : Type 0} → (R → K) → (K → K → Bool) → List R → K → K → List R
without_part key below xs low high = filter (λ x. below (key x) low || not (below (key x) high)) xs

-- the records with r before the first whose key is not below its own
abbrev pub with_record : {R K : Type 0} → (R → K) → (K → K → Bool) → List R → R → List R
with_record key below [] r = r ∷ []
with_record key below (x ∷ xs) r = if below (key x) (key r) then x ∷ with_record key below xs r else r ∷ (x ∷ xs)

-- the records without the one with key k
abbrev pub without_key : {R K : Type 0} → (R → K) → (K → K → Bool) → List R → K → List R
without_key key below [] k = []
without_key key below (x ∷ xs) k = if same below (key x) k then xs else x ∷ without_key key below xs k

-- the records with r in the place of the one with its key
abbrev pub replaced : {R K : Type 0} → (R → K) → (K → K → Bool) → List R → R → List R
replaced key below [] r = []
replaced key below (x ∷ xs) r = if same below (key x) (key r) then r ∷ xs else x ∷ replaced key below xs r

-- k is above the key before index i and below the one after it, where there are such
abbrev pub fits_at : {R K : Type 0} → (R → K) → (K → K → Bool) → List R → R → K → ℕ → Bool
fits_at key below xs d k i = (i == 0 || below (key (slice_index_or xs (i - 1) d)) k) && (nat_le (length xs) (i + 1) || below k (key (slice_index_or xs (i + 1) d)))

-- the same of an index, if any
abbrev pub fits_over : {R K : Type 0} → (R → K) → (K → K → Bool) → List R → R → K → Option ℕ → Bool
fits_over key below xs d k None = false
fits_over key below xs d k (Some i) = fits_at key below xs d k i

-- key k finds w in ys, and every other key finds there what it finds in xs
abbrev pub Alone : {R K : Type 0} → (R → K) → (K → K → Bool) → List R → List R → K → Option R → Type 0
Alone {R} {K} key below xs ys k w = (q : K) → record_of key below ys q ≡ (if same below k q then w else record_of key below xs q)

-- the index that a search answers, found or not
abbrev pub either : Result ℕ ℕ → ℕ
either (Ok i) = i
either (Err i) = i

-- what an insertion answers in a table with room for `room` records: present, else full, else placed
abbrev pub answer : {R K : Type 0} → (R → K) → (K → K → Bool) → ℕ → List R → R → Result (Unit {0}) InsertError
answer key below room xs r = if is_some (index_of key below xs (key r)) then Err Present else if nat_lt (length xs) room then Ok tt else Err Full

-- the records after that answer
abbrev pub after : {R K : Type 0} → (R → K) → (K → K → Bool) → List R → R → Result (Unit {0}) InsertError → List R
after key below xs r (Ok _) = with_record key below xs r
after key below xs r (Err _) = xs
