-- Records that belong to lists, each list a run of the table, and what becomes of them when one list joins another.
-- Assumes nothing.
-- Throughout, `key` is the key of a record, `below` the order of the keys, `list` the number of a record's list,
-- `moved x l` the record x moved to list l, and xs are records, in a table's order.
--     IsListing           the laws that every such kind of record proves
--     list_of             the records of one list
--     Stands              a record is found by its key
--     Apart               no record that is moved from one list to another has the key of a record that is there
--     Joined              what stands when all of a list have moved to another
--     IsJoin              two lists of records, of which the second is the first when a list has joined another
use Rattle.std.specs.Prelude.{◌≡◌, ◌≢◌, ◌↔◌, ℕ, ◌<◌, ◌==◌, Bool, List, [], filter, Some, ◌⊎◌}
use Rattle.ordered.specs.Order.{Holds}
use Rattle.ordered.specs.Tables.{Ascending, record_of}

-- the laws that every kind of record that belongs to lists proves
pub record IsListing {R K : Type 0} (key : R → K) (below : K → K → Bool) (list : R → ℕ) (moved : R → ℕ → R) : Type 0 where
  -- a record of a lower list is below one of a higher list
  pub runs : (x y : R) → list x < list y → Holds below (key x) (key y)
  -- a record is in the list that it was moved to
  pub moves : (x : R) (l : ℕ) → list (moved x l) ≡ l
  -- two records of one list stand after a move as they stood
  pub keeps : (x y : R) (l : ℕ) → list x ≡ list y → below (key (moved x l)) (key (moved y l)) ≡ below (key x) (key y)
  -- a record that is moved to its own list is what it was
  pub stays : (x : R) → moved x (list x) ≡ x

-- the records of list l
abbrev pub list_of : {R : Type 0} → (R → ℕ) → List R → ℕ → List R
list_of list xs l = filter (λ x. list x == l) xs

-- r is found by its key
abbrev pub Stands : {R K : Type 0} → (R → K) → (K → K → Bool) → List R → R → Type 0
Stands key below xs r = record_of key below xs (key r) ≡ Some r

-- no record of list a has, moved to list b, the key of a record of list b
abbrev pub Apart : {R K : Type 0} → (R → K) → (K → K → Bool) → (R → ℕ) → (R → ℕ → R) → List R → ℕ → ℕ → Type 0
Apart {R} key below list moved xs a b =
    (x y : R) → Stands key below xs x → Stands key below xs y → list x ≡ a → list y ≡ b → key (moved x b) ≢ key y

-- r is a record of list a moved to list b, or it stood and was not in list a
abbrev pub Joined : {R K : Type 0} → (R → K) → (K → K → Bool) → (R → ℕ) → (R → ℕ → R) → List R → ℕ → ℕ → R → Type 0
Joined {R} key below list moved xs a b r =
    ((x : R) × Stands key below xs x × (list x ≡ a) × (r ≡ moved x b)) ⊎ (Stands key below xs r × (list r ≢ a))

-- ys are xs, of which list a has joined list b
pub record IsJoin {R K : Type 0} (key : R → K) (below : K → K → Bool) (list : R → ℕ) (moved : R → ℕ → R) (xs ys : List R) (a b : ℕ) : Type 0 where
  -- in order, if they were and no keys clash
  pub ordered : Ascending key (Holds below) xs → Apart key below list moved xs a b → Ascending key (Holds below) ys
  -- and then just these stand
  pub stands : Ascending key (Holds below) xs → Apart key below list moved xs a b → (r : R) → Stands key below ys r ↔ Joined key below list moved xs a b r
  -- nothing changes where the lists are one, or nothing moves
  pub same : a ≡ b → ys ≡ xs
  pub none : Ascending key (Holds below) xs → list_of list xs a ≡ [] → ys ≡ xs
