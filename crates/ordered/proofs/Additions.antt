-- A record that joins a table: what is known of its key, and how many records there are then. Assumes nothing.
use Rattle.std.proofs.Common.{◌≡◌, ◌+◌, Bool, List, [], ◌∷◌, length, None, refl, arith}
use Rattle.ordered.specs.Tables.{index_of, record_of, with_record}

module _ {R K : Type 0} (key : R → K) (below : K → K → Bool) where
  -- a key that finds no record has no index
  pub no_index_of : (xs : List R) (k : K) → record_of key below xs k ≡ None → index_of key below xs k ≡ None
  no_index_of [] k none = refl
  no_index_of (x ∷ xs) k none = grind (arith, no_index_of xs k)

  pub length_with : (xs : List R) (r : R) → length (with_record key below xs r) ≡ length xs + 1
  length_with [] r = refl
  length_with (x ∷ xs) r = grind (arith, length_with xs r)
