-- The records between two keys, by ranks. Assumes nothing.
use Rattle.std.proofs.Common.{◌≡◌, ℕ, suc, ◌-◌, ◌≤◌, max, Bool, false, List, [], ◌∷◌, ◌++◌, take, drop, sym, refl, ap, ◌∙◌, subst, arith}
use Rattle.std.specs.List.{between}
use Rattle.std.specs.declared.cmp.Ordering.{Ordering}
use Rattle.ordered.specs.Order.{Holds, IsStrictPart}
use Rattle.ordered.specs.Tables.{Ascending, part_of, rank_of, without_part}
use Rattle.ordered.proofs.Edits.{first, others, none_below}
use Rattle.ordered.proofs.Filters.{ascending_filter}

-- a cut of records, by its first record and the others
module _ {R : Type 0} (x : R) (xs : List R) (a b : ℕ) where
  cut_later : (i j : ℕ) → i ≡ suc a → j ≡ suc b → between i j (x ∷ xs) ≡ between a b xs
  cut_later i j from to = rw (from, to) (let e : suc b - suc a ≡ b - a = omega arith in ap (λ n. take n (drop a xs)) e)

  cut_here : (i j : ℕ) → i ≡ 0 → j ≡ suc b → between i j (x ∷ xs) ≡ x ∷ between 0 b xs
  cut_here i j from to = rw (from, to) (let e : suc b - 0 ≡ suc (b - 0) = omega arith in ap (λ n. take n (x ∷ xs)) e)

-- what a cut leaves
abbrev rest : {R : Type 0} → ℕ → ℕ → List R → List R
rest i j xs = take i xs ++ drop j xs

module _ {R : Type 0} (x : R) (xs : List R) (a b : ℕ) where
  rest_later : (i j : ℕ) → i ≡ suc a → j ≡ suc b → rest i j (x ∷ xs) ≡ x ∷ rest a b xs
  rest_later i j from to = rw (from, to) refl

  rest_here : (i j : ℕ) → i ≡ 0 → j ≡ suc b → a ≡ 0 → rest i j (x ∷ xs) ≡ rest a b xs
  rest_here i j from to none = rw (from, to, none) refl

rest_all : {R : Type 0} (xs : List R) (i j : ℕ) → i ≡ 0 → j ≡ 0 → rest i j xs ≡ xs
rest_all xs i j from to = rw (from, to) refl

cut_none : {R : Type 0} (xs : List R) (i j : ℕ) → j ≤ i → between i j xs ≡ []
cut_none xs i j le = let e : j - i ≡ 0 = omega arith in ap (λ n. take n (drop i xs)) e

module _ {R K : Type 0} (key : R → K) (below : K → K → Bool) {cmp : K → K → Ordering} (order : IsStrictPart below cmp) (low high : K) where
  part_ranks : (xs : List R) → Ascending key (Holds below) xs → between (rank_of key below xs low) (rank_of key below xs high) xs ≡ part_of key below xs low high
  part_ranks [] up = refl
  part_ranks (x ∷ xs) up =
      let a = rank_of key below xs low in
      let b = rank_of key below xs high in
      let i = rank_of key below (x ∷ xs) low in
      let j = rank_of key below (x ∷ xs) high in
      let none = λ (k : K) (over : below (key x) k ≡ false). none_below key below order.one order.chain x xs k over (first key below order.one order.chain x xs up) in
      grind (arith, none low, none high, cut_later x xs a b i j, cut_here x xs a b i j, cut_none (x ∷ xs) i j, cut_none xs a b, part_ranks xs (others key below order.one order.chain x xs up))

  -- as many from the rank of `low` on as lie before that of `high`
  pub part_cut : (xs ys : List R) (from rank to : ℕ) → ys ≡ xs → from ≡ rank_of key below xs low → rank ≡ rank_of key below xs high → to - from ≡ rank - from → Ascending key (Holds below) xs
      → take (to - from) (drop from ys) ≡ part_of key below xs low high
  part_cut xs ys from rank to same is_from is_rank many up =
      ap (λ zs. take (to - from) (drop from zs)) same ∙ ap (λ n. take n (drop from xs)) many ∙ ap (λ i. between i rank xs) is_from
      ∙ ap (λ j. between (rank_of key below xs low) j xs) is_rank ∙ part_ranks xs up

  -- where `high` is not above `low`, nothing lies between
  pub part_none : (Holds below low high → ⊥) → (xs : List R) → part_of key below xs low high ≡ []
  part_none back [] = refl
  part_none back (x ∷ xs) = grind (arith, back, order.one low high, order.chain (key x) high low, part_none back xs)

  -- the records before the rank of `low`, and those from that of `high` on
  ranks_rest : (xs : List R) → Ascending key (Holds below) xs → rest (rank_of key below xs low) (max (rank_of key below xs high) (rank_of key below xs low)) xs ≡ without_part key below xs low high
  ranks_rest [] up = refl
  ranks_rest (x ∷ xs) up =
      let a = rank_of key below xs low in
      let b = max (rank_of key below xs high) a in
      let i = rank_of key below (x ∷ xs) low in
      let j = max (rank_of key below (x ∷ xs) high) i in
      let none = λ (k : K) (over : below (key x) k ≡ false). none_below key below order.one order.chain x xs k over (first key below order.one order.chain x xs up) in
      grind (arith, none low, none high, rest_later x xs a b i j, rest_here x xs a b i j, rest_all (x ∷ xs) i j, rest_all xs a b, ranks_rest xs (others key below order.one order.chain x xs up))

  -- all but as many from the rank of `low` on as lie before that of `high`
  pub part_gone : (xs ys : List R) (from rank to : ℕ) → from ≡ rank_of key below xs low → rank ≡ rank_of key below xs high → to ≡ max rank from → ys ≡ take from xs ++ drop to xs → Ascending key (Holds below) xs
      → (ys ≡ without_part key below xs low high) × Ascending key (Holds below) ys
  part_gone xs ys from rank to is_from is_rank is_to e up =
      let kept : ys ≡ without_part key below xs low high = e ∙ rw (is_to, is_rank, is_from) (ranks_rest xs up) in
      (kept, subst (Ascending key (Holds below)) (sym kept) (ascending_filter key (Holds below) _ xs up))
