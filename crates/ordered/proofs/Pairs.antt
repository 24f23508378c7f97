-- A relation between each record and the later ones, and what a list contains, when lists are joined, mapped or filtered.
-- Assumes nothing.
use Rattle.std.proofs.Common.{◌≡◌, zero, suc, Bool, true, List, [], ◌∷◌, ◌++◌, map, refl, sym, ap, arith}
use Rattle.std.specs.List.{All, AllPairs, Contains, filter}
use Rattle.std.proofs.lemmas.Bool.{cond_both}
use Rattle.std.proofs.lemmas.List.Elements.{All-append, All-contains, All-contains_itself, All-filter, All-head, All-map, All-tail, filter_passes}
use Rattle.std.proofs.lemmas.List.Kept.{AllPairs-cons}

module _ {X : Type 0} (R : X → X → Type 0) where
  to_first : (x : X) (xs : List X) → AllPairs R (x ∷ xs) → All (R x) xs
  to_first x xs a k d lt = a 0 (suc k) d (omega arith) (omega arith)

  to_others : (x : X) (xs : List X) → AllPairs R (x ∷ xs) → AllPairs R xs
  to_others x xs a i j d lt w = a (suc i) (suc j) d (omega arith) (omega arith)

  pub pairs_append : (xs ys : List X) → AllPairs R xs → AllPairs R ys → All (λ x. All (R x) ys) xs → AllPairs R (xs ++ ys)
  pairs_append [] ys a b across = b
  pairs_append (x ∷ xs) ys a b across =
      AllPairs-cons R x (xs ++ ys) (All-append (R x) xs ys (to_first x xs a) (All-head (λ x. All (R x) ys) x xs across))
      (pairs_append xs ys (to_others x xs a) b (All-tail (λ x. All (R x) ys) x xs across))

  pub pairs_map : {Y : Type 0} (f : Y → X) (ys : List Y) → AllPairs (λ x y. R (f x) (f y)) ys → AllPairs R (map f ys)
  pairs_map f [] a = λ i j d lt w. absurd (omega arith)
  pairs_map f (y ∷ ys) a =
      AllPairs-cons R (f y) (map f ys) (All-map (R (f y)) f ys (λ k d lt. a 0 (suc k) d (omega arith) (omega arith)))
      (pairs_map f ys (λ i j d lt w. a (suc i) (suc j) d (omega arith) (omega arith)))

module _ {X : Type 0} where
  contains_first : (x y : X) (xs : List X) → x ≡ y → Contains (x ∷ xs) y
  contains_first x y xs e = (0, omega arith, e)

  pub contains_later : (x y : X) (xs : List X) → Contains xs y → Contains (x ∷ xs) y
  contains_later x y xs c = (suc c.0, omega arith, c.2)

module _ {X : Type 0} (p : X → Bool) where
  pub filter_contains : (xs : List X) (x : X) → Contains xs x → p x ≡ true → Contains (filter p xs) x
  filter_contains [] x c passes = absurd (omega arith)
  filter_contains (y ∷ ys) x (zero, lt, e) passes = rw (e, passes) (contains_first x x (filter p ys) refl)
  filter_contains (y ∷ ys) x (suc i, lt, e) passes =
      let later = filter_contains ys x (i, omega arith, e) passes in
      cond_both (p y) (y ∷ filter p ys) (filter p ys) (λ zs. Contains zs x) (λ _. contains_later y x (filter p ys) later) (λ _. later)

  pub contains_filter : (xs : List X) (x : X) → Contains (filter p xs) x → Contains xs x × (p x ≡ true)
  contains_filter xs x c =
      (All-contains (Contains xs) (filter p xs) x (All-filter p (Contains xs) xs (All-contains_itself xs)) c, All-contains (λ y. p y ≡ true) (filter p xs) x (filter_passes p xs) c)

module _ {X Y : Type 0} (f : Y → X) where
  pub map_contains : (ys : List Y) (y : Y) → Contains ys y → Contains (map f ys) (f y)
  map_contains [] y c = absurd (omega arith)
  map_contains (z ∷ ys) y (zero, lt, e) = contains_first (f z) (f y) (map f ys) (ap f e)
  map_contains (z ∷ ys) y (suc i, lt, e) = contains_later (f z) (f y) (map f ys) (map_contains ys y (i, omega arith, e))

  pub contains_map : (ys : List Y) (x : X) → Contains (map f ys) x → (y : Y) × Contains ys y × (x ≡ f y)
  contains_map [] x c = absurd (omega arith)
  contains_map (z ∷ ys) x (zero, lt, e) = (z, contains_first z z ys refl, sym e)
  contains_map (z ∷ ys) x (suc i, lt, e) = let later = contains_map ys x (i, omega arith, e) in (later.0, contains_later z later.0 ys later.1, later.2)
