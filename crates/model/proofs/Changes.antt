-- How many blocks a change takes and gives back.
--     balances          what is owned after, with what is given back, is what was owned, with what is taken
--     unchanged         where the owned blocks are as before, nothing is taken or given back
--     none_taken        where every owned block was owned, nothing is taken
--     reached_most      a dataset of height 1 whose places are the first w reaches at most w blocks
--     born_most         so it counts at most w blocks
--     given_born        a call on one dataset gives back at most what was born in it since its previous
--     path_taken        a replaced path takes a block for each new level
--     path_given        and gives back at most the blocks of the old path
use Rattle.std.proofs.Common.{◌≡◌, ℕ, zero, suc, ◌+◌, ◌^◌, ◌<◌, ◌≤◌, Bool, true, false, cond, not, ◌&&◌, ◌⊎◌, List, Some, None, Option, sym, refl, ap, ◌∙◌, subst, inl, inr, arith}
use Rattle.std.proofs.lemmas.Bool.{cases_eq, cases_lt, both_ways, and_parts, and_from, not-true, not_from_false}
use Rattle.blocks.specs.Sets.{count}
use Rattle.blocks.proofs.Counts.{count_empty}
use Rattle.records.specs.declared.rows.Pointer.{Pointer}
use Rattle.records.specs.declared.rows.Row.{Row}
use Rattle.tree.specs.Trees.{fan, at, Holds}
use Rattle.model.specs.Datasets.{State, Dataset, base, Has, Reaches, Reached, Young}
use Rattle.model.specs.Figures.{HowMany}
use Rattle.model.specs.Paths.{Leaves, path_of}
use Rattle.model.specs.Soundness.{Sound, OwnedReached}
use Rattle.model.specs.Steps.{Replaced, taken, given, changed}
use Rattle.model.proofs.Ancestors.{same_row, previous_other}
use Rattle.model.proofs.Counts.{count_balance, count_part, covered}
use Rattle.model.proofs.Moves.{Moved}
use Rattle.model.proofs.Owners.{Given, kept_or_given, owned_moved}
use Rattle.model.proofs.Sums.{one_count, several}

-- one block, owned or not before and after
balance : (was is : Bool) → cond is 1 0 + cond (was && not is) 1 0 ≡ cond was 1 0 + cond (is && not was) 1 0
balance true true = refl
balance true false = refl
balance false true = refl
balance false false = refl

-- what is owned after, with what is given back, is what was owned, with what is taken
pub balances : (s t : State) → count t.owns s.size + given s t ≡ count s.owns s.size + taken s t
balances s t =
    count_balance t.owns (λ b. s.owns b && not (t.owns b)) s.owns (λ b. t.owns b && not (s.owns b)) s.size (λ b _. balance (s.owns b) (t.owns b))

-- a set has nothing besides one that it is part of
none_beside : (f g : ℕ → Bool) (n : ℕ) → ((b : ℕ) → f b ≡ true → g b ≡ true) → count (λ b. f b && not (g b)) n ≡ 0
none_beside f g n part = count_empty (λ b. f b && not (g b)) n (λ b _. go (f b) (g b) (part b))
  where
    go : (is was : Bool) → (is ≡ true → was ≡ true) → (is && not was) ≡ false
    go true was part = rw (part refl) refl
    go false was part = refl

-- where every owned block was owned, nothing is taken
pub none_taken : (s t : State) → ((b : ℕ) → t.owns b ≡ true → s.owns b ≡ true) → taken s t ≡ 0
none_taken s t = none_beside t.owns s.owns s.size

-- where the owned blocks are as before, nothing is taken or given back
pub unchanged : (s t : State) → t.owns ≡ s.owns → changed s t ≡ record { taken = 0; given = 0 }
unchanged s t same =
    let takes : taken s t ≡ 0 = none_taken s t (λ b own. ap (λ (f : ℕ → Bool). f b) (sym same) ∙ own) in
    let gives : given s t ≡ 0 = none_beside s.owns t.owns s.size (λ b own. ap (λ (f : ℕ → Bool). f b) same ∙ own) in
    rw (takes, gives) refl

-- the block of a pointer
abbrev block_of : Option Pointer → ℕ
block_of None = 0
block_of (Some q) = q.block

-- a dataset of height 1 whose places are the first w, the root first and then the positions in turn, reaches at most w blocks
pub reached_most : (s : State) (n w k : ℕ) (r : Row) (P : ℕ → Type 0) → Dataset s n r → r.height ≡ 1 → ((d i : ℕ) (q : Pointer) → Has s n d i q → d + i < w)
    → ((b : ℕ) → P b → Reaches s n b) → HowMany P s.size k → k ≤ w
reached_most s n w k r P here low within reaches many = omega (arith, many.counted, covered number w many.test s.size each)
  where
    number : ℕ → ℕ
    number zero = block_of (at s.memory r.root 0 0)
    number (suc i) = block_of (at s.memory r.root 1 i)

    place : (d i : ℕ) (q : Pointer) → d ≤ 1 → (d ≡ 0 → i ≡ 0) → at s.memory r.root d i ≡ Some q → number (d + i) ≡ q.block
    place zero i q deep first is =
        let e : i ≡ 0 = first refl in
        let slot : 0 + i ≡ 0 = omega arith in
        ap number slot ∙ ap (λ (j : ℕ). block_of (at s.memory r.root 0 j)) (sym e) ∙ ap block_of is
    place (suc zero) i q deep first is = let slot : 1 + i ≡ suc i = omega arith in ap number slot ∙ ap block_of is
    place (suc (suc d)) i q deep first is = absurd (omega arith)

    each : (b : ℕ) → b < s.size → many.test b ≡ true → (e : ℕ) × (e < w) × (number e ≡ b)
    each b less is =
        let (q, (d, i, has), e) = reaches b ((many.tells b less).0 is) in
        let row : has.row ≡ r = same_row has.row r has.found here in
        let holds = subst (λ (y : Row). Holds s.memory y.root y.height d i q) row has.holds in
        (d + i, within d i q has, place d i q (omega (arith, holds.deep)) (λ root. omega (arith, holds.wide, ap (λ (j : ℕ). fan ^ j) root)) holds.here ∙ e)

-- so it counts at most as many
pub born_most : (s : State) (n w : ℕ) (r : Row) → Sound s → Dataset s n r → r.height ≡ 1 → ((d i : ℕ) (q : Pointer) → Has s n d i q → d + i < w) → r.born ≤ w
born_most s n w r sound here low within = reached_most s n w r.born r (Young s n) here low within (λ b (_, q, _, points, _, e). (q, points, e)) (sound.born n r here)

-- where all datasets but n keep their places, at most what was born in n since its previous is given back
pub given_born : (s t : State) (n : ℕ) (r : Row) → Sound s → OwnedReached t → Dataset s n r
    → ((m d i : ℕ) (q : Pointer) → Has s m d i q → (m ≡ n → ⊥) → Has t m d i q) → given s t ≤ r.born
given_born s t n r sound owned here kept = omega (arith, count_part _ young.test s.size gone, young.counted)
  where
    young : HowMany (Young s n) s.size r.born
    young = sound.born n r here

    gone : (b : ℕ) → b < s.size → (s.owns b && not (t.owns b)) ≡ true → young.test b ≡ true
    gone b less is = reached ((sound.owned b).0 parts.0)
      where
        parts : (s.owns b ≡ true) × (not (t.owns b) ≡ true)
        parts = and_parts (s.owns b) (not (t.owns b)) is

        still : Reached t b → ⊥
        still reach = both_ways (t.owns b) (not-true (t.owns b) parts.1) ((owned b).1 reach)

        mine : (d i : ℕ) (q : Pointer) → Has s n d i q → q.block ≡ b → (base s r < q.birth) ⊎ (q.birth ≤ base s r) → young.test b ≡ true
        mine d i q has e (inl newer) = (young.tells b less).1 (r, q, here, (d, i, has), newer, e)
        mine d i q has e (inr older) =
            let (m, previous, up) = sound.birth_law n d i r q here has older in
            absurd (still (m, (q, (d, i, kept m d i q up (previous_other s sound n m (r, here, previous))), e)))

        reached : Reached s b → young.test b ≡ true
        reached (m, (q, (d, i, has), e)) = go (cases_eq m n)
          where
            go : (m ≡ n) ⊎ (m ≡ n → ⊥) → young.test b ≡ true
            go (inl is) = mine d i q (subst (λ (j : ℕ). Has s j d i q) is has) e (cases_lt (base s r) q.birth)
            go (inr other) = absurd (still (m, (q, (d, i, kept m d i q has other), e)))

module _ (s t : State) (n : ℕ) (r : Row) (p k : ℕ) (bytes : List ℕ) (sound : Sound s) (rep : Replaced s t n r p k bytes) (moved : Moved s t n r p k rep.new) where
  -- a replaced path takes a block for each new level
  pub path_taken : taken s t ≡ k
  path_taken = one_count New s.size (taken s t) k takes (several rep.new s.size k (λ d less. (rep.free d less).0) rep.apart)
    where
      New : ℕ → Type 0
      New b = (d : ℕ) × (d < k) × (rep.new d ≡ b)

      takes : HowMany New s.size (taken s t)
      takes = record { test = λ b. t.owns b && not (s.owns b); tells = λ b _. (there b, back b); counted = refl }
        where
          there : (b : ℕ) → (t.owns b && not (s.owns b)) ≡ true → New b
          there b is = let parts = and_parts (t.owns b) (not (s.owns b)) is in go (not-true (s.owns b) parts.1) ((rep.owned b).0 parts.0)
            where
              go : s.owns b ≡ false → New b ⊎ ((s.owns b ≡ true) × (Given s r p b → ⊥)) → New b
              go free (inl new) = new
              go free (inr (was, _)) = absurd (both_ways (s.owns b) free was)

          back : (b : ℕ) → New b → (t.owns b && not (s.owns b)) ≡ true
          back b (d, less, is) =
              and_from _ _ ((rep.owned b).1 (inl (d, less, is))) (not_from_false _ (subst (λ (z : ℕ). s.owns z ≡ false) is (rep.free d less).1))

  -- and gives back at most the blocks of the old path, here of its first j levels
  pub path_given : (j : ℕ) → ((q : Pointer) (l : Leaves s r p q) → l.0 < j) → given s t ≤ j
  path_given j short = covered (λ d. block_of (path_of s r p d)) j (λ b. s.owns b && not (t.owns b)) s.size each
    where
      each : (b : ℕ) → b < s.size → (s.owns b && not (t.owns b)) ≡ true → (e : ℕ) × (e < j) × (block_of (path_of s r p e) ≡ b)
      each b _ is =
          let parts = and_parts (s.owns b) (not (t.owns b)) is in
          go (not-true (t.owns b) parts.1) (kept_or_given s t n r p k rep.new sound moved b ((sound.owned b).0 parts.0))
        where
          go : t.owns b ≡ false → Reached t b ⊎ Given s r p b → (e : ℕ) × (e < j) × (block_of (path_of s r p e) ≡ b)
          go gone (inl still) = absurd (both_ways (t.owns b) gone ((owned_moved s t n r p k bytes sound rep moved b).1 still))
          go _ (inr (q, leaves, _, e)) = (leaves.0, short q leaves, ap block_of leaves.2 ∙ e)
