-- Two snapshots destroyed in either order.
use Rattle.std.proofs.Common.{◌≡◌, ℕ, ◌+◌, ◌<◌, Bool, true, not, ◌&&◌, ◌||◌, ◌⊎◌, Some, None, Ok, Option, sym, refl, ap, ◌∙◌, subst, inl, inr, arith}
use Rattle.std.specs.Option.{option_map}
use Rattle.std.proofs.lemmas.Bool.{cases_eq}
use Rattle.blocks.specs.Sets.{count, union}
use Rattle.blocks.proofs.Counts.{count_same, count_sum}
use Rattle.records.specs.declared.rows.Row.{Row}
use Rattle.model.specs.Datasets.{State, IsSnapshot, kind_stamp}
use Rattle.model.specs.Families.{IsClone, OwnSnapshot}
use Rattle.model.specs.Laws.{DestroysBoth, EitherOrder}
use Rattle.model.specs.Questions.{questions, AllYes}
use Rattle.model.specs.Soundness.{Sound}
use Rattle.model.specs.Steps.{given, changed, with_previous}
use Rattle.model.specs.declared.Answer.TheVariants.{Done}
use Rattle.model.specs.declared.Call.TheVariants.{Destroy}
use Rattle.model.specs.declared.Changed.{Changed}
use Rattle.model.proofs.Ancestors.{not_both, previous_other, base_some, base_below}
use Rattle.model.proofs.Keeps.{steps_keep_sound}
use Rattle.model.proofs.Passes.{beyond, beyond_both, past, Passed, destroy_passed, was_there, still_snapshot}
use Rattle.model.proofs.Places.{one_row}
use Rattle.model.proofs.SameTrees.{bare, plain, SameTrees, same_trees}

-- destroying the one leaves the other free to be destroyed
still_allowed : (s t : State) (n m x : ℕ) (p : Option ℕ) → Passed s t n p → IsSnapshot s m x → (n ≡ m → ⊥) → AllYes (questions s (Destroy m)) → AllYes (questions t (Destroy m))
still_allowed s t n m x p passed is apart asked = (asked.0, ((now.0.0, now.0.1), (clones, (snapshots, tt))))
  where
    now : (now : IsSnapshot t m x) × (now.0.previous ≡ beyond n p is.0.previous)
    now = still_snapshot s t n p passed m x (λ e. apart (sym e)) is

    clones : (k : ℕ) → IsClone t m k → ⊥
    clones k (y, there, head) =
        let (_, (z, here, e)) = was_there s t n p passed k y there in
        asked.1.1.0 k (z, here, ap (λ (w : Row). w.kind) e ∙ head)

    snapshots : (k : ℕ) → OwnSnapshot t m k → ⊥
    snapshots k (o, (y, there, head), _) =
        not_both y.kind o x head (ap (λ (w : Row). w.kind) (one_row t m y now.0.0 there now.0.1) ∙ now.0.2)

-- a previous is an older snapshot
older : (s : State) → Sound s → (n m x y : ℕ) (is : IsSnapshot s n x) → IsSnapshot s m y → is.0.previous ≡ Some m → y < x
older s sound n m x y (r, here, kind) (q, there, stamp) e =
    omega (arith, base_below s sound n r here, base_some s r q m y e there stamp, ap (kind_stamp s.group) kind)

-- a block owned at first and not at last is given back by the one or by the other of two changes that take none
given_once : (was is after : Bool) → (is ≡ true → was ≡ true) → (after ≡ true → is ≡ true) → (was && not after) ≡ ((was && not is) || (is && not after))
given_once was is after first second = grind arith

given_both : (s t u : State) → t.size ≡ s.size → ((b : ℕ) → t.owns b ≡ true → s.owns b ≡ true) → ((b : ℕ) → u.owns b ≡ true → t.owns b ≡ true)
    → given s t + given t u ≡ given s u
given_both s t u size first second =
    ap (λ (z : ℕ). given s t + count later z) size ∙ sym (count_sum earlier later s.size (λ b low. grind arith))
    ∙ sym (count_same (union earlier later) (λ b. s.owns b && not (u.owns b)) s.size (λ b low. given_once (s.owns b) (t.owns b) (u.owns b) (first b) (second b)))
  where
    earlier : ℕ → Bool
    earlier b = s.owns b && not (t.owns b)

    later : ℕ → Bool
    later b = t.owns b && not (u.owns b)

-- what is left in u of s once snapshots n and m, whose previous are p and q, are destroyed, which gives back g blocks
record BothPassed (s u : State) (n m : ℕ) (p q : Option ℕ) (g : ℕ) : Type 0 where
  sound : Sound u
  apart : n ≡ m → ⊥
  bare : bare u ≡ bare s
  first : plain u n ≡ None
  second : plain u m ≡ None
  others : (k : ℕ) → (k ≡ n → ⊥) → (k ≡ m → ⊥) → plain u k ≡ option_map (past m (beyond n p q)) (option_map (past n p) (plain s k))
  blocks : g ≡ given s u

both_passed : (s u : State) (n m x y g : ℕ) → Sound s → (is : IsSnapshot s n x) → (also : IsSnapshot s m y) → DestroysBoth s n m u g
    → BothPassed s u n m is.0.previous also.0.previous g
both_passed s u n m x y g sound is also both = record {
  sound = steps_keep_sound t (Destroy m) (Ok (Done both.second)) u between both.other;
  apart = λ e. other (sym e);
  bare = second.bare ∙ first.bare;
  first = second.others n (λ e. other (sym e)) ∙ ap (option_map (past m q)) first.gone;
  second = second.gone;
  others = λ k far beside. second.others k beside ∙ ap (option_map (past m q)) (first.others k far);
  blocks =
      sym both.given ∙ ap (λ (z : ℕ). z + both.second.given) (answered s t both.first both.one.1.0) ∙ ap (λ (z : ℕ). given s t + z) (answered t u both.second both.other.1.0)
      ∙ given_both s t u (ap (λ (z : State). z.size) first.bare) first.owned second.owned;
}
  where
    t : State
    t = both.between

    p : Option ℕ
    p = is.0.previous

    q : Option ℕ
    q = beyond n p also.0.previous

    first : Passed s t n p
    first = destroy_passed s t n x (Done both.first) sound is both.one

    between : Sound t
    between = steps_keep_sound s (Destroy n) (Ok (Done both.first)) t sound both.one

    other : m ≡ n → ⊥
    other = let (r, here) = both.other.0.1.0 in (was_there s t n p first m r here).0

    second : Passed t u m q
    second =
        let (now, previous) = still_snapshot s t n p first m y other also in
        subst (Passed t u m) previous (destroy_passed t u m y (Done both.second) between now both.other)

    answered : (a b : State) (c : Changed) → Done c ≡ Done (changed a b) → c.given ≡ given a b
    answered a b c e = let is : c ≡ changed a b = cc in ap (λ (z : Changed). z.given) is

-- both orders leave the same trees
both_same : (s u v : State) (n m : ℕ) (p q : Option ℕ) (g h : ℕ) → (p ≡ Some n → ⊥) → (q ≡ Some m → ⊥) → (p ≡ Some m → q ≡ Some n → ⊥)
    → BothPassed s u n m p q g → BothPassed s v m n q p h → SameTrees u v
both_same s u v n m p q g h own_n own_m circle a b = record { bare = a.bare ∙ sym b.bare; rows = λ k. rows k (cases_eq k n) (cases_eq k m) }
  where
    either : (o : Option Row) → option_map (past m (beyond n p q)) (option_map (past n p) o) ≡ option_map (past n (beyond m q p)) (option_map (past m q) o)
    either None = refl
    either (Some r) = ap (λ l. Some (with_previous r l 0)) (beyond_both n m p q r.previous a.apart own_n own_m circle)

    rows : (k : ℕ) → (k ≡ n) ⊎ (k ≡ n → ⊥) → (k ≡ m) ⊎ (k ≡ m → ⊥) → plain u k ≡ plain v k
    rows k (inl e) _ = subst (λ j. plain u j ≡ plain v j) (sym e) (a.first ∙ sym b.second)
    rows k (inr _) (inl e) = subst (λ j. plain u j ≡ plain v j) (sym e) (a.second ∙ sym b.first)
    rows k (inr far) (inr beside) = a.others k far beside ∙ either (plain s k) ∙ sym (b.others k beside far)

pub either_order : EitherOrder
either_order = record {
  allowed = λ s t n m x y a sound is also apart asked step.
      still_allowed s t n m y is.0.previous (destroy_passed s t n x a sound is step) also apart asked;
  same = same;
}
  where
    same : (s u v : State) (n m x y g h : ℕ) → Sound s → IsSnapshot s n x → IsSnapshot s m y → DestroysBoth s n m u g → DestroysBoth s m n v h → (u ≡ v) × (g ≡ h)
    same s u v n m x y g h sound is also there back = (state, a.blocks ∙ ap (given s) state ∙ sym b.blocks)
      where
        a : BothPassed s u n m is.0.previous also.0.previous g
        a = both_passed s u n m x y g sound is also there

        b : BothPassed s v m n also.0.previous is.0.previous h
        b = both_passed s v m n y x h sound also is back

        trees : SameTrees u v
        trees =
            both_same s u v n m is.0.previous also.0.previous g h (λ e. previous_other s sound n n (is.0, is.1, e) refl) (λ e. previous_other s sound m m (also.0, also.1, e) refl)
            (λ e f. omega (arith, older s sound n m x y is also e, older s sound m n y x also is f)) a b

        state : u ≡ v
        state = same_trees u v trees a.sound b.sound
