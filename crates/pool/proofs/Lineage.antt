-- Going from previous to previous.
--     Up                        what is met one step up
--     no_previous, older_is     it is the previous, where there is one
--     CountedTo                 how many ancestors were met so far
--     count_more, count_end     one more, and no more
--     Climbed, ClimbedFrom      where so many steps lead
--     climb_more, climb_on      one step more, and no last one before the oldest ancestor
use Rattle.std.proofs.Common.{◌≡◌, ℕ, ltb, ◌+◌, ◌-◌, ◌^◌, ◌<◌, ◌≤◌, Bool, min, List, [], ◌∷◌, ◌++◌, length, get_or, Some, None, Option, sym, ap, ◌∙◌, subst, arith, append_assoc, length-append}
use Rattle.std.proofs.Math.Seq.{get_or-append_seam}
use Rattle.std.specs.Bool.{then_some}
use Rattle.std.specs.Option.{MatchOption}
use Rattle.std.proofs.lemmas.Bool.{lt-ltb}
use Rattle.records.specs.declared.rows.Row.{Row}
use Rattle.model.specs.Datasets.{State, Dataset, kind_stamp}
use Rattle.model.specs.Families.{Ancestors, none, after}
use Rattle.model.specs.Soundness.{Sound}
use Rattle.model.proofs.Buckets.{few, line_below, no_line}
use Rattle.model.proofs.Rows.{row_of, row_number, same_row, some_none}

-- what is met one step up from the row r
abbrev pub Up : State → Row → Option Row → Type 0
Up s r o = MatchOption o (r.previous ≡ None) (λ x. Dataset s x.number x × (r.previous ≡ Some x.number))

module _ (s : State) (r : Row) (m : ℕ) (sound : Sound s) (found : Dataset s r.number r) (previous : r.previous ≡ Some m) where
  -- a previous exists
  pub no_previous : None ≡ row_of s.rows m → ⊥
  no_previous missing =
      let (x, _, there, _, _, _) = sound.family.previous r.number m r found previous in
      some_none (row_of s.rows m) x there (sym missing)

  -- and is older
  pub older_is : (x : Row) (a b : ℕ) (o : Option Row) → Some x ≡ row_of s.rows m → a ≡ kind_stamp s.group x.kind → b ≡ kind_stamp s.group r.kind
      → o ≡ then_some (ltb a b) x → Up s r o
  older_is x a b o there is_a is_b is =
      let (y, t, there', kind, _, less) = sound.family.previous r.number m r found previous in
      let same : x ≡ y = same_row s.rows m x y (sym there) there' in
      let low : a ≡ t = is_a ∙ ap (λ (z : Row). kind_stamp s.group z.kind) same ∙ ap (kind_stamp s.group) kind in
      let number = row_number s.rows m x (sym there) in
      subst (Up s r) (sym (is ∙ ap (λ (v : Bool). then_some v x) (lt-ltb a b (omega arith))))
      (subst (λ (j : ℕ). Dataset s j x) (sym number) (sym there), previous ∙ ap (λ (j : ℕ). Some j) (sym number))

-- so many ancestors of the row r are met before the row x, and the ancestors of x are left
abbrev pub CountedTo : State → Row → Row → ℕ → Type 0
CountedTo s r x count =
    Sound s → Dataset s r.number r
    → Dataset s x.number x × ((ks : List ℕ) → Ancestors s x.number ks → (ms : List ℕ) × Ancestors s r.number ms × (count + length ks ≡ length ms))

module _ (s : State) (r : Row) where
  -- the previous is met
  pub count_more : (x y : Row) (count more : ℕ) → CountedTo s r x count → (Sound s → Dataset s x.number x → Up s x (Some y)) → more ≡ min (count + 1) (2 ^ 32 - 1) → CountedTo s r y more
  count_more x y count more counted up is sound found =
      let (here, rest) = counted sound found in
      let (there, previous) = up sound here in (
        there,
        λ ks line.
            let (ms, whole, e) = rest (ks ++ y.number ∷ []) (after (x, here, previous) line) in
            (ms, whole, omega (arith, length-append ks (y.number ∷ []), few s sound r.number ms whole, sound.shape.group)),
      )

  -- there is no previous
  pub count_end : (x : Row) (count : ℕ) → CountedTo s r x count → (Sound s → Dataset s x.number x → Up s x None) → Sound s → Dataset s r.number r
      → (ms : List ℕ) × Ancestors s r.number ms × (count ≡ length ms)
  count_end x count counted up sound found =
      let (here, rest) = counted sound found in
      let (ms, whole, e) = rest [] (none x here (up sound here)) in
      (ms, whole, omega arith)

-- the row x is met in so many steps, going up the ancestors ms: those older than x are left
pub record Climbed (s : State) (ms : List ℕ) (x : Row) (steps : ℕ) : Type 0 where
  pub found : Dataset s x.number x
  pub older : List ℕ
  pub younger : List ℕ
  pub line : Ancestors s x.number older
  pub parts : ms ≡ older ++ younger
  pub many : length younger ≡ steps
  pub here : 0 < steps → get_or ms (length older) 0 ≡ x.number

-- the same, going up from the row r that has so many ancestors
abbrev pub ClimbedFrom : State → Row → Row → ℕ → Type 0
ClimbedFrom s r x steps = (ms : List ℕ) → Sound s → Dataset s r.number r → Ancestors s r.number ms → steps ≤ length ms → Climbed s ms x steps

module _ (s : State) (r : Row) where
  -- the previous is met
  pub climb_more : (x y : Row) (i : ℕ) → ClimbedFrom s r x i → (Sound s → Dataset s x.number x → Up s x (Some y)) → ClimbedFrom s r y (i + 1)
  climb_more x y i climbed up ms sound found line within =
      let at = climbed ms sound found line (omega arith) in
      let (there, previous) = up sound at.found in
      let (ks, below, last) = line_below x y.number at.line at.found previous in
      let parts : ms ≡ ks ++ (y.number ∷ at.younger) = at.parts ∙ ap (λ (js : List ℕ). js ++ at.younger) last ∙ append_assoc ks (y.number ∷ []) at.younger in
      record {
        found = there;
        older = ks;
        younger = y.number ∷ at.younger;
        line = below;
        parts = parts;
        many = omega (arith, at.many);
        here = λ _. ap (λ (js : List ℕ). get_or js (length ks) 0) parts ∙ get_or-append_seam ks y.number at.younger 0;
      }

  -- before the oldest ancestor, there is a previous
  pub climb_on : (x : Row) (i steps : ℕ) → ClimbedFrom s r x i → (Sound s → Dataset s x.number x → Up s x None) → i < steps
      → (ms : List ℕ) → Sound s → Dataset s r.number r → Ancestors s r.number ms → steps ≤ length ms → ⊥
  climb_on x i steps climbed up lt ms sound found line within =
      let at = climbed ms sound found line (omega arith) in
      let e : ms ≡ at.younger = at.parts ∙ ap (λ (js : List ℕ). js ++ at.younger) (no_line x at.line at.found (up sound at.found)) in
      omega (arith, ap length e, at.many)
