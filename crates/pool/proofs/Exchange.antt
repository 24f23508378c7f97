-- A path that was planted, and an old one that has left, are a path replaced.
--     after      the state that this leaves
--     exchange   it is what the rules say, and its counts are those of the blocks taken and given back
use Rattle.std.proofs.Common.{◌≡◌, ℕ, ◌+◌, ◌-◌, ◌<◌, ◌≤◌, Bool, true, false, not, ◌&&◌, ltb, ◌⊎◌, ◌↔◌, List, length, get_or, Some, None, Option, Result, sym, refl, ap, ◌∙◌, subst, ap₂, inl, inr, arith, MatchResult}
use Rattle.faults.specs.declared.PoolCause.{PoolCause}
use Rattle.blocks.specs.Meanings.{Meaning}
use Rattle.blocks.specs.Sets.{count}
use Rattle.blocks.proofs.Counts.{count_bound}
use Rattle.ordered.specs.Lent.{records, room}
use Rattle.ordered.specs.Tables.{replaced}
use Rattle.ordered.specs.declared.tables.Table.{Table}
use Rattle.records.specs.Keys.{number_of}
use Rattle.records.specs.declared.dead.DeadRecord.{DeadRecord}
use Rattle.records.specs.declared.rows.Pointer.{Pointer}
use Rattle.records.specs.declared.rows.Row.{Row}
use Rattle.tree.specs.Paths.{filled}
use Rattle.tree.specs.declared.paths.Route.{Route}
use Rattle.model.specs.Datasets.{State, Dataset, base, stamp}
use Rattle.model.specs.Paths.{Leaves, sinking}
use Rattle.model.specs.Soundness.{Sound}
use Rattle.model.specs.Steps.{Replaced, buried, changed, given, taken, with_root}
use Rattle.reclaim.specs.Leaving.{Departed, Ready, sunk}
use Rattle.reclaim.specs.Taking.{Took}
use Rattle.reclaim.proofs.Exchanges.{YoungLeaver, after_owned, taken_number, given_number}
use Rattle.reclaim.proofs.Readies.{RouteOf, sunk_sinking, leaver_leaves, leaves_leaver, leaver_held, ready}
use Rattle.pool.specs.Paths.{Fits, Planted, Routed}

-- the state s with the new path, what has left, and the row with its new root
abbrev pub after : State → Row → List ℕ → Option Pointer → List DeadRecord → Meaning → ℕ → ℕ → State
after s r memory root dead v k g =
    record {
      memory = memory;
      rows = replaced number_of ltb s.rows (with_root r root (r.born + k - g));
      row_room = s.row_room;
      dead = dead;
      dead_room = s.dead_room;
      group = s.group;
      size = v.size;
      owns = v.owns;
    }

-- the pointers of a route
pub route_of : (s : State) (r : Row) (p : ℕ) (seen : Route) (k : ℕ) (text : List ℕ) → Routed s r p seen k text → RouteOf s r p seen.old
route_of s r p seen k text way = record { long = way.long; pointers = way.pointers; past = way.past }

module _ (s : State) (r : Row) (p k : ℕ) (seen : Route) (text : List ℕ) (m w v : Meaning) (memory : List ℕ) (root : Option Pointer)
    (dead : List DeadRecord) (g : ℕ) (sound : Sound s) (owns : m.owns ≡ s.owns) (size : m.size ≡ s.size) (way : Routed s r p seen k text)
    (new : Planted s m w memory r p k text root) (left : Departed w v s.dead dead r.number (base s r) seen.old g) where
  route : RouteOf s r p seen.old
  route = route_of s r p seen k text way

  here : (b : ℕ) → m.owns b ≡ s.owns b
  here b = ap (λ (f : ℕ → Bool). f b) owns

  held : (i : ℕ) (q : Pointer) → get_or seen.old i None ≡ Some q → m.owns q.block ≡ true
  held i q at_i = here q.block ∙ leaver_held s r.number p r seen.old sound way.found way.position route i q at_i

  abbrev end : State
  end = after s r memory root dead v k g

  taken_is : taken s end ≡ k
  taken_is =
      subst (λ (f : ℕ → Bool). count (λ b. v.owns b && not (f b)) s.size ≡ k) owns
      (subst (λ (n : ℕ). count (λ b. v.owns b && not (m.owns b)) n ≡ k) size
      (taken_number m w v new.path k s.dead dead r.number (base s r) seen.old g new.took left held))

  given_is : given s end ≡ g
  given_is =
      subst (λ (f : ℕ → Bool). count (λ b. f b && not (v.owns b)) s.size ≡ g) owns
      (subst (λ (n : ℕ). count (λ b. m.owns b && not (v.owns b)) n ≡ g) size
      (given_number m w v new.path k s.dead dead r.number (base s r) seen.old g new.took left held))

  abbrev Given : ℕ → Type 0
  Given b = (q : Pointer) × Leaves s r p q × (base s r < q.birth) × (q.block ≡ b)

  abbrev Taken : ℕ → Type 0
  Taken b = (d : ℕ) × (d < k) × (get_or new.path d 0 ≡ b)

  leaver : (b : ℕ) → Given b → YoungLeaver seen.old (base s r) b
  leaver b (q, leaves, young, is) = let (i, at_i) = leaves_leaver s r p seen.old route q leaves in (i, q, at_i, young, is)

  leaving : (b : ℕ) → YoungLeaver seen.old (base s r) b → Given b
  leaving b (i, q, at_i, young, is) = (q, leaver_leaves s r p seen.old route i q at_i, young, is)

  owned : (b : ℕ) → (v.owns b ≡ true) ↔ (Taken b ⊎ ((s.owns b ≡ true) × (Given b → ⊥)))
  owned b = (λ e. forth (both.0 e), λ e. both.1 (back e))
    where
      both : (v.owns b ≡ true) ↔ (Taken b ⊎ ((m.owns b ≡ true) × (YoungLeaver seen.old (base s r) b → ⊥)))
      both = after_owned m w v new.path k s.dead dead r.number (base s r) seen.old g new.took left held b

      forth : Taken b ⊎ ((m.owns b ≡ true) × (YoungLeaver seen.old (base s r) b → ⊥)) → Taken b ⊎ ((s.owns b ≡ true) × (Given b → ⊥))
      forth (inl x) = inl x
      forth (inr (was, stays)) = inr (sym (here b) ∙ was, λ x. stays (leaver b x))

      back : Taken b ⊎ ((s.owns b ≡ true) × (Given b → ⊥)) → Taken b ⊎ ((m.owns b ≡ true) × (YoungLeaver seen.old (base s r) b → ⊥))
      back (inl x) = inl x
      back (inr (was, stays)) = inr (here b ∙ was, λ x. stays (leaving b x))

  pub exchange : (record { taken = k; given = g } ≡ changed s (after s r memory root dead v k g)) × Replaced s (after s r memory root dead v k g) r.number r p k (filled text)
  exchange = (
    ap₂ (λ (a b : ℕ). record { taken = a; given = b }) (sym taken_is) (sym given_is),
    record {
      new = λ d. get_or new.path d 0;
      free = λ d lt. (subst (λ (n : ℕ). get_or new.path d 0 < n) size (new.took.below d lt), sym (here (get_or new.path d 0)) ∙ new.took.new d lt);
      apart = new.took.apart;
      memory = new.written;
      owned = owned;
      dead = left.buries ∙ ap (buried r.number s.dead) (sunk_sinking s r p seen.old (sound.shape.heights r.number r way.found).1 route);
      rows =
          ap (λ (x : Row). replaced number_of ltb s.rows x)
          (ap₂ (λ (x : Option Pointer) (n : ℕ). with_root r x n) new.begins (ap₂ (λ (a b : ℕ). r.born + a - b) (sym taken_is) (sym given_is)));
      row_room = refl;
      dead_room = refl;
      group = refl;
      size = left.size ∙ new.took.size ∙ size;
    },
  )

-- the stamp of the previous of a row
pub base_is : (s : State) (r : Row) (n : ℕ) → n ≡ stamp s r.previous → n ≡ base s r
unfolding base
base_is s r n is = is

-- how many of the old pointers sink
pub sinks_is : (s : State) (r : Row) (p k : ℕ) (seen : Route) (text : List ℕ) (n since : ℕ) → Sound s → Routed s r p seen k text → since ≡ base s r → n ≡ length (sunk seen.old since)
    → n ≡ length (sinking s r p)
sinks_is s r p k seen text n since sound way is counted =
    counted ∙ ap length (ap (sunk seen.old) is ∙ sunk_sinking s r p seen.old (sound.shape.heights r.number r way.found).1 (route_of s r p seen k text way))

-- a row counts at most as many blocks as there are
pub few_born : (s : State) (n : ℕ) (r : Row) → Sound s → Dataset s n r → r.born ≤ s.size
few_born s n r sound found =
    let many = sound.born n r found in omega (arith, many.counted, count_bound many.test s.size)

-- what was owned before a path was taken is owned after it
still_owned : (m w : Meaning) (path : List ℕ) (k b : ℕ) → Took m w path k → m.owns b ≡ true → w.owns b ≡ true
still_owned m w path k b took was =
    took.others b (λ d lt is. let z : ◌≡◌ {A = Bool} true false = sym was ∙ (ap m.owns (sym is) ∙ took.new d lt) in absurd (let y : ◌≡◌ {A = ℕ} 0 1 = cc in omega arith)) ∙ was

-- the old path can leave, once its new one is planted
pub departs : (s : State) (r : Row) (p k : ℕ) (seen : Route) (text : List ℕ) (m w v : Meaning) (memory : List ℕ) (root : Option Pointer) (before : Table DeadRecord)
    (dead : List DeadRecord) (since : ℕ) (q : Result ℕ PoolCause)
    → Sound s → m.owns ≡ s.owns → Routed s r p seen k text → Planted s m w memory r p k text root → Fits s r p → since ≡ base s r
    → records before ≡ s.dead → room before ≡ s.dead_room
    → (Ready w (records before) (room before) r.number since seen.old → MatchResult q (λ g. Departed w v (records before) dead r.number since seen.old g) (λ _. ⊥))
    → MatchResult q (λ g. Departed w v s.dead dead r.number (base s r) seen.old g) (λ _. ⊥)
departs s r p k seen text m w v memory root before dead since q sound owns way new fits is same places leaves =
    subst (λ (n : ℕ). MatchResult q (λ g. Departed w v s.dead dead r.number n seen.old g) (λ _. ⊥)) is
    (subst (λ (xs : List DeadRecord). MatchResult q (λ g. Departed w v xs dead r.number since seen.old g) (λ _. ⊥)) same
    (leaves
    (subst (λ (n : ℕ). Ready w (records before) (room before) r.number n seen.old) (sym is)
    (subst (λ (xs : List DeadRecord). Ready w xs (room before) r.number (base s r) seen.old) (sym same)
    (subst (λ (n : ℕ). Ready w s.dead n r.number (base s r) seen.old) (sym places)
    (ready s r.number p r seen.old w sound way.found way.position (route_of s r p seen k text way)
    (λ b was. still_owned m w new.path k b new.took (ap (λ (f : ℕ → Bool). f b) owns ∙ was)) fits))))))

-- the state with these parts
abbrev parts : List ℕ → List Row → ℕ → List DeadRecord → ℕ → ℕ → ℕ → (ℕ → Bool) → State
parts memory rows row_room dead dead_room group size owns =
    record { memory = memory; rows = rows; row_room = row_room; dead = dead; dead_room = dead_room; group = group; size = size; owns = owns }

-- a state is known by its parts
pub same_state : (s t : State) → t.memory ≡ s.memory → t.rows ≡ s.rows → t.row_room ≡ s.row_room → t.dead ≡ s.dead → t.dead_room ≡ s.dead_room → t.group ≡ s.group
    → t.size ≡ s.size → t.owns ≡ s.owns → t ≡ s
same_state s t memory rows row_room dead dead_room group size owns =
    ap (λ (x : List ℕ). parts x t.rows t.row_room t.dead t.dead_room t.group t.size t.owns) memory
    ∙ ap (λ (x : List Row). parts s.memory x t.row_room t.dead t.dead_room t.group t.size t.owns) rows
    ∙ ap (λ (x : ℕ). parts s.memory s.rows x t.dead t.dead_room t.group t.size t.owns) row_room
    ∙ ap (λ (x : List DeadRecord). parts s.memory s.rows s.row_room x t.dead_room t.group t.size t.owns) dead
    ∙ ap (λ (x : ℕ). parts s.memory s.rows s.row_room s.dead x t.group t.size t.owns) dead_room
    ∙ ap (λ (x : ℕ). parts s.memory s.rows s.row_room s.dead s.dead_room x t.size t.owns) group
    ∙ ap (λ (x : ℕ). parts s.memory s.rows s.row_room s.dead s.dead_room s.group x t.owns) size
    ∙ ap (λ (x : ℕ → Bool). parts s.memory s.rows s.row_room s.dead s.dead_room s.group s.size x) owns
