-- A snapshot is destroyed: from what the calls leave to what the rules say.
--     Follower        x is the row of the next of the snapshot with the row r
--     given_part      what is given back of the dead table are the young records of the next
--     kept_part       what is kept of it are the others
--     given_back      the blocks that are given back are those released
--     lists_after     the dead table once the list of the snapshot has joined that of its next
--     still_there     the next still has a row
--     few_follow      it counts few blocks
--     destroyed       all of this is a snapshot destroyed
use Rattle.std.proofs.Common.{◌≡◌, ℕ, ◌+◌, ◌-◌, ◌^◌, ◌<◌, ◌≤◌, true, ltb, ◌↔◌, List, is_some, Some, sym, refl, ap, ◌∙◌, subst, arith}
use Rattle.blocks.specs.Meanings.{Meaning}
use Rattle.ordered.specs.Lists.{Apart, Joined}
use Rattle.ordered.specs.Order.{Holds}
use Rattle.ordered.specs.Tables.{Ascending, part_of, without_part, without_key, replaced}
use Rattle.records.specs.Keys.{number_of, dead_key, dead_below, dead_list, dead_moved}
use Rattle.records.specs.declared.dead.DeadRecord.{DeadRecord}
use Rattle.records.specs.declared.rows.Pointer.{Pointer}
use Rattle.records.specs.declared.rows.Row.{Row}
use Rattle.model.specs.Datasets.{State, Dataset, Previous, base, dead_of, stamp}
use Rattle.model.specs.Soundness.{Sound}
use Rattle.model.specs.Steps.{DeadAfter, Merged, OwnedAfter, Released, SnapshotDestroyed, altered, given, with_previous}
use Rattle.model.proofs.Ancestors.{previous_other}
use Rattle.model.proofs.Figures.{is_next, young_dead}
use Rattle.model.proofs.Rows.{removed_other, row_of}
use Rattle.reclaim.specs.Giving.{GivenBack, InList}
use Rattle.reclaim.proofs.Sets.{back_like}
use Rattle.pool.proofs.Exchange.{base_is, few_born, same_state}
use Rattle.pool.proofs.Lists.{Found, apart, merged, rest, young_blocks}
use Rattle.pool.proofs.Youngs.{list_end, old_part, small_stamp, young_first, young_part}

-- x is the row of the next of the snapshot with the row r, in a sound pool
pub record Follower (s : State) (r x : Row) : Type 0 where
  pub sound : Sound s
  pub here : Dataset s r.number r
  pub found : Dataset s x.number x
  pub previous : x.previous ≡ Some r.number
  pub owner : x.owner ≡ r.owner

-- the records ys are xs, of which list a has joined list b
abbrev Join : List DeadRecord → List DeadRecord → ℕ → ℕ → Type 0
Join xs ys a b = (z : DeadRecord) → Found ys z ↔ Joined dead_key dead_below dead_list dead_moved xs a b z

-- the records are in order
abbrev InOrder : List DeadRecord → Type 0
InOrder xs = Ascending dead_key (Holds dead_below) xs

-- no record of list a has the pointer of one of list b
abbrev Clear : List DeadRecord → ℕ → ℕ → Type 0
Clear xs a b = Apart dead_key dead_below dead_list dead_moved xs a b

module _ {s : State} {r x : Row} (f : Follower s r x) where
  after : Previous s x.number r.number
  after = (x, f.found, f.previous)

  other : x.number ≡ r.number → ⊥
  other is = previous_other s f.sound x.number r.number after (sym is)

  module _ (since : ℕ) (low high : DeadRecord) (value : since ≡ stamp s r.previous) (first : low ≡ young_first x.number since) (last : high ≡ list_end x.number) where
    number : x.number ≤ 999
    number = (f.sound.shape.numbers x.number x f.found).1

    small : since ≤ 65535
    small = omega (arith, small_stamp s r.previous f.sound, value)

    -- what is given back of the dead table are the young records of the next
    pub given_part : part_of dead_key dead_below s.dead low high ≡ young_dead s x.number (base s r)
    given_part = young_part x.number since s.dead low high number small last first ∙ ap (young_dead s x.number) (base_is s r since value)

    -- what is kept of it are the others
    pub kept_part : without_part dead_key dead_below s.dead low high ≡ rest s x.number (base s r)
    kept_part = old_part x.number since s.dead low high number small last first ∙ ap (rest s x.number) (base_is s r since value)

  -- the blocks that are given back are those released
  pub given_back : (m w : Meaning) (part : List DeadRecord) → part ≡ young_dead s x.number (base s r) → GivenBack m w (InList part) → GivenBack m w (Released s x.number r)
  given_back m w part is back =
      let blocks = young_blocks s x.number (base s r) f.sound in
      back_like m w (InList (young_dead s x.number (base s r))) (Released s x.number r) (λ b. (blocks b).0) (λ b. (blocks b).1)
      (subst (λ (xs : List DeadRecord). GivenBack m w (InList xs)) is back)

  -- the dead table once the list of the snapshot has joined that of its next
  pub lists_after : (t : State) (xs ys : List DeadRecord) → xs ≡ rest s x.number (base s r) → InOrder xs → (InOrder xs → Clear xs r.number x.number → InOrder ys)
      → (InOrder xs → Clear xs r.number x.number → Join xs ys r.number x.number) → t.dead ≡ ys → DeadAfter t (Merged s r.number x.number r)
  lists_after t xs ys is up ordered joins e =
      let clear = subst (λ (zs : List DeadRecord). Clear zs r.number x.number) (sym is) (apart s r.number x.number r f.sound after other) in
      let joined = subst (λ (zs : List DeadRecord). Join zs ys r.number x.number) is (joins up clear) in
      record {
        ordered = subst InOrder (sym e) (ordered up clear);
        members =
            subst (λ (zs : List DeadRecord). (k : ℕ) (q : Pointer) → Found zs (dead_of k q) ↔ Merged s r.number x.number r k q) (sym e)
            (merged s r.number x.number r f.sound after other ys joined);
      }

  -- the next still has a row
  pub still_there : (rows : List Row) (y : Row) (born : ℕ) → rows ≡ without_key number_of ltb s.rows r.number → y ≡ with_previous x r.previous born → is_some (row_of rows y.number) ≡ true
  still_there rows y born is same =
      ap (λ (xs : List Row). is_some (row_of xs y.number)) is
      ∙ ap (λ (z : Row). is_some (row_of (without_key number_of ltb s.rows r.number) z.number)) same
      ∙ ap is_some (removed_other s.rows r.number x.number f.sound.shape.ordered other ∙ f.found)

  -- it counts few blocks
  pub few_follow : x.born + r.born < 2 ^ 32
  few_follow = omega (arith, few_born s x.number x f.sound f.found, few_born s r.number r f.sound f.here, f.sound.shape.size.1)

  -- all of this is a snapshot destroyed
  pub destroyed : (t : State) → OwnedAfter s t (λ b. ⊥) (Released s x.number r) → DeadAfter t (Merged s r.number x.number r)
      → t.rows ≡ replaced number_of ltb (without_key number_of ltb s.rows r.number) (with_previous x r.previous (x.born + r.born - given s t))
      → t.memory ≡ s.memory → t.row_room ≡ s.row_room → t.dead_room ≡ s.dead_room → t.group ≡ s.group → t.size ≡ s.size → SnapshotDestroyed s t r.number r
  destroyed t owned dead rows memory row_room dead_room group size = record {
    next = x.number;
    row = x;
    is_next = is_next s r.number x.number r x f.sound f.here f.found f.previous f.owner;
    found = f.found;
    rest = same_state (altered s (replaced number_of ltb (without_key number_of ltb s.rows r.number) (with_previous x r.previous (x.born + r.born - given s t))) t.dead s.group t.owns) t memory rows row_room refl dead_room group size refl;
    owned = owned;
    dead = dead;
  }
