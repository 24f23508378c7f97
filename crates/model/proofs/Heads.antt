-- Destroying a head keeps a pool sound, and all other datasets read as before.
use Rattle.std.proofs.Common.{◌≡◌, ℕ, suc, ◌/◌, ◌<◌, ◌≤◌, true, ltb, ◌⊎◌, length, Some, None, Option, sym, refl, ap, ◌∙◌, subst, inl, inr, arith}
use Rattle.std.proofs.lemmas.Bool.{cases_eq, cases_lt}
use Rattle.ordered.specs.Tables.{without_key}
use Rattle.records.specs.Keys.{number_of, dead_key, dead_below}
use Rattle.records.specs.declared.rows.Kind.TheVariants.{Head}
use Rattle.records.specs.declared.rows.Pointer.{Pointer}
use Rattle.records.specs.declared.rows.Row.{Row}
use Rattle.tree.specs.Trees.{fan}
use Rattle.model.specs.Datasets.{State, Dataset, IsHead, IsSnapshot, row_reads, row_stamp, stamp, base, Has, Reaches, Reached, Young, reads}
use Rattle.model.specs.Families.{Belongs, OwnSnapshot}
use Rattle.model.specs.Laws.{Besides}
use Rattle.model.specs.Questions.{questions, AllYes}
use Rattle.model.specs.Soundness.{Shape, Family, Pointers, BirthLaw, OwnedReached, DeadLists, Born, Sound}
use Rattle.model.specs.Steps.{HeadDestroyed, altered}
use Rattle.model.specs.declared.Call.TheVariants.{Destroy}
use Rattle.model.proofs.Ancestors.{not_both, previous_no_head, young_alone}
use Rattle.model.proofs.Burials.{dead_one, dead_chain}
use Rattle.model.proofs.Fewer.{no_more}
use Rattle.model.proofs.Places.{row_of}
use Rattle.model.proofs.Rows.{some_none, removed_here, removed_other, length_removed, order_removed}
use Rattle.model.proofs.Sums.{alike}
use Rattle.model.proofs.Systems.{owners_tell}

module _ (s t : State) (n : ℕ) (r : Row) (o : Option ℕ) (sound : Sound s) (here : Dataset s n r) (kind : r.kind ≡ Head o)
    (none : (m : ℕ) → OwnSnapshot s n m → ⊥) (gone : HeadDestroyed s t n) where
  -- the state that is left
  abbrev u : State
  u = altered s (without_key number_of ltb s.rows n) t.dead s.group t.owns

  -- all rows but that of n are there
  kept : (m : ℕ) (x : Row) → Dataset s m x → (m ≡ n → ⊥) → Dataset u m x
  kept m x was other = removed_other s.rows n m sound.shape.ordered other ∙ was

  apart : (m : ℕ) (x : Row) → Dataset u m x → m ≡ n → ⊥
  apart m x there e = some_none _ x (subst (λ j. Dataset u j x) e there) (removed_here s.rows n sound.shape.ordered)

  old : (m : ℕ) (x : Row) → Dataset u m x → Dataset s m x
  old m x there = sym (removed_other s.rows n m sound.shape.ordered (apart m x there)) ∙ there

  -- n is no previous
  above : (m j : ℕ) (x : Row) → Dataset s m x → x.previous ≡ Some j → j ≡ n → ⊥
  above m j x was is e = previous_no_head s sound m j x r o was is (subst (λ i. Dataset s i r) (sym e) here) kind

  -- n owns itself and nothing else
  own : (m : ℕ) (x : Row) → Dataset s m x → m ≡ n → x.owner ≡ n
  own m x was e = ap (λ (y : Row). y.owner) (row_of s n m r x here e was) ∙ sound.family.head n o r here kind

  own_only : (m : ℕ) (x : Row) → Dataset s m x → x.owner ≡ n → m ≡ n
  own_only m x was is = go ((owners_tell s n o sound (r, here, kind) m x was).0 is)
    where
      go : Belongs s n m → m ≡ n
      go (_, _, inl e) = e
      go (p, head, inr met) = absurd (none m (p, head, met))

  owner_kept : (m : ℕ) (x : Row) (p : Option ℕ) → Dataset u m x → IsHead s x.owner p → IsHead u x.owner p
  owner_kept m x p there (y, was, is) = (y, kept x.owner y was (λ e. apart m x there (own_only m x (old m x there) e)), is)

  -- the places of all other datasets are as before
  place_kept : (m d i : ℕ) (q : Pointer) → Has s m d i q → (m ≡ n → ⊥) → Has u m d i q
  place_kept m d i q has other = record { row = has.row; found = kept m has.row has.found other; holds = has.holds }

  pub place_old : (m d i : ℕ) (q : Pointer) → Has u m d i q → Has s m d i q
  place_old m d i q has = record { row = has.row; found = old m has.row has.found; holds = has.holds }

  reach_kept : (m b : ℕ) → Reaches s m b → (m ≡ n → ⊥) → Reaches u m b
  reach_kept m b (q, (d, i, has), e) other = (q, (d, i, place_kept m d i q has other), e)

  reach_old : (m b : ℕ) → Reaches u m b → Reaches s m b
  reach_old m b (q, (d, i, has), e) = (q, (d, i, place_old m d i q has), e)

  -- a previous has the stamp that it had
  base_same : (m : ℕ) (x : Row) → Dataset s m x → base u x ≡ base s x
  unfolding base
  base_same m x was = go x.previous (λ j is. above m j x was is)
    where
      go : (p : Option ℕ) → ((j : ℕ) → p ≡ Some j → j ≡ n → ⊥) → stamp u p ≡ stamp s p
      go None other = refl
      go (Some j) other = ap (row_stamp s.group) (removed_other s.rows n j sound.shape.ordered (other j refl))

  young_kept : (m b : ℕ) → Young s m b → (m ≡ n → ⊥) → Young u m b
  young_kept m b (x, q, was, (d, i, has), young, e) other =
      (x, q, kept m x was other, (d, i, place_kept m d i q has other), omega (arith, base_same m x was), e)

  young_old : (m b : ℕ) → Young u m b → Young s m b
  young_old m b (x, q, there, (d, i, has), young, e) =
      (x, q, old m x there, (d, i, place_old m d i q has), omega (arith, base_same m x (old m x there)), e)

  -- there are no more dead records than before
  pub fewer : length t.dead ≤ length s.dead
  fewer =
      no_more dead_key dead_below dead_one dead_chain (λ x. x) t.dead s.dead gone.dead.ordered sound.shape.dead_ordered
      (λ x stands. (x, ((gone.dead.members x.dataset (record { birth = x.birth; block = x.block })).0 stands).1, refl))

  shape : Shape u
  shape = record {
    size = sound.shape.size;
    memory = sound.shape.memory;
    row_room = sound.shape.row_room;
    dead_room = sound.shape.dead_room;
    rows_fit = omega (arith, length_removed s.rows n, sound.shape.rows_fit);
    dead_fit = omega (arith, fewer, sound.shape.dead_fit);
    ordered = order_removed s.rows n sound.shape.ordered;
    dead_ordered = gone.dead.ordered;
    numbers = λ m x there. sound.shape.numbers m x (old m x there);
    heights = λ m x there. sound.shape.heights m x (old m x there);
    group = sound.shape.group;
    stamps = λ m g (x, there, is). sound.shape.stamps m g (x, old m x there, is);
    below = λ b own. below b ((gone.owned b).0 own);
  }
    where
      below : (b : ℕ) → ⊥ ⊎ ((s.owns b ≡ true) × (Young s n b → ⊥)) → b < s.size
      below b (inl never) = absurd never
      below b (inr (own, _)) = sound.shape.below b own

  family : Family u
  family = record {
    head = λ m p x there is. sound.family.head m p x (old m x there) is;
    owner = λ m x there. (let up = sound.family.owner m x (old m x there) in (up.0, owner_kept m x up.0 there up.1));
    origin = λ m j (x, there, is). snapshot_kept j (sound.family.origin m j (x, old m x there, is));
    previous = λ m j x there is.
        (let was = old m x there in
        let (y, g, found, snapshot, height, low) = sound.family.previous m j x was is in
        (y, g, kept j y found (above m j x was is), snapshot, height, low));
    within = λ m j x z there beside is p (y, found, head).
        sound.family.within m j x z (old m x there) (old j z beside) is p (y, old x.owner y found, head);
    first = λ m x there is. owner_kept m x None there (sound.family.first m x (old m x there) is);
    alone = λ m j x z there beside. sound.family.alone m j x z (old m x there) (old j z beside);
    next = λ m g x there is.
        (let was = old m x there in
        let (j, z, found, previous, owner) = sound.family.next m g x was is in
        (j, z, kept j z found (λ e. apart m x there (own_only m x was (sym owner ∙ own j z found e))), previous, owner));
  }
    where
      snapshot_kept : (j : ℕ) → (g : ℕ) × IsSnapshot s j g → (g : ℕ) × IsSnapshot u j g
      snapshot_kept j (g, (y, was, is)) =
          (g, (y, kept j y was (λ e. not_both y.kind o g (ap (λ (x : Row). x.kind) (row_of s n j r y here e was) ∙ kind) is), is))

  pointers : Pointers u
  pointers = record {
    inside = λ m d i q has. sound.pointers.inside m d i q (place_old m d i q has);
    births = λ m d i x q there has. sound.pointers.births m d i x q (old m x there) (place_old m d i q has);
    falls = λ m d i q x has above. sound.pointers.falls m d i q x (place_old m (suc d) i q has) (place_old m d (i / fan) x above);
    full = λ m d i x q there deep has.
        (let (j, z, is, down) = sound.pointers.full m d i x q (old m x there) deep (place_old m d i q has) in
        (j, z, is, place_kept m (suc d) j z down (apart m x there)));
  }

  -- what was born by the stamp of the previous stands in it
  birth_law : BirthLaw u
  birth_law m d i x q there has low =
      let was = old m x there in
      let (j, is, up) = sound.birth_law m d i x q was (place_old m d i q has) (omega (arith, base_same m x was)) in
      (j, is, place_kept j d i q up (above m j x was is))

  -- of what n reaches, its previous reaches what is not young in n, and nobody else the rest
  owned : OwnedReached u
  owned b = (λ own. there ((gone.owned b).0 own), λ reached. (gone.owned b).1 (inr (back reached)))
    where
      mine : (d i : ℕ) (q : Pointer) → Has s n d i q → q.block ≡ b → (Young s n b → ⊥) → (base s r < q.birth) ⊎ (q.birth ≤ base s r) → Reached u b
      mine d i q has e stays (inl young) = absurd (stays (r, q, here, (d, i, has), young, e))
      mine d i q has e stays (inr low) =
          let (j, is, up) = sound.birth_law n d i r q here has low in
          (j, (q, (d, i, place_kept j d i q up (above n j r here is)), e))

      still : Reached s b → (Young s n b → ⊥) → Reached u b
      still (m, (q, (d, i, has), e)) stays = go (cases_eq m n)
        where
          go : (m ≡ n) ⊎ (m ≡ n → ⊥) → Reached u b
          go (inl is) = mine d i q (subst (λ j. Has s j d i q) is has) e stays (cases_lt (base s r) q.birth)
          go (inr other) = (m, (q, (d, i, place_kept m d i q has other), e))

      there : ⊥ ⊎ ((s.owns b ≡ true) × (Young s n b → ⊥)) → Reached u b
      there (inl never) = absurd never
      there (inr (own, stays)) = still ((sound.owned b).0 own) stays

      back : Reached u b → (s.owns b ≡ true) × (Young s n b → ⊥)
      back (m, (q, (d, i, has), e)) = ((sound.owned b).1 (m, (q, (d, i, was), e)), stays)
        where
          was : Has s m d i q
          was = place_old m d i q has

          stays : Young s n b → ⊥
          stays (x, y, found, (l, k, top), young, is) =
              let head : x.kind ≡ Head o = ap (λ (z : Row). z.kind) (row_of s n n r x here refl found) ∙ kind in
              apart m has.row has.found (young_alone s sound n x o l k y found head top young m d i q was (e ∙ sym is))

  -- the dead lists of all other datasets are as before
  dead : DeadLists u
  dead m q = (
    (λ buried. (let (other, was) = (gone.dead.members m q).0 buried in
        let (j, (x, found, is), (d, i, has), lost) = (sound.dead m q).0 was in
        (j, (x, kept m x found other, is), (d, i, place_kept j d i q has (above m j x found is)), λ reach. lost (reach_old m q.block reach)))),
    (λ (j, (x, there, is), (d, i, has), lost). (gone.dead.members m q).1 (
      apart m x there,
      (sound.dead m q).1 (j, (x, old m x there, is), (d, i, place_old j d i q has), λ reach. lost (reach_kept m q.block reach (apart m x there))),
    )),
  )

  -- all other datasets have the young blocks that they had
  born : Born u
  born m x there =
      let other = apart m x there in
      alike (Young s m) (Young u m) s.size x.born (λ b low. ((λ young. young_kept m b young other), young_old m b)) (sound.born m x (old m x there))

  -- what is left is sound
  left : Sound u
  left = record {
    shape = shape;
    family = family;
    pointers = pointers;
    identity = λ m l d e i j q x has also. sound.identity m l d e i j q x (place_old m d i q has) (place_old l e j x also);
    birth_law = birth_law;
    one_young = λ m l b young also. sound.one_young m l b (young_old m b young) (young_old l b also);
    owned = owned;
    dead = dead;
    born = born;
  }

-- destroying a head keeps a sound pool sound
pub head_destroyed : (s t : State) (n : ℕ) (r : Row) (o : Option ℕ) → Sound s → Dataset s n r → r.kind ≡ Head o → AllYes (questions s (Destroy n)) → HeadDestroyed s t n → Sound t
head_destroyed s t n r o sound here kind (_, (_, (_, (none, _)))) gone = subst Sound (sym gone.rest) (left s t n r o sound here kind none gone)

-- all other datasets read as before
pub head_reads : (s t : State) (n : ℕ) → Sound s → HeadDestroyed s t n → Besides s t n
unfolding reads
head_reads s t n sound gone m i other position =
    ap (λ (x : State). reads x m i) gone.rest ∙ ap (λ (x : Option Row). row_reads s.memory x i) (removed_other s.rows n m sound.shape.ordered other)
