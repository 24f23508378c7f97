-- Taking a snapshot keeps a pool sound: the snapshot has the blocks, the previous and the dead list that the head had, and
-- the head, with the same blocks, has nothing younger than the snapshot and nothing dead. The snapshot reads as the head.
use Rattle.std.proofs.Common.{◌≡◌, ℕ, suc, ◌/◌, ◌<◌, ◌≤◌, ◌⊎◌, ◌↔◌, List, Some, None, Ok, Option, sym, refl, ap, ◌∙◌, subst, inl, inr, arith}
use Rattle.records.specs.declared.dead.DeadRecord.{DeadRecord}
use Rattle.records.specs.declared.rows.Pointer.{Pointer}
use Rattle.records.specs.declared.rows.Row.{Row}
use Rattle.tree.specs.Trees.{fan}
use Rattle.model.specs.Datasets.{State, Dataset, Has, Young, Dead, kind_stamp, base, reads}
use Rattle.model.specs.Figures.{HowMany}
use Rattle.model.specs.Laws.{Besides}
use Rattle.model.specs.Questions.{questions, AllYes}
use Rattle.model.specs.Soundness.{Pointers, Identity, BirthLaw, OneYoung, OwnedReached, DeadLists, Born, Sound}
use Rattle.model.specs.Steps.{HandedOver, DeadAfter, Snapped, Step, snapshot_row, with_previous}
use Rattle.model.specs.declared.Answer.{Answer}
use Rattle.model.specs.declared.Call.TheVariants.{Snapshot}
use Rattle.model.proofs.Alike.{Like, Same, like_rows, young_same, born_same, dead_same}
use Rattle.model.proofs.Sums.{none}
use Rattle.model.proofs.Ancestors.{same_row, base_none, base_some}
use Rattle.model.proofs.Readings.{reads_at}
use Rattle.model.proofs.SnapshotRows.{with_snapshot, later_stamp, head_stamp, old_other, copy_here, live_here, row_kept, after_cases, before_cases, snapshot_kept, shape, family}

module _ (s : State) (n m : ℕ) (r : Row) (dead : List DeadRecord) (sound : Sound s) (found : Dataset s n r) (asked : AllYes (questions s (Snapshot n m))) where
  -- the row of the snapshot, that of the head, and the state with them
  abbrev copy : Row
  copy = snapshot_row m r s.group

  abbrev live : Row
  live = with_previous r (Some m) 0

  abbrev t : State
  t = with_snapshot s m r dead

  -- the places of the head stay, and those of all datasets that were there
  like_live : Like s t n n
  like_live = like_rows s t n n live r refl (live_here s n m r dead sound found asked) found refl refl

  places_kept : (k : ℕ) (x : Row) → Dataset s k x → Like s t k k
  places_kept = before_cases s n m r dead sound found asked (λ k _. Like s t k k) like_live (λ k x old now. like_rows s t k k x x refl now old refl refl)

  has_kept : (k d i : ℕ) (q : Pointer) → Has s k d i q → Has t k d i q
  has_kept k d i q has = (places_kept k has.row has.found d i q).1 has

  previous_kept : (k l : ℕ) (x : Row) → Dataset s k x → x.previous ≡ Some l → Like s t l l
  previous_kept k l x old is = let up = sound.family.previous k l x old is in places_kept l up.0 up.2

  -- their bases stay, and the head's is the group now
  base_kept : (k : ℕ) (x : Row) → Dataset s k x → base t x ≡ base s x
  base_kept k x old = go x.previous refl
    where
      go : (p : Option ℕ) → x.previous ≡ p → base t x ≡ base s x
      go None is = base_none t x is ∙ sym (base_none s x is)
      go (Some j) is =
          let up = sound.family.previous k j x old is in
          let now = snapshot_kept s n m r dead sound found asked j up.1 up.0 up.2 up.3 in
          base_some t x up.0 j up.1 is now up.3 ∙ sym (base_some s x up.0 j up.1 is up.2 up.3)

  base_copy : base t copy ≡ base s r
  unfolding base
  base_copy = base_kept n r found

  base_live : base t live ≡ s.group
  base_live = base_some t live copy m s.group refl (copy_here s n m r dead sound found asked) refl

  -- the snapshot is as the head was, and all others but the head are as they were
  same_copy : Same s t m n copy r
  same_copy =
      let now = copy_here s n m r dead sound found asked in
      record { now = now; was = found; like = like_rows s t m n copy r refl now found refl refl; previous = refl; base = base_copy }

  same_old : (k : ℕ) (x : Row) → Dataset s k x → (k ≡ n → ⊥) → Same s t k k x x
  same_old k x old away =
      record { now = row_kept s n m r dead sound found asked k x old away; was = old; like = places_kept k x old; previous = refl; base = base_kept k x old }

  -- every place was there
  pub likes : (k : ℕ) (x : Row) → Dataset t k x → (j : ℕ) × Like s t k j
  likes = after_cases s n m r dead sound found asked (λ k _. (j : ℕ) × Like s t k j) (n, same_copy.like) (n, like_live) (λ k x old _. (k, places_kept k x old))

  -- births go to the stamp
  births : (k d i : ℕ) (x : Row) (q : Pointer) → Dataset t k x → Has t k d i q → (1 ≤ q.birth) × (q.birth ≤ kind_stamp t.group x.kind)
  births k d i x q = after_cases s n m r dead sound found asked (λ k x. Has t k d i q → (1 ≤ q.birth) × (q.birth ≤ kind_stamp t.group x.kind))
      (λ has. old n s.group r found (omega (arith, head_stamp s n m r dead sound found asked s.group)) ((same_copy.like d i q).0 has))
      (λ has. old n (kind_stamp t.group r.kind) r found (later_stamp s.group r.kind) ((like_live d i q).0 has))
      (λ k x was _ has. old k (kind_stamp t.group x.kind) x was (later_stamp s.group x.kind) ((places_kept k x was d i q).0 has)) k x
    where
      old : (k high : ℕ) (x : Row) → Dataset s k x → kind_stamp s.group x.kind ≤ high → Has s k d i q → (1 ≤ q.birth) × (q.birth ≤ high)
      old k high x was low has = let born = sound.pointers.births k d i x q was has in (born.0, omega (arith, born.1))

  -- an indirect block leads on
  full : (k d i : ℕ) (x : Row) (q : Pointer) → Dataset t k x → d < x.height → Has t k d i q → (l : ℕ) × (z : Pointer) × (l / fan ≡ i) × Has t k (suc d) l z
  full k d i x q = after_cases s n m r dead sound found asked (λ k x. d < x.height → Has t k d i q → Below k)
      (old m n r found same_copy.like) (old n n r found like_live) (λ k x was _. old k k x was (places_kept k x was)) k x
    where
      Below : ℕ → Type 0
      Below k = (l : ℕ) × (z : Pointer) × (l / fan ≡ i) × Has t k (suc d) l z

      old : (k j : ℕ) (y : Row) → Dataset s j y → Like s t k j → d < y.height → Has t k d i q → Below k
      old k j y was both deep has =
          let down = sound.pointers.full j d i y q was deep ((both d i q).0 has) in
          (down.0, down.1, down.2, (both (suc d) down.0 down.1).1 down.3)

  pointers : Pointers t
  pointers = record {
    inside = λ k d i q has. (let from = likes k has.row has.found in sound.pointers.inside from.0 d i q ((from.1 d i q).0 has));
    births = births;
    falls = λ k d i q x has above.
        (let from = likes k has.row has.found in sound.pointers.falls from.0 d i q x ((from.1 (suc d) i q).0 has) ((from.1 d (i / fan) x).0 above));
    full = full;
  }

  identity : Identity t
  identity k l d e i j q x has also same =
      let from = likes k has.row has.found in
      let beside = likes l also.row also.found in
      sound.identity from.0 beside.0 d e i j q x ((from.1 d i q).0 has) ((beside.1 e j x).0 also) same

  birth_law : BirthLaw t
  birth_law k d i x q = after_cases s n m r dead sound found asked Law (old m n copy r same_copy)
      (λ has _. (m, refl, (same_copy.like d i q).1 ((like_live d i q).0 has))) (λ k x was away. old k k x x (same_old k x was away)) k x
    where
      Law : ℕ → Row → Type 0
      Law k x = Has t k d i q → q.birth ≤ base t x → (l : ℕ) × (x.previous ≡ Some l) × Has t l d i q

      old : (k j : ℕ) (x y : Row) → Same s t k j x y → Law k x
      old k j x y same has young =
          let up = sound.birth_law j d i y q same.was ((same.like d i q).0 has) (omega (arith, same.base)) in
          (up.0, same.previous ∙ up.1, has_kept up.0 d i q up.2)

  -- the young blocks of the head are the snapshot's now, and it has none
  young_live : (b : ℕ) → Young t n b → ⊥
  young_live b (z, q, there, (d, i, has), young, e) =
      let low = (sound.pointers.births n d i r q found ((like_live d i q).0 has)).1 in
      omega (arith, head_stamp s n m r dead sound found asked s.group, base_live, ap (base t) (same_row z live there (live_here s n m r dead sound found asked)))

  young_before : (k b : ℕ) → Young t k b → ((k ≡ m) × Young s n b) ⊎ ((k ≡ n → ⊥) × Young s k b)
  young_before k b young = after_cases s n m r dead sound found asked
      (λ k _. Young t k b → ((k ≡ m) × Young s n b) ⊎ ((k ≡ n → ⊥) × Young s k b))
      (λ it. inl (refl, (young_same s t m n copy r b same_copy).0 it)) (λ it. absurd (young_live b it))
      (λ k x was away it. inr (away, (young_same s t k k x x b (same_old k x was away)).0 it)) k young.0 young.2 young

  one_young : OneYoung t
  one_young k l b young also = go (young_before k b young) (young_before l b also)
    where
      go : ((k ≡ m) × Young s n b) ⊎ ((k ≡ n → ⊥) × Young s k b) → ((l ≡ m) × Young s n b) ⊎ ((l ≡ n → ⊥) × Young s l b) → k ≡ l
      go (inl (e, _)) (inl (f, _)) = e ∙ sym f
      go (inl (_, it)) (inr (away, other)) = absurd (away (sound.one_young l n b other it))
      go (inr (away, it)) (inl (_, other)) = absurd (away (sound.one_young k n b it other))
      go (inr (_, it)) (inr (_, other)) = sound.one_young k l b it other

  born : Born t
  born = after_cases s n m r dead sound found asked (λ k x. HowMany (Young t k) s.size x.born)
      (born_same s t m n copy r s.size r.born same_copy (sound.born n r found)) (none (Young t n) s.size young_live)
      (λ k x was away. born_same s t k k x x s.size x.born (same_old k x was away) (sound.born k x was))

  owned : OwnedReached t
  owned b = (
    (λ own. (let (k, (q, (d, i, has), e)) = (sound.owned b).0 own in (k, (q, (d, i, has_kept k d i q has), e)))),
    (λ (k, (q, (d, i, has), e)). (let from = likes k has.row has.found in (sound.owned b).1 (from.0, (q, (d, i, (from.1 d i q).0 has), e)))),
  )

  -- the dead list of the head is the snapshot's now, and it has none
  dead_live : (q : Pointer) → Dead t n q → ⊥
  dead_live q (l, (z, there, is), (d, i, has), gone) =
      let before : Some m ≡ Some l = ap (λ (w : Row). w.previous) (same_row live z (live_here s n m r dead sound found asked) there) ∙ is in
      let e : l ≡ m = cc in
      gone (q, (d, i, (like_live d i q).1 ((same_copy.like d i q).0 (subst (λ (j : ℕ). Has t j d i q) e has))), refl)

  dead_copy : (q : Pointer) → Dead t m q ↔ Dead s n q
  dead_copy q = dead_same s t m n copy r q same_copy (λ l. previous_kept n l r found)

  dead_old : (k : ℕ) (x : Row) (q : Pointer) → Dataset s k x → (k ≡ n → ⊥) → Dead t k q ↔ Dead s k q
  dead_old k x q was away = dead_same s t k k x x q (same_old k x was away) (λ l. previous_kept k l x was)

  dead_lists : DeadAfter t (HandedOver s n m) → DeadLists t
  dead_lists after k q = ((λ is. there ((after.members k q).0 is)), (λ is. (after.members k q).1 (back is)))
    where
      there : HandedOver s n m k q → Dead t k q
      there (inl (e, was)) = subst (λ (j : ℕ). Dead t j q) (sym e) ((dead_copy q).1 ((sound.dead n q).0 was))
      there (inr (_, away, was)) = let old = (sound.dead k q).0 was in (dead_old k old.1.0 q old.1.1 away).1 old

      back : Dead t k q → HandedOver s n m k q
      back is = after_cases s n m r dead sound found asked (λ k _. Dead t k q → HandedOver s n m k q)
          (λ it. inl (refl, (sound.dead n q).1 ((dead_copy q).0 it))) (λ it. absurd (dead_live q it))
          (λ k x was away it. inr (old_other s n m r dead sound found asked k x was, away, (sound.dead k q).1 ((dead_old k x q was away).0 it)))
          k is.1.0 is.1.1 is

  sound_after : DeadAfter t (HandedOver s n m) → Sound t
  sound_after after = record {
    shape = shape s n m r dead sound found asked after;
    family = family s n m r dead sound found asked;
    pointers = pointers;
    identity = identity;
    birth_law = birth_law;
    one_young = one_young;
    owned = owned;
    dead = dead_lists after;
    born = born;
  }

  -- the snapshot reads as the head, and all others as before
  reads_after : ((p : ℕ) → reads t m p ≡ reads s n p) × Besides s t m
  reads_after = (
    (λ p. reads_at t m copy p _ (copy_here s n m r dead sound found asked) refl ∙ sym (reads_at s n r p _ found refl)),
    (λ k i _ (x, there, _). before_cases s n m r dead sound found asked (λ k _. reads t k i ≡ reads s k i)
        (reads_at t n live i _ (live_here s n m r dead sound found asked) refl ∙ sym (reads_at s n r i _ found refl))
        (λ k x old now. reads_at t k x i _ now refl ∙ sym (reads_at s k x i _ old refl)) k x there),
  )

-- taking a snapshot keeps a sound pool sound
pub snapped : (s t : State) (n m : ℕ) (r : Row) → Sound s → Dataset s n r → AllYes (questions s (Snapshot n m)) → Snapped s t n m r → Sound t
snapped s t n m r sound here asked snap =
    subst Sound (sym snap.rest) (sound_after s n m r t.dead sound here asked (record { ordered = snap.dead.ordered; members = snap.dead.members }))

-- the snapshot reads as its head, and all other datasets read as before
pub snapshot_reads : (s t : State) (n m : ℕ) (a : Answer) → Sound s → Step s (Snapshot n m) (Ok a) t → ((p : ℕ) → reads t m p ≡ reads s n p) × Besides s t m
snapshot_reads s t n m a sound (asked, (_, (r, here, snap))) =
    subst (λ (u : State). ((p : ℕ) → reads u m p ≡ reads s n p) × Besides s u m) (sym snap.rest) (reads_after s n m r t.dead sound here asked)
