-- The loop over the pointers of an old path.
use Rattle.std.proofs.Common.{◌≡◌, ℕ, ◌+◌, ◌<◌, ◌≤◌, Bool, true, false, cond, List, length, get_or, Some, None, Option, sym, refl, ◌∙◌, subst, arith}
use Rattle.blocks.specs.Meanings.{Meaning}
use Rattle.ordered.specs.Lent.{records, room}
use Rattle.ordered.specs.declared.tables.Table.{Table}
use Rattle.records.specs.declared.dead.DeadRecord.{DeadRecord}
use Rattle.records.specs.declared.rows.Pointer.{Pointer}
use Rattle.reclaim.specs.Leavers.{Able, Left}
use Rattle.reclaim.specs.Leaving.{DeadOrdered, Ready}
use Rattle.reclaim.proofs.Departs.{Departing, departing_none, departing_hole, departing_more, able}

-- the first k pointers have left, from the allocator a and the dead table t to b and u
pub record Turned {X : Type 0} (sound : X → Type 0) (meaning : X → Meaning) (n stamp : ℕ) (old : List (Option Pointer)) (a b : X) (t u : Table DeadRecord) (given k : ℕ) : Type 0 where
  pub stays : sound a → sound b
  pub room_is : room u ≡ room t
  pub ordered : DeadOrdered t → DeadOrdered u
  pub few : given ≤ k
  pub left : sound a → DeadOrdered t → Ready (meaning a) (records t) (room t) n stamp old
      → Departing (meaning a) (meaning b) (records t) (records u) n stamp old given k

module _ {X : Type 0} (sound : X → Type 0) (meaning : X → Meaning) (n stamp : ℕ) (old : List (Option Pointer)) (a : X) (t : Table DeadRecord) where
  pub turned_none : Turned sound meaning n stamp old a a t t 0 0
  turned_none = record {
    stays = λ s. s;
    room_is = refl;
    ordered = λ o. o;
    few = omega arith;
    left = λ s o r. departing_none (meaning a) (records t) n stamp old;
  }

  module _ (b : X) (u : Table DeadRecord) (given k : ℕ) (d : Turned sound meaning n stamp old a b t u given k) where
    pub turned_hole : (b' : X) (u' : Table DeadRecord) (given' : ℕ) → b' ≡ b → u' ≡ u → given' ≡ given → get_or old k None ≡ None
        → Turned sound meaning n stamp old a b' t u' given' (k + 1)
    turned_hole b' u' given' eb eu eg e =
        subst (λ (x : X). Turned sound meaning n stamp old a x t u' given' (k + 1)) (sym eb)
        (subst (λ (x : Table DeadRecord). Turned sound meaning n stamp old a b t x given' (k + 1)) (sym eu)
        (subst (λ (x : ℕ). Turned sound meaning n stamp old a b t u x (k + 1)) (sym eg) (record {
          stays = d.stays;
          room_is = d.room_is;
          ordered = d.ordered;
          few = (let f = d.few in omega arith);
          left = λ s o r. departing_hole (meaning a) (records t) n stamp old (meaning b) (records u) given k (d.left s o r) e;
        })))

    module _ (q : Pointer) (inside : k < length old) (here : get_or old k None ≡ Some q) where
      -- it can leave
      pub turned_able : sound a → DeadOrdered t → Ready (meaning a) (records t) (room t) n stamp old → Able (meaning b) (records u) (room u) n stamp q
      turned_able s o r =
          subst (λ (z : ℕ). Able (meaning b) (records u) z n stamp q) (sym d.room_is) (able (meaning a) (records t) n stamp old (meaning b) (records u) given k (d.left s o r) q here (room t) inside r)

      bit_le : (v : Bool) → cond v 1 0 ≤ 1
      bit_le true = omega arith
      bit_le false = omega arith

      pub turned_left : (c c' : X) (v v' : Table DeadRecord) (given' : ℕ) (gave : Bool) → c' ≡ c → v' ≡ v → given' ≡ given + cond gave 1 0
          → (sound b → sound c) → room v ≡ room u → (DeadOrdered u → DeadOrdered v)
          → (sound b → DeadOrdered u → Able (meaning b) (records u) (room u) n stamp q → Left (meaning b) (meaning c) (records u) (records v) n stamp q gave)
          → Turned sound meaning n stamp old a c' t v' given' (k + 1)
      turned_left c c' v v' given' gave ec ev eg st rm od lf =
          subst (λ (x : X). Turned sound meaning n stamp old a x t v' given' (k + 1)) (sym ec)
          (subst (λ (x : Table DeadRecord). Turned sound meaning n stamp old a c t x given' (k + 1)) (sym ev)
          (subst (λ (x : ℕ). Turned sound meaning n stamp old a c t v x (k + 1)) (sym eg) (record {
            stays = λ s. st (d.stays s);
            room_is = rm ∙ d.room_is;
            ordered = λ o. od (d.ordered o);
            few = (let f = d.few in let l = bit_le gave in omega arith);
            left = λ s o r.
                departing_more (meaning a) (records t) n stamp old (meaning b) (records u) given k (d.left s o r) q here (meaning c) (records v) gave (lf (d.stays s) (d.ordered o) (turned_able s o r));
          })))
