-- The steps of the pointers of an old path that leave a dataset.
use Rattle.std.proofs.Common.{◌≡◌, ℕ, ◌+◌, ◌<◌, ◌≤◌, Bool, false, cond, List, [], ◌∷◌, length, get_or, is_some, Some, None, Ok, Option, Result, sym, refl, ap, ◌∙◌, subst, ⊎_elim, arith, length-append}
use Rattle.std.proofs.lemmas.Bool.{cases_eq, cases_lt, lt-ltb, cond-true, cond-false}
use Rattle.std.proofs.lemmas.List.{get_or_past}
use Rattle.blocks.specs.Meanings.{Meaning, Alike, Giving, owned}
use Rattle.blocks.proofs.Changes.{owned_less}
use Rattle.ordered.specs.Tables.{answer, record_of, with_record}
use Rattle.ordered.specs.declared.tables.InsertError.{InsertError}
use Rattle.ordered.proofs.Additions.{no_index_of, length_with}
use Rattle.records.specs.Keys.{dead_key, dead_below}
use Rattle.records.specs.declared.dead.DeadRecord.{DeadRecord}
use Rattle.records.specs.declared.rows.Pointer.{Pointer}
use Rattle.model.specs.Datasets.{dead_of}
use Rattle.model.specs.Steps.{buried}
use Rattle.reclaim.specs.Leavers.{Able, Left}
use Rattle.reclaim.specs.Leaving.{Ready, Departed}
use Rattle.reclaim.proofs.Sinks.{sunk_below, sunk_none, sunk_hole, sunk_young, sunk_old, sunk_grows, buried_none, buried_more, record_past, blocks_apart}

-- a record that can be placed is not refused
pub is_placed : (m : Meaning) (dead : List DeadRecord) (room n stamp : ℕ) (q : Pointer) (r : DeadRecord) (a : Result (Unit {0}) InsertError) → r ≡ dead_of n q → q.birth ≤ stamp
    → Able m dead room n stamp q → a ≡ answer dead_key dead_below room dead r → a ≡ Ok tt
is_placed m dead room n stamp q r a e l able is =
    is
    ∙ ap (answer dead_key dead_below room dead) e
    ∙ cond-false _ _ _ (ap is_some (no_index_of dead_key dead_below dead (dead_key (dead_of n q)) (able.absent l)))
    ∙ cond-true _ _ _ (lt-ltb _ _ (able.fits l))

-- a record is placed
pub left_old : (m : Meaning) (dead dead' : List DeadRecord) (n stamp : ℕ) (q : Pointer) (r : DeadRecord) → r ≡ dead_of n q → q.birth ≤ stamp
    → dead' ≡ with_record dead_key dead_below dead r → Left m m dead dead' n stamp q false
left_old m dead dead' n stamp q r e l is = record {
  young = λ o. absurd (omega arith);
  old = λ _. (refl, refl, is ∙ ap (with_record dead_key dead_below dead) e);
}

-- one of the first k pointers, born after the stamp, leads to block b
pub record Gone (old : List (Option Pointer)) (stamp k b : ℕ) : Type 0 where
  pub index : ℕ
  pub pointer : Pointer
  pub small : index < k
  pub here : get_or old index None ≡ Some pointer
  pub above : stamp < pointer.birth
  pub is : pointer.block ≡ b

-- the first k pointers have left
pub record Departing (m w : Meaning) (dead dead' : List DeadRecord) (n stamp : ℕ) (old : List (Option Pointer)) (given k : ℕ) : Type 0 where
  pub size : Alike m w
  pub gone : (b : ℕ) → Gone old stamp k b → w.owns b ≡ false
  pub others : (b : ℕ) → (Gone old stamp k b → ⊥) → w.owns b ≡ m.owns b
  pub number : owned w + given ≡ owned m
  pub buries : dead' ≡ buried n dead (sunk_below old stamp k)
  pub long : length dead' ≡ length dead + length (sunk_below old stamp k)
  -- the keys of other blocks find what they found
  pub same_key : (q : Pointer) → ((i : ℕ) (x : Pointer) → i < k → get_or old i None ≡ Some x → x.block ≡ q.block → ⊥)
      → record_of dead_key dead_below dead' (dead_key (dead_of n q)) ≡ record_of dead_key dead_below dead (dead_key (dead_of n q))

module _ (m : Meaning) (dead : List DeadRecord) (n stamp : ℕ) (old : List (Option Pointer)) where
  pub departing_none : Departing m m dead dead n stamp old 0 0
  departing_none = record {
    size = refl;
    gone = λ b g. absurd (let l = g.small in omega arith);
    others = λ b _. refl;
    number = omega arith;
    buries = sym (ap (buried n dead) (sunk_none old stamp) ∙ buried_none n dead);
    long = (let e = ap length (sunk_none old stamp) in omega arith);
    same_key = λ q _. refl;
  }

  module _ (w : Meaning) (dead' : List DeadRecord) (given k : ℕ) (d : Departing m w dead dead' n stamp old given k) where
    more : (b : ℕ) → Gone old stamp k b → Gone old stamp (k + 1) b
    more b g = record { index = g.index; pointer = g.pointer; small = (let l = g.small in omega arith); here = g.here; above = g.above; is = g.is }

    -- where pointer k is not young, no other is gone than before
    fewer : ((q : Pointer) → get_or old k None ≡ Some q → stamp < q.birth → ⊥) → (b : ℕ) → Gone old stamp (k + 1) b → Gone old stamp k b
    fewer none b g =
        ⊎_elim
        (λ (e : g.index ≡ k). absurd (none g.pointer (subst (λ (i : ℕ). get_or old i None ≡ Some g.pointer) e g.here) g.above))
        (λ (ne : g.index ≡ k → ⊥). record { index = g.index; pointer = g.pointer; small = (let l = g.small in omega (arith, ne)); here = g.here; above = g.above; is = g.is })
        (cases_eq g.index k)

    earlier : (q : Pointer) → ((i : ℕ) (x : Pointer) → i < k + 1 → get_or old i None ≡ Some x → x.block ≡ q.block → ⊥)
        → (i : ℕ) (x : Pointer) → i < k → get_or old i None ≡ Some x → x.block ≡ q.block → ⊥
    earlier q apart i x l = apart i x (omega arith)

    -- a hole
    pub departing_hole : get_or old k None ≡ None → Departing m w dead dead' n stamp old given (k + 1)
    departing_hole e = record {
      size = d.size;
      gone = λ b g. d.gone b (fewer hole b g);
      others = λ b ng. d.others b (λ g. ng (more b g));
      number = d.number;
      buries = d.buries ∙ sym (ap (buried n dead) (sunk_hole old stamp k e));
      long = (let s = ap length (sunk_hole old stamp k e) in let l = d.long in omega arith);
      same_key = λ q apart. d.same_key q (earlier q apart);
    }
      where
        hole : (q : Pointer) → get_or old k None ≡ Some q → stamp < q.birth → ⊥
        hole q s _ = let w = sym e ∙ s in let z : ◌≡◌ {A = ℕ} 0 1 = cc in omega arith

    module _ (q : Pointer) (here : get_or old k None ≡ Some q) where
      same_pointer : (x : Pointer) → get_or old k None ≡ Some x → x ≡ q
      same_pointer x e = let s = sym here ∙ e in cc

      pub able : (room : ℕ) → k < length old → Ready m dead room n stamp old → Able w dead' room n stamp q
      able room lt ready = record {
        young = λ l. d.others q.block (λ g. ready.apart g.index k g.pointer q g.small g.here here g.is) ∙ ready.young k q here l;
        absent = λ l. d.same_key q (λ i x s e. ready.apart i k x q s e here) ∙ ready.absent k q here l;
        fits = λ l.
            let s = ap length (sunk_old old stamp k q here l) in
            let a = length-append (sunk_below old stamp k) (q ∷ []) in
            let u = sunk_grows old stamp (k + 1) (length old) (omega arith) in
            let f = ready.fits in
            let e = d.long in
            omega arith;
      }

      young_more : (v : Meaning) → stamp < q.birth → Giving w q.block v (Ok tt) → Departing m v dead dead' n stamp old (given + 1) (k + 1)
      young_more v l g = record {
        size = g.0 ∙ d.size;
        gone = λ b o.
            ⊎_elim
            (λ (e : b ≡ q.block). ap v.owns e ∙ g.1.was)
            (λ (ne : b ≡ q.block → ⊥). sym (g.1.others b ne) ∙ d.gone b (before b ne o))
            (cases_eq b q.block);
        others = λ b no.
            sym (g.1.others b (λ e. no (record { index = k; pointer = q; small = omega arith; here = here; above = l; is = sym e })))
            ∙ d.others b (λ o. no (more b o));
        number = (let s = owned_less w v q.block g in let e = d.number in omega arith);
        buries = d.buries ∙ sym (ap (buried n dead) (sunk_young old stamp k q here l));
        long = (let s = ap length (sunk_young old stamp k q here l) in let e = d.long in omega arith);
        same_key = λ x apart. d.same_key x (earlier x apart);
      }
        where
          before : (b : ℕ) → (b ≡ q.block → ⊥) → Gone old stamp (k + 1) b → Gone old stamp k b
          before b ne o =
              ⊎_elim
              (λ (e : o.index ≡ k).
              let s = same_pointer o.pointer (subst (λ (i : ℕ). get_or old i None ≡ Some o.pointer) e o.here) in
              absurd (ne (sym o.is ∙ ap (λ (x : Pointer). x.block) s)))
              (λ (nk : o.index ≡ k → ⊥). record { index = o.index; pointer = o.pointer; small = (let s = o.small in omega (arith, nk)); here = o.here; above = o.above; is = o.is })
              (cases_eq o.index k)

      old_more : (zs : List DeadRecord) → q.birth ≤ stamp → zs ≡ with_record dead_key dead_below dead' (dead_of n q) → Departing m w dead zs n stamp old given (k + 1)
      old_more zs l e = record {
        size = d.size;
        gone = λ b o. d.gone b (fewer aged b o);
        others = λ b ng. d.others b (λ o. ng (more b o));
        number = d.number;
        buries =
            e
            ∙ ap (λ (xs : List DeadRecord). with_record dead_key dead_below xs (dead_of n q)) d.buries
            ∙ sym (buried_more n dead (sunk_below old stamp k) q)
            ∙ sym (ap (buried n dead) (sunk_old old stamp k q here l));
        long =
            (let s = ap length (sunk_old old stamp k q here l) in
            let a = length-append (sunk_below old stamp k) (q ∷ []) in
            let z = ap length e ∙ length_with dead_key dead_below dead' (dead_of n q) in
            let o = d.long in
            omega arith);
        same_key = λ x apart.
            ap (λ (xs : List DeadRecord). record_of dead_key dead_below xs (dead_key (dead_of n x))) e
            ∙ record_past dead_key dead_below dead' (dead_of n q) (dead_key (dead_of n x)) (blocks_apart n q x (apart k q (omega arith) here))
            ∙ d.same_key x (earlier x apart);
      }
        where
          aged : (x : Pointer) → get_or old k None ≡ Some x → stamp < x.birth → ⊥
          aged x s a = let b = ap (λ (y : Pointer). y.birth) (same_pointer x s) in omega arith

      pub departing_more : (v : Meaning) (zs : List DeadRecord) (gave : Bool) → Left w v dead' zs n stamp q gave → Departing m v dead zs n stamp old (given + cond gave 1 0) (k + 1)
      departing_more v zs gave left =
          ⊎_elim
          (λ (y : stamp < q.birth).
          let o = left.young y in
          subst (λ (b : Bool). Departing m v dead zs n stamp old (given + cond b 1 0) (k + 1)) (sym o.0) (subst (λ (xs : List DeadRecord). Departing m v dead xs n stamp old (given + 1) (k + 1)) (sym o.2) (young_more v y o.1)))
          (λ (y : q.birth ≤ stamp).
          let o = left.old y in
          let z : given ≡ given + 0 = omega arith in
          subst (λ (b : Bool). Departing m v dead zs n stamp old (given + cond b 1 0) (k + 1)) (sym o.0) (subst (λ (i : ℕ). Departing m v dead zs n stamp old i (k + 1)) z (subst (λ (u : Meaning). Departing m u dead zs n stamp old given (k + 1)) (sym o.1) (old_more zs y o.2))))
          (cases_lt stamp q.birth)

-- all of them have left
pub departed : (m w : Meaning) (dead dead' : List DeadRecord) (n stamp : ℕ) (old : List (Option Pointer)) (given : ℕ)
    → Departing m w dead dead' n stamp old given (length old) → Departed m w dead dead' n stamp old given
departed m w dead dead' n stamp old given d = record {
  size = d.size;
  gone = λ i q e l. d.gone q.block (record { index = i; pointer = q; small = inside i q e; here = e; above = l; is = refl });
  others = λ b no. d.others b (λ g. no g.index g.pointer g.here g.above g.is);
  number = d.number;
  buries = d.buries;
}
  where
    inside : (i : ℕ) (q : Pointer) → get_or old i None ≡ Some q → i < length old
    inside i q e =
        ⊎_elim
        (λ (l : i < length old). l)
        (λ (l : length old ≤ i). let p = sym e ∙ get_or_past old i None l in let z : ◌≡◌ {A = ℕ} 0 1 = cc in absurd (omega arith))
        (cases_lt i (length old))
