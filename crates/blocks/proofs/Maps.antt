-- What the calls of a bitmap do to what it means.
use Rattle.std.proofs.Common.{◌≡◌, ℕ, ◌-◌, ◌/◌, ◌%◌, ◌<◌, ◌≤◌, Bool, true, false, not, ◌&&◌, ltb, List, length, get_or, drop, replicate, min, Some, None, Option, MatchOption, Ok, Err, Result, sym, refl, ap, ◌∙◌, subst, ⊎_elim, arith, length-set}
use native.Mathlib.Nat.{zero-div}
use Rattle.std.proofs.lemmas.List.{get_or_append_left, get_or-replicate, length-replicate}
use Rattle.std.proofs.lemmas.Bool.{and_left, and_right, cases_Bool, ltb-true, lt-ltb}
use Rattle.std.proofs.lemmas.Bool.Decides.{nat_tests}
use Rattle.faults.specs.declared.MemoryCause.{MemoryCause}
use Rattle.blocks.specs.Bits.{bit, bits, flipped, cleared, FirstFree, Taken}
use Rattle.blocks.specs.Bitmaps.{needed, marked, mapped, NextFree, Sound, Kept, Took, Gave, TakesNext, GivesBack}
use Rattle.blocks.specs.Meanings.{Unchanged, Taking, Giving}
use Rattle.blocks.specs.Sets.{Full, Joins, count}
use Rattle.blocks.specs.declared.NotOwned.{NotOwned}
use Rattle.blocks.specs.declared.bitmap.Bitmap.{Bitmap}
use Rattle.blocks.proofs.Changes.{free_less, free_more, owned_unchanged}
use Rattle.blocks.proofs.Counts.{count_empty, count_full}
use Rattle.blocks.proofs.Marks.{flip_here, flip_other}

-- one bit turned
module _ (size : ℕ) (bytes : List ℕ) (n : ℕ) (under : n < size) (room : needed size ≤ length bytes) where
  inside : n / 8 < length bytes
  inside = omega arith

  bit_at : (xs : List ℕ) → marked size xs n ≡ bits xs n
  bit_at xs = ap (λ (t : Bool). t && bits xs n) (lt-ltb n size under)

  pub flip_joins : marked size bytes n ≡ false → Joins (marked size bytes) n (marked size (flipped bytes n))
  flip_joins e = record {
    was = e;
    is = bit_at (flipped bytes n) ∙ flip_here bytes n inside ∙ ap not (sym (bit_at bytes) ∙ e);
    others = λ k ne. ap (λ (t : Bool). ltb k size && t) (flip_other bytes n inside k ne);
  }

  pub flip_leaves : marked size bytes n ≡ true → Joins (marked size (flipped bytes n)) n (marked size bytes)
  flip_leaves e = record {
    was = bit_at (flipped bytes n) ∙ flip_here bytes n inside ∙ ap not (sym (bit_at bytes) ∙ e);
    is = e;
    others = λ k ne. ap (λ (t : Bool). ltb k size && t) (sym (flip_other bytes n inside k ne));
  }

module _ (b w : Bitmap) (sound : Sound b) where
  same_room : (n : ℕ) → w.bytes.now ≡ flipped b.bytes.now n → w.size ≡ b.size → needed w.size ≤ length w.bytes.now
  same_room n e s =
      let long : length w.bytes.now ≡ length b.bytes.now = ap length e ∙ length-set b.bytes.now (n / 8) _ in
      omega (arith, sound.room)

  -- nothing changes
  pub kept_unchanged : Kept b w → Unchanged (mapped b) (mapped w)
  kept_unchanged k = record { size = k.size; owns = λ i. ap (λ (m : ℕ). marked m w.bytes.now i) k.size ∙ ap (λ (xs : List ℕ). marked b.size xs i) k.bytes }

  pub kept_sound : Kept b w → Sound w
  kept_sound k =
      let l = ap length k.bytes in
      let o = owned_unchanged (mapped b) (mapped w) (kept_unchanged k) in
      record { few = omega (arith, sound.few, k.size); room = omega (arith, sound.room, k.size); counted = omega (arith, sound.counted, k.left, k.size) }

  -- block n is taken
  took_joins : (n : ℕ) → n < b.size → (mapped b).owns n ≡ false → Took b n w → Joins (mapped b).owns n (mapped w).owns
  took_joins n under clear t =
      subst (λ (xs : List ℕ). Joins (mapped b).owns n (marked w.size xs)) (sym t.bytes)
      (subst (λ (m : ℕ). Joins (mapped b).owns n (marked m (flipped b.bytes.now n))) (sym t.size) (flip_joins b.size b.bytes.now n under sound.room clear))

  pub takes : (r : Result ℕ MemoryCause) → TakesNext b w r → Taking (mapped b) (mapped w) r
  takes (Ok n) t = (t.1.size, took_joins n t.0.under t.0.clear t.1)
  takes (Err cause) t = (t.0, count_full (mapped b).owns b.size t.1, kept_unchanged t.2)

  pub take_sound : (r : Result ℕ MemoryCause) → TakesNext b w r → Sound w
  take_sound (Ok n) t =
      let u = t.1 in
      let less = free_less (mapped b) (mapped w) n (takes (Ok n) t) in
      record { few = omega (arith, sound.few, u.size); room = same_room n u.bytes u.size; counted = omega (arith, sound.counted, u.left) }
  take_sound (Err cause) t = kept_sound t.2

  -- block n is given back
  gave_joins : (n : ℕ) → (mapped b).owns n ≡ true → Gave b n w → Joins (mapped w).owns n (mapped b).owns
  gave_joins n is g =
      subst (λ (xs : List ℕ). Joins (marked w.size xs) n (mapped b).owns) (sym g.bytes)
      (subst (λ (m : ℕ). Joins (marked m (flipped b.bytes.now n)) n (mapped b).owns) (sym g.size) (flip_leaves b.size b.bytes.now n ((mapped b).below n is) sound.room is))

  pub gives : (n : ℕ) (r : Result (Unit {0}) NotOwned) → GivesBack b n w r → Giving (mapped b) n (mapped w) r
  gives n (Ok u) g = (g.1.size, gave_joins n g.0 g.1)
  gives n (Err e) g = (g.0, kept_unchanged g.1)

  pub give_sound : (n : ℕ) (r : Result (Unit {0}) NotOwned) → GivesBack b n w r → Sound w
  give_sound n (Ok u) g =
      let v = g.1 in
      let more = free_more (mapped b) (mapped w) n (gives n (Ok tt) g) in
      record { few = omega (arith, sound.few, v.size); room = same_room n v.bytes v.size; counted = omega (arith, sound.counted, sound.few, v.left, v.size) }
  give_sound n (Err e) g = kept_sound g.1

-- bytes that were just cleared
module _ (size : ℕ) (bytes was : List ℕ) (clear : bytes ≡ cleared (needed size) was) where
  byte_cleared : (i : ℕ) → i < needed size → get_or bytes i 0 ≡ 0
  byte_cleared i h =
      ap (λ (xs : List ℕ). get_or xs i 0) clear
      ∙ get_or_append_left (replicate (needed size) 0) (drop (needed size) was) 0 i (omega (arith, length-replicate {A = ℕ} (needed size) 0))
      ∙ get_or-replicate (needed size) i 0 0 h

  bit_cleared : (j : ℕ) → bit 0 j ≡ false
  bit_cleared j = simp zero-div

  pub new_empty : (k : ℕ) → marked size bytes k ≡ false
  new_empty k =
      ⊎_elim
      (λ (q : ltb k size ≡ true).
      let under = ltb-true k size q in
      and_right (ltb k size) _ (ap (λ (v : ℕ). bit v (k % 8)) (byte_cleared (k / 8) (omega arith)) ∙ bit_cleared (k % 8)))
      (λ (q : ltb k size ≡ false). and_left (ltb k size) _ q)
      (cases_Bool (ltb k size))

  -- every block is free
  pub new_counted : size ≡ size - count (marked size bytes) size
  new_counted = omega (arith, count_empty (marked size bytes) size (λ k _. new_empty k))

-- the first free block from the cursor on, else the first one before it
module _ (size cursor : ℕ) (bytes : List ℕ) where
  pub goes_round : (ahead first : Option ℕ) → MatchOption ahead (Taken (bits bytes) cursor size) (λ n. FirstFree (bits bytes) cursor size n)
      → (ahead ≡ None → MatchOption first (Taken (bits bytes) 0 (min cursor size)) (λ n. FirstFree (bits bytes) 0 (min cursor size) n)) → ((n : ℕ) → ahead ≡ Some n → first ≡ Some n)
      → MatchOption first (Full (marked size bytes) size) (λ n. NextFree (marked size bytes) cursor size n)
  goes_round (Some n) first ahead else same = subst (λ r. MatchOption r (Full (marked size bytes) size) (λ n. NextFree (marked size bytes) cursor size n)) (sym (same n refl)) (grind (arith, nat_tests))
  goes_round None None ahead else same = let before = else refl in grind (arith, nat_tests)
  goes_round None (Some n) ahead else same = let before = else refl in grind (arith, nat_tests)
