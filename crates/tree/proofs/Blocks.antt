-- Bytes of blocks, and the pointers in them.
use Rattle.std.proofs.Common.{◌≡◌, ℕ, Bool, true, false, refl, ◌+◌, ◌-◌, ◌*◌, ◌<◌, ◌≤◌, eqb, ◌⊎◌, List, ◌++◌, length, take, drop, replicate, Some, None, Option, sym, ap, ◌∙◌, subst, ap₂, inl, inr, arith, length-drop, rules, eq-eqb, ne_eqb}
use borrow.Rule.Slice.PartMut.{put_mid, Post-is}
use Rattle.std.specs.Bool.{then_some}
use Rattle.std.proofs.lemmas.List.{places, drop-replicate, take_all}
use Rattle.std.proofs.lemmas.Slice.{between_is, take-put_mid_below, drop-put_mid, between-put_mid}
use Rattle.std.proofs.lemmas.Bool.{cond-true, cond-false, cases_lt}
use Rattle.records.specs.declared.rows.Pointer.{Pointer}
use Rattle.tree.specs.Trees.{block, word_at, pointer_in}
use Rattle.tree.specs.Paths.{filled}
use Rattle.tree.specs.Steps.{Put}

abbrev pointed : ℕ → ℕ → Option Pointer
pointed b t = Some (record { block = b; birth = t })

-- a pointer from its two words, where two zeros are a hole
pub pointer_told : (part : List ℕ) (k b t : ℕ) (test : Bool) → b ≡ word_at part (8 * k) → t ≡ word_at part (8 * k + 4)
    → (test ≡ true → b + t ≡ 0 → ⊥) → (test ≡ false → b + t ≡ 0) → then_some test (record { block = b; birth = t }) ≡ pointer_in part k
unfolding pointer_in
pointer_told part k b t true eb et some hole =
    ap₂ (λ (x y : ℕ). pointed x y) eb et
    ∙ sym (cond-false (eqb (word_at part (8 * k) + word_at part (8 * k + 4)) 0) None _ (ne_eqb _ 0 (λ z. some refl (omega arith))))
pointer_told part k b t false eb et some hole =
    let none = hole refl in
    sym (cond-true (eqb (word_at part (8 * k) + word_at part (8 * k + 4)) 0) None _ (eq-eqb _ 0 (omega arith)))

-- a text at the start of zero bytes
pub filled_put : (text ys : List ℕ) → ys ≡ text → put_mid 0 (length text - 0) (replicate 64 0) ys ≡ filled text
filled_put text ys e =
    ap₂ (λ (x y : List ℕ). x ++ y) e (Post-is 0 (length text) (replicate 64 0) (omega arith) ∙ drop-replicate (length text) 64 0)

ys_put : (mem ys : List ℕ) (n k : ℕ) → k ≡ 64 → 64 * n + 64 ≤ length mem → length ys ≡ 64 → Put mem (put_mid (64 * n) k mem ys) n ys
ys_put mem ys n k e fits long = record { len = search (rules, places); here = here; off = λ b ne. off b ne (cases_lt b n) }
  where
    width : 64 * n + 64 - 64 * n ≡ 64
    width = omega arith

    here : block (put_mid (64 * n) k mem ys) n ≡ ys
    here = ap (λ (m : ℕ). take m (drop (64 * n) (put_mid (64 * n) k mem ys))) (sym width) ∙ between-put_mid (64 * n) k mem ys (64 * n + 64) (omega arith) (omega arith)

    off : (b : ℕ) → (b ≡ n → ⊥) → (b < n) ⊎ (n ≤ b) → block (put_mid (64 * n) k mem ys) b ≡ block mem b
    off b ne (inl h) =
        let z : 64 * b + 64 - 64 * b ≡ 64 = omega arith in
        ap (λ (m : ℕ). take m (drop (64 * b) (put_mid (64 * n) k mem ys))) (sym z)
        ∙ between_is (put_mid (64 * n) k mem ys) (64 * b) (64 * b + 64)
        ∙ ap (drop (64 * b)) (take-put_mid_below (64 * n) k mem ys (64 * b + 64) (omega arith) (omega arith))
        ∙ sym (between_is mem (64 * b) (64 * b + 64))
        ∙ ap (λ (m : ℕ). take m (drop (64 * b) mem)) z
    off b ne (inr h) = ap (take 64) (drop-put_mid (64 * n) k mem ys (64 * b) (omega (arith, ne)) (omega arith) (long ∙ sym e))

-- a whole block in the memory, from start on
pub block_put : (mem ys bytes : List ℕ) (n start k : ℕ) → start ≡ 64 * n → k ≡ 64 → start + 64 ≤ length mem → length bytes ≡ 64 → ys ≡ bytes
    → Put mem (put_mid start k mem ys) n bytes
block_put mem ys bytes n start k at e fits size same =
    subst (λ (z : List ℕ). Put mem (put_mid start k mem ys) n z) same
    (subst (λ (s : ℕ). Put mem (put_mid s k mem ys) n ys) (sym at) (ys_put mem ys n k e (omega arith) (ap length same ∙ size)))

pub block_read : (mem part : List ℕ) (n start : ℕ) → start ≡ 64 * n → part ≡ take 64 (take (length mem - start) (drop start mem)) → part ≡ block mem n
block_read mem part n start at e =
    e ∙ ap (take 64) (take_all _ _ (simp length-drop (omega arith))) ∙ ap (λ (s : ℕ). take 64 (drop s mem)) at
