-- One write to the buffer after another.
use Rattle.std.proofs.Common.{◌≡◌, ℕ, ◌+◌, ◌-◌, ◌≤◌, List, ◌++◌, take, drop, sym, ap, ◌∙◌, append_assoc, arith}
use Rattle.std.proofs.lemmas.List.{length-append, drop-drop}
use Rattle.script.specs.Shown.{Put}

-- what lies past a later place stays too
later : (xs ys : List ℕ) (m n : ℕ) → m ≤ n → drop m xs ≡ drop m ys → drop n xs ≡ drop n ys
later xs ys m n h e =
    let at : m + (n - m) ≡ n = omega arith in
    ap (λ k. drop k xs) (sym at) ∙ sym (drop-drop (n - m) m xs) ∙ ap (drop (n - m)) e ∙ drop-drop (n - m) m ys ∙ ap (λ k. drop k ys) at

pub put_then : {a b c : List ℕ} {at mid end : ℕ} {xs ys : List ℕ} → Put a b at mid xs → Put b c mid end ys → Put a c at end (xs ++ ys)
put_then {a} {b} {c} {at} {mid} {end} {xs} {ys} p q = record {
  long = omega (arith, p.long, q.long, length-append xs ys);
  within = q.within;
  room = q.room ∙ p.room;
  front = q.front ∙ ap (λ l. l ++ ys) p.front ∙ append_assoc (take at a) xs ys;
  rest = q.rest ∙ later b a mid end (omega (arith, q.long)) p.rest;
}
