-- The dead list of a dataset that goes.
--     kept_found    what a key finds among the records that pass a test
--     others_left   outside of the two ends of the list are the records of all other datasets
--     cleared       the dead lists once those are left
use Rattle.std.proofs.Common.{◌≡◌, ℕ, ◌+◌, ◌-◌, ◌^◌, ◌≤◌, Bool, true, false, cond, min, not, ◌||◌, ◌==◌, ◌⊎◌, ◌↔◌, List, [], ◌∷◌, None, filter, ◌≢◌, sym, ap, ap₂, ◌∙◌, inl, inr, arith}
use Rattle.std.proofs.lemmas.Bool.{cases_Bool, eqb-true, eqb-false}
use Rattle.std.proofs.lemmas.Bool.Decides.{nat_tests}
use Rattle.ordered.specs.Order.{Holds as Says}
use Rattle.ordered.specs.Tables.{Ascending, record_of, without_part}
use Rattle.ordered.proofs.Orders.{equal_same}
use Rattle.records.specs.Keys.{dead_key, dead_below}
use Rattle.records.specs.declared.dead.DeadRecord.{DeadRecord}
use Rattle.records.specs.declared.rows.Pointer.{Pointer}
use Rattle.model.specs.Datasets.{State, Buried, dead_of}
use Rattle.model.specs.Steps.{DeadAfter}
use Rattle.model.proofs.Burials.{dead_one}
use Rattle.model.proofs.Rows.{some_none}

-- what a key finds among the records that pass a test
pub kept_found : (test : DeadRecord → Bool) (xs : List DeadRecord) (k : DeadRecord)
    → record_of dead_key dead_below (filter test xs) k ≡ cond (test k) (record_of dead_key dead_below xs k) None
kept_found test [] k = grind arith
kept_found test (x ∷ xs) k = grind (arith, equal_same dead_below dead_one x k, kept_found test xs k)

-- where the dead list of a dataset begins, and the one of the next number
abbrev start : ℕ → DeadRecord
start n = record { dataset = n; birth = 0; block = 0 }

-- outside of these two are the records of all other datasets
outside : (n : ℕ) (x : DeadRecord) → (dead_below x (start n) || not (dead_below x (start (n + 1)))) ≡ not (x.dataset == n)
outside n x = grind (arith, nat_tests)

pub others_left : (xs : List DeadRecord) (n next : ℕ) (low high : DeadRecord) → n ≤ 999 → next ≡ min (n + 1) (2 ^ 32 - 1) → low ≡ start n → high ≡ start next
    → without_part dead_key dead_below xs low high ≡ filter (λ r. not (r.dataset == n)) xs
others_left xs n next low high small after begins ends =
    let here : next ≡ n + 1 = omega (arith, after, small) in
    ap₂ (λ a b. without_part dead_key dead_below xs a b) begins (ends ∙ ap start here) ∙ ap (λ (p : DeadRecord → Bool). filter p xs) (λ i x. outside n x i)

-- the dead lists once only the records of other datasets are left
pub cleared : (s t : State) (n : ℕ) → t.dead ≡ filter (λ r. not (r.dataset == n)) s.dead → Ascending dead_key (Says dead_below) t.dead → DeadAfter t (λ k q. (k ≢ n) × Buried s k q)
cleared s t n left up = record { ordered = up; members = λ k q. go k q (cases_Bool (k == n)) }
  where
    found : (k : ℕ) (q : Pointer) (b : Bool) → (k == n) ≡ b → record_of dead_key dead_below t.dead (dead_of k q) ≡ cond (not b) (record_of dead_key dead_below s.dead (dead_of k q)) None
    found k q b e =
        ap (λ (xs : List DeadRecord). record_of dead_key dead_below xs (dead_of k q)) left ∙ kept_found (λ r. not (r.dataset == n)) s.dead (dead_of k q)
        ∙ ap (λ (v : Bool). cond (not v) (record_of dead_key dead_below s.dead (dead_of k q)) None) e

    go : (k : ℕ) (q : Pointer) → ((k == n) ≡ true) ⊎ ((k == n) ≡ false) → Buried t k q ↔ ((k ≢ n) × Buried s k q)
    go k q (inl here) = (λ stands. absurd (some_none _ (dead_of k q) stands (found k q true here)), λ (other, _). absurd (other (eqb-true k n here)))
    go k q (inr past) = (λ stands. (eqb-false k n past, sym (found k q false past) ∙ stands), λ (_, stood). found k q false past ∙ stood)
