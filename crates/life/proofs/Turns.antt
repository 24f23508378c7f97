-- One turn of a run: a call more, and its answer.
use Rattle.std.proofs.Common.{◌≡◌, ℕ, suc, ◌+◌, ◌<◌, List, [], ◌∷◌, ◌++◌, length, take, drop, set, get_or, Result, sym, refl, ap, ◌∙◌, subst, ap₂, add-one, arith, rules, length-set}
use Rattle.std.specs.List.{zip}
use Rattle.std.proofs.Math.Seq.{take-suc, take-suc-set, drop-cons}
use Rattle.std.proofs.lemmas.List.{drop-set-lt}
use Rattle.faults.specs.declared.Layer.{Layer}
use Rattle.model.specs.Datasets.{State}
use Rattle.model.specs.Life.{Formatted, Life, Run, call, transcript}
use Rattle.model.specs.Steps.{Step}
use Rattle.model.specs.declared.Answer.{Answer}
use Rattle.model.specs.declared.Call.{Call}
use Rattle.model.proofs.Lives.{life_kept}

-- answers were written in the first k places
pub record Written (was now : List (Result Answer Layer)) (k : ℕ) : Type 0 where
  pub long : length now ≡ length was
  pub rest : drop k now ≡ drop k was

pub written_more : (was now : List (Result Answer Layer)) (k : ℕ) (r : Result Answer Layer) → k < length was → Written was now k → Written was (set now k r) (k + 1)
written_more was now k r room written = record {
  long = length-set now k r ∙ written.long;
  rest = drop-set-lt (k + 1) now k r (omega arith) ∙ rest;
}
  where
    long : length now ≡ length was
    long = written.long

    past : drop (suc k) now ≡ drop (suc k) was
    past = ap (drop 1) (sym (drop-cons now k r (omega arith)) ∙ written.rest ∙ drop-cons was k r room)

    rest : drop (k + 1) now ≡ drop (k + 1) was
    rest = subst (λ (n : ℕ). drop n now ≡ drop n was) (sym (add-one k)) past

-- the first k calls lead from s to t, with the answers in the first k places
abbrev pub Done : State → State → List Call → List (Result Answer Layer) → ℕ → Type 0
Done s t calls answers k = (run : Run s t) × (transcript run ≡ zip (take k calls) (take k answers))

-- a pair more at the end
zip_more : {A B : Type 0} (xs : List A) (ys : List B) (x : A) (y : B) → length xs ≡ length ys → zip (xs ++ x ∷ []) (ys ++ y ∷ []) ≡ zip xs ys ++ (x, y) ∷ []
zip_more [] [] x y e = refl
zip_more [] (b ∷ ys) x y e = absurd (omega arith)
zip_more (a ∷ xs) [] x y e = absurd (omega arith)
zip_more (a ∷ xs) (b ∷ ys) x y e = ap (λ zs. (a, b) ∷ zs) (zip_more xs ys x y (omega arith))

pub done_more : (s t u : State) (calls : List Call) (answers : List (Result Answer Layer)) (k : ℕ) (d : Call) (r : Result Answer Layer)
    → k < length calls → k < length answers → Done s t calls answers k → Step t (get_or calls k d) r u → Done s u calls (set answers k r) (k + 1)
done_more s t u calls answers k d r few room (run, told) step = (call run (get_or calls k d) r step, ap (λ xs. xs ++ (get_or calls k d, r) ∷ []) told ∙ sym pairs)
  where
    level : length (take k calls) ≡ length (take k answers)
    level = search rules

    pairs : zip (take (k + 1) calls) (take (k + 1) (set answers k r)) ≡ zip (take k calls) (take k answers) ++ (get_or calls k d, r) ∷ []
    pairs =
        ap (λ (n : ℕ). zip (take n calls) (take n (set answers k r))) (add-one k)
        ∙ ap₂ (λ xs ys. zip xs ys) (take-suc calls k d few) (take-suc-set answers k r room)
        ∙ zip_more (take k calls) (take k answers) (get_or calls k d) r level

-- from a formatting on that is a life of the pool
pub lived : (s t : State) (told : List (Call × Result Answer Layer)) → Formatted s → (run : Run s t) × (transcript run ≡ told) → Life s told t
lived s t told formatted (run, tells) = record { run = run; tells = tells; kept = life_kept s t run formatted }
