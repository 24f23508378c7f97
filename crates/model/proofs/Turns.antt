-- Runs by their first call.
--     chain            the calls of a run lead on from its start, the first first
--     Follows          whatever these calls answer from s on, they have those answers and lead to a pool with that property
--     finish           no call is left
--     turn             one call answers so, whatever it leaves, and the others follow
--     last             the last call answers so
--     and_so           a call answers so, and what follows from the step holds too
--     not_refused      a call whose questions are all answered yes is not refused
--     granted          so it is granted
--     first_refused    the first question that is answered no is the one that refuses
use Rattle.std.proofs.Common.{◌≡◌, List, [], ◌∷◌, ◌++◌, Ok, Err, Result, sym, refl, subst, inl, inr}
use Rattle.faults.specs.declared.Layer.{Layer}
use Rattle.model.specs.Datasets.{State}
use Rattle.model.specs.Histories.{calls}
use Rattle.model.specs.Life.{Run, start, call, transcript}
use Rattle.model.specs.Questions.{Question, questions, AllYes, FirstNo}
use Rattle.model.specs.Steps.{Granted, Step}
use Rattle.model.specs.declared.Answer.{Answer}
use Rattle.model.specs.declared.Call.{Call}

-- calls with their answers lead from s to t
abbrev Chain : State → List (Call × Result Answer Layer) → State → Type 0
Chain s [] t = s ≡ t
Chain s (x ∷ told) t = (u : State) × Step s x.0 x.1 u × Chain u told t

-- one more call at the end
later : (s t u : State) (told : List (Call × Result Answer Layer)) (c : Call) (r : Result Answer Layer) → Chain s told t → Step t c r u → Chain s (told ++ (c, r) ∷ []) u
later s t u [] c r same step = (u, subst (λ (v : State). Step v c r u) (sym same) step, refl)
later s t u (x ∷ told) c r (v, first, rest) step = (v, first, later v t u told c r rest step)

-- the calls of a run lead on from its start
pub chain : {s t : State} (run : Run s t) → Chain s (transcript run) t
chain start = refl
chain {s} (call {t} {u} run c r step) = later s t u (transcript run) c r (chain run) step

-- whatever these calls answer from s on, they have those answers and lead to a pool with the property Left
pub record Follows (s : State) (told : List (Call × Result Answer Layer)) (Left : State → Type 0) : Type 0 where
  pub forced : (found : List (Call × Result Answer Layer)) (t : State) → Chain s found t → calls found ≡ calls told → (found ≡ told) × Left t

-- no call is left
pub finish : {s : State} {Left : State → Type 0} → Left s → Follows s [] Left
finish {s} {Left} left = record { forced = forced }
  where
    forced : (found : List (Call × Result Answer Layer)) (t : State) → Chain s found t → calls found ≡ [] → (found ≡ []) × Left t
    forced [] t same _ = (refl, subst Left same left)
    forced (x ∷ found) t leads e = absurd cc

-- one call answers so, and the others follow from what it leaves
pub turn : {s : State} {c : Call} {r : Result Answer Layer} {told : List (Call × Result Answer Layer)} {Left After : State → Type 0}
    → ((a : Result Answer Layer) (t : State) → Step s c a t → (a ≡ r) × After t) → ((t : State) → After t → Follows t told Left) → Follows s ((c, r) ∷ told) Left
turn {s} {c} {r} {told} {Left} answers next = record { forced = forced }
  where
    forced : (found : List (Call × Result Answer Layer)) (t : State) → Chain s found t → calls found ≡ c ∷ calls told → (found ≡ (c, r) ∷ told) × Left t
    forced [] t same e = absurd cc
    forced ((d, a) ∷ found) t (u, step, rest) e =
        let same : d ≡ c = cc in
        let others : calls found ≡ calls told = cc in
        let (answer, after) = answers a u (subst (λ (x : Call). Step s x a u) same step) in
        let (tells, left) = (next u after).forced found t rest others in
        (rw (same, answer, tells) refl, left)

-- the last call answers so, and leads to such a pool
pub last : {s : State} {c : Call} {r : Result Answer Layer} {Left After : State → Type 0} → ((t : State) → After t → Left t)
    → ((a : Result Answer Layer) (t : State) → Step s c a t → (a ≡ r) × After t) → Follows s ((c, r) ∷ []) Left
last left answers = turn answers (λ t after. finish (left t after))

-- what the step itself says holds too
pub and_so : {s : State} (c : Call) {r : Result Answer Layer} {After Also : State → Type 0}
    → ((a : Result Answer Layer) (t : State) → Step s c a t → (a ≡ r) × After t) → ((t : State) → Step s c r t → Also t)
    → (a : Result Answer Layer) (t : State) → Step s c a t → (a ≡ r) × (After t × Also t)
and_so {s} c answers also a t step =
    let (is, after) = answers a t step in
    (is, (after, also t (subst (λ (x : Result Answer Layer). Step s c x t) is step)))

-- a call whose questions are all answered yes is not refused
pub not_refused : (qs : List Question) (l : Layer) → AllYes qs → FirstNo qs l → ⊥
not_refused [] l asked first = first
not_refused (q ∷ qs) l asked (inl (fails, _)) = fails asked.0
not_refused (q ∷ qs) l asked (inr (_, first)) = not_refused qs l asked.1 first

-- so it is granted
pub granted : (s t : State) (c : Call) (a : Result Answer Layer) → AllYes (questions s c) → Step s c a t → (x : Answer) × (a ≡ Ok x) × Granted s c x t
granted s t c (Ok x) asked (_, left) = (x, refl, left)
granted s t c (Err l) asked (first, _) = absurd (not_refused (questions s c) l asked first)

-- the first question that is answered no is the one that refuses
pub first_refused : (before : List Question) (q : Question) (after : List Question) (l : Layer) → AllYes before → (q.holds → ⊥) → FirstNo (before ++ q ∷ after) l → l ≡ q.cause
first_refused [] q after l asked fails (inl (_, is)) = is
first_refused [] q after l asked fails (inr (holds, _)) = absurd (fails holds)
first_refused (p ∷ before) q after l asked fails (inl (other, _)) = absurd (other asked.0)
first_refused (p ∷ before) q after l asked fails (inr (_, first)) = first_refused before q after l asked.1 fails first
