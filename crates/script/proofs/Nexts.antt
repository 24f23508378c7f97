-- The next line of a console, from what its parts answer.
use Rattle.std.proofs.Common.{◌≡◌, ℕ, ◌+◌, List, [], Ok, Err, Result, sym, ap, ◌∙◌, subst}
use Rattle.std.specs.Result as results
use Rattle.faults.specs.declared.Fault.{Fault}
use Rattle.faults.specs.declared.Layer.{Layer}
use Rattle.faults.specs.declared.Layer.TheVariants.{Script}
use Rattle.faults.specs.declared.ScriptCause.{ScriptCause}
use Rattle.faults.specs.declared.ScriptCause.TheVariants.{Size, Letter}
use Rattle.model.specs.declared.Answer.{Answer}
use Rattle.script.specs.Consoles.{Console, FirstLine, NamesAllocator, TooLong, Answered, named, unnamed, Next, too_long, line, ended, nothing_moved, past, told}
use Rattle.script.specs.Shown.{shown, shown_fault}

-- what the first line answers, and the console after it
abbrev pub FirstAnswer : Console → List ℕ → Result Answer Layer → Console → Type 0
FirstAnswer c bs r d =
    results.MatchResult r (λ a. NamesAllocator bs × (a ≡ nothing_moved) × (d ≡ c)) (λ l. (NamesAllocator bs → ⊥) × (l ≡ Script Letter) × (d ≡ ended c))

pub first_answered : (c : Console) (bs : List ℕ) (r : Result Answer Layer) (d : Console) → c.read ≡ 1 → FirstAnswer c bs r d → Answered c bs r d
first_answered c bs (Ok a) d one (names, is, same) = subst (λ x. Answered c bs (Ok x) d) (sym is) (subst (Answered c bs (Ok nothing_moved)) (sym same) (named one names))
first_answered c bs (Err l) d one (not, is, over) = subst (λ x. Answered c bs (Err x) d) (sym is) (subst (Answered c bs (Err (Script Letter))) (sym over) (unnamed one not))

-- a script that is too long
pub too_long_next : (c d : Console) (bs : List ℕ) (cause : ScriptCause) → cause ≡ Size → TooLong c.rest → d.rest ≡ [] → d.read ≡ c.read → d.pool ≡ c.pool
    → bs ≡ told 0 (Err (Script cause)) → Next c bs d
too_long_next c d bs cause size long none same pool shows =
    let over : ended c ≡ d =
    sym (ap (λ r. record { rest = r; read = d.read; pool = d.pool }) none ∙ ap (λ n. record { rest = []; read = n; pool = d.pool }) same ∙ ap (λ p. record { rest = []; read = c.read; pool = p }) pool) in
    subst (Next c bs) over (subst (λ x. Next c x (ended c)) (sym (shows ∙ ap (λ x. told 0 (Err (Script x))) size)) (too_long long))

-- a line that was read from what is left, and answered
pub line_next : (c m d : Console) (bs out : List ℕ) (r : Result Answer Layer) (n : ℕ) → (TooLong c.rest → ⊥) → FirstLine c.rest bs m.rest → m.read ≡ c.read + 1 → m.pool ≡ c.pool
    → Answered m bs r d → n ≡ m.read → out ≡ told n r → Next c out d
line_next c m d bs out r n short first counted pool answered under shows =
    let on : m ≡ past c m.rest =
    ap (λ k. record { rest = m.rest; read = k; pool = m.pool }) counted ∙ ap (λ p. record { rest = m.rest; read = c.read + 1; pool = p }) pool in
    subst (λ x. Next c x d) (sym (shows ∙ ap (λ k. told k r) (under ∙ counted))) (line short first (subst (λ x. Answered x bs r d) on answered))

-- an answer under the number of its line
pub mapped_shows : (n : ℕ) (r : Result Answer Layer) (s : Result Answer Fault) (P : Layer → Fault → Type 0) → results.MatchResult r (λ a. s ≡ Ok a) (λ l. results.IsErrAnd s (P l))
    → ((l : Layer) (f : Fault) → P l f → f ≡ record { layer = l; line = n }) → shown s ≡ told n r
mapped_shows n (Ok a) s P is under = ap shown is
mapped_shows n (Err l) (Err f) P is under = ap shown_fault (under l f is)
mapped_shows n (Err l) (Ok a) P is under = absurd is
