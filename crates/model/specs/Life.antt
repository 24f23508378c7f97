-- The life of a pool: any calls, granted or refused, from a formatting on, and what it promises.
--     Formatted s          s is a pool just formatted
--     Run s t              calls with their answers lead from s to t
--     transcript run       those calls and answers, the first first
--     Out run b            block b was handed out and not given back since
--     Ends run             the last call gives back the blocks that no dataset reaches any more, and no others
--     all_taken, all_given the sums of the counts that the answers tell
--     AnswersCount s c k   asked in s, the call c answers the count k, and nothing else
--     Taken run m n past   snapshot m was taken of head n in the state `past`, and was not destroyed since
--     written run n p      what was last written at position p of head n
--     Unchanged run        where the last call was refused, it was so for the first no, and changed nothing
--     Promise run          what a run promises of the state that it leads to: parts a to e
--     Throughout run       the promise held at the start, and after every call
--     LifeKept             every run from a formatting on keeps its promises throughout
--     Life s told t        the calls and answers `told` lead from s to t, and every promise was kept throughout
use Rattle.std.specs.Prelude.{◌≡◌, ℕ, ◌+◌, Bool, true, false, if◌then◌else◌, ◌&&◌, ◌⊎◌, ◌↔◌, List, [], ◌∷◌, ◌++◌, Some, None, filter, Ok, Err, Option, Result, ◌==◌}
use Rattle.std.specs.List.{sum_by}
use Rattle.faults.specs.declared.Layer.{Layer}
use Rattle.blocks.specs.Sets.{count}
use Rattle.records.specs.declared.rows.Kind.{Kind}
use Rattle.records.specs.declared.rows.Kind.TheVariants.{Head, Snapshot as OfSnapshot}
use Rattle.records.specs.declared.rows.Row.{Row}
use Rattle.tree.specs.Paths.{filled}
use Rattle.model.specs.Datasets.{State, Dataset, IsHead, IsSnapshot, Position, Reached, formatted, reads}
use Rattle.model.specs.Families.{IsClone}
use Rattle.model.specs.Figures.{UniqueIs}
use Rattle.model.specs.Questions.{questions, format_questions, AllYes, FirstNo}
use Rattle.model.specs.Steps.{Step}
use Rattle.model.specs.declared.Answer.{Answer}
use Rattle.model.specs.declared.Answer.TheVariants.{Done, Count}
use Rattle.model.specs.declared.Call.{Call}
use Rattle.model.specs.declared.Call.TheVariants.{Create, Write, Discard, Snapshot, Clone, Destroy, Unique, Used}
use Rattle.model.specs.declared.Changed.{Changed}

-- a pool just formatted: the formatting was granted, over any memory and any allocator
abbrev pub Formatted : State → Type 0
Formatted s = AllYes (format_questions s.memory s.row_room s.dead_room s.size s.owns) × (s ≡ formatted s.memory s.row_room s.dead_room s.size s.owns)

-- calls in turn from the state s on, each with what it answers, granted or refused
pub data Run (s : State) : State → Type 0 where
  start : Run s s
  call : {t u : State} → Run s t → (c : Call) (r : Result Answer Layer) → Step t c r u → Run s u

-- the calls with their answers, the first first
abbrev pub transcript : {s t : State} → Run s t → List (Call × Result Answer Layer)
transcript start = []
transcript (call run c r step) = transcript run ++ (c, r) ∷ []

-- a call hands out a block that is owned after it and not before, and gives back one that is owned before it and not after
abbrev pub HandsOut : State → State → ℕ → Type 0
HandsOut t u b = (t.owns b ≡ false) × (u.owns b ≡ true)

abbrev pub GivesBack : State → State → ℕ → Type 0
GivesBack t u b = (t.owns b ≡ true) × (u.owns b ≡ false)

-- block b was handed out and not given back since
unfoldable pub Out : {s t : State} → Run s t → ℕ → Type 0
Out start b = ⊥
Out (call {t} {u} run c r step) b = HandsOut t u b ⊎ (Out run b × (GivesBack t u b → ⊥))

-- the last call gives back just those blocks that were out and that no dataset reaches after it
unfoldable pub Ends : {s t : State} → Run s t → Type 0
Ends start = Unit {0}
Ends (call {t} {u} run c r step) = (b : ℕ) → GivesBack t u b ↔ (Out run b × (Reached u b → ⊥))

-- the counts that an answer tells; one that is no change tells none
abbrev pub told_change : Result Answer Layer → Changed
told_change (Ok (Done c)) = c
told_change r = record { taken = 0; given = 0 }

-- their sums over the run
unfoldable pub all_taken : {s t : State} → Run s t → ℕ
all_taken start = 0
all_taken (call run c r step) = all_taken run + (told_change r).taken

unfoldable pub all_given : {s t : State} → Run s t → ℕ
all_given start = 0
all_given (call run c r step) = all_given run + (told_change r).given

-- asked in s, the call c answers the count k, and nothing else
abbrev pub AnswersCount : State → Call → ℕ → Type 0
AnswersCount s c k = Step s c (Ok (Count k)) s × ((r : Result Answer Layer) (t : State) → Step s c r t → r ≡ Ok (Count k))

-- the heads among the rows
abbrev pub is_head : Kind → Bool
is_head (Head o) = true
is_head (OfSnapshot g) = false

abbrev pub heads : State → List Row
heads s = filter (λ (r : Row). is_head r.kind) s.rows

-- snapshot m was taken of head n, which stood as in the state `past` before, and was not destroyed since
unfoldable pub Taken : {s t : State} → Run s t → ℕ → ℕ → State → Type 0
Taken start m n past = ⊥
Taken (call {t} run c (Ok a) step) m n past = ((c ≡ Snapshot n m) × (past ≡ t)) ⊎ (Taken run m n past × (c ≡ Destroy m → ⊥))
Taken (call run c (Err l) step) m n past = Taken run m n past

-- what is written at position p of head n after a call granted in t, where `before` was written before it: a new head has holes,
-- and a clone what its snapshot reads
abbrev pub written_by : State → Call → (ℕ → ℕ → Option (List ℕ)) → ℕ → ℕ → Option (List ℕ)
written_by t (Create m h) before n p = if n == m then None else before n p
written_by t (Write m i text) before n p = if n == m && p == i then Some (filled text.now) else before n p
written_by t (Discard m i) before n p = if n == m && p == i then None else before n p
written_by t (Clone m k) before n p = if n == k then reads t m p else before n p
written_by t c before n p = before n p

-- what was last written at position p of head n
unfoldable pub written : {s t : State} → Run s t → ℕ → ℕ → Option (List ℕ)
written start n p = None
written (call {t} run c (Ok a) step) n p = written_by t c (written run) n p
written (call run c (Err l) step) n p = written run n p

-- a last call that was refused was so for the first question answered no, and left all as it was
unfoldable pub Unchanged : {s t : State} → Run s t → Type 0
Unchanged start = Unit {0}
Unchanged (call run c (Ok a) step) = Unit {0}
Unchanged (call {t} {u} run c (Err l) step) = FirstNo (questions t c) l × (u ≡ t)

-- What a run promises of the state t that it leads to.
pub record Promise {s t : State} (run : Run s t) : Type 0 where
  -- a) The owned blocks are those that some dataset reaches. They are those handed out and not given back since; each is given
  --    back in the first call after which no dataset reaches it.
  pub reached : (b : ℕ) → (t.owns b ≡ true) ↔ Reached t b
  pub out : (b : ℕ) → (t.owns b ≡ true) ↔ Out run b
  pub ends : Ends run
  -- b) Unique, asked of a dataset without clones, answers how many blocks it reaches and no other dataset does. What used answers
  --    of all heads adds up to the number of owned blocks, and so do all taken counts less all given counts.
  pub unique : (n : ℕ) (r : Row) → Dataset t n r → ((m : ℕ) → IsClone t n m → ⊥) → (k : ℕ) × UniqueIs t n k × AnswersCount t (Unique n) k
  pub used : (k : ℕ → ℕ) × ((n : ℕ) (o : Option ℕ) → IsHead t n o → AnswersCount t (Used n) (k n))
      × (sum_by (λ (r : Row). k r.number) (heads t) ≡ count t.owns t.size)
  pub counts : all_taken run ≡ all_given run + count t.owns t.size
  -- c) The snapshots are those taken and not destroyed since, and each position of one reads as its head read when it was taken.
  pub snapshots : (m : ℕ) → ((g : ℕ) × IsSnapshot t m g) ↔ ((n : ℕ) × (past : State) × Taken run m n past)
  pub keeps : (m n : ℕ) (past : State) → Taken run m n past → (p : ℕ) → Position t m p → reads t m p ≡ reads past n p
  -- d) Each position of a head reads what was last written there.
  pub writes : (n p : ℕ) (o : Option ℕ) → IsHead t n o → Position t n p → reads t n p ≡ written run n p
  -- e) A refused call was refused for the first question answered no, and left datasets, blocks, dead records and owned set as they were.
  pub refused : Unchanged run

-- the promise held at the start and after each call
abbrev pub Throughout : {s t : State} → Run s t → Type 0
Throughout {s} start = Promise {s = s} start
Throughout (call run c r step) = Throughout run × Promise (call run c r step)

-- The life of a pool: the calls had these answers, and every promise was kept throughout.
pub record Life (s : State) (told : List (Call × Result Answer Layer)) (t : State) : Type 0 where
  pub run : Run s t
  pub tells : transcript run ≡ told
  pub kept : Throughout run

-- every run from a formatting on keeps its promises throughout
abbrev pub LifeKept : Type 0
LifeKept = (s t : State) (run : Run s t) → Formatted s → Throughout run
