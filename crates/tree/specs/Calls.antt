-- What the calls on a pointer and on a new path answer.
--     Children mem q qs    qs are the pointers that q leads to
--     old_root w           the root of a surveyed path
--     taken f d            the block of a new path at depth d
--     Tracks mem w         w has the pointers of its path, from the root down
--     IsFresh mem w f      the blocks of a new path may replace the first ones of the path of w
--     Refused              why a new path is refused: a block that is reached, or one of the new ones, lies outside
--     InRange w f text     a route, a new path and a text that may be written
--     Links                the indirect blocks of the path are written
--     Rewrites             the path is replaced, and its new root is the answer
--     Spares mem mem' f    the blocks that are not of the new path are as they were
use Rattle.std.specs.Prelude.{◌≡◌, ℕ, Contains, ◌+◌, ◌<◌, ◌≤◌, min, ◌⊎◌, List, length, Some, None, Option, Result, MatchResult, slice_index, slice_index_or}
use Rattle.faults.specs.declared.PoolCause.{PoolCause}
use Rattle.faults.specs.declared.PoolCause.TheVariants.{NoPool}
use Rattle.records.specs.declared.rows.Pointer.{Pointer}
use Rattle.tree.specs.declared.paths.FreshPath.{FreshPath}
use Rattle.tree.specs.declared.paths.Route.{Route}
use Rattle.tree.specs.Trees.{block, block_size, child, fan, on_path, Lost}
use Rattle.tree.specs.Paths.{filled, new_at, Fresh, Short, Rewritten}
use Rattle.tree.specs.Steps.{Linked}

pub record Children (mem : List ℕ) (q : Pointer) (qs : List (Option Pointer)) : Type 0 where
  pub long : length qs ≡ fan
  pub here : (k : ℕ) → k < fan → slice_index_or qs k None ≡ child mem (Some q) k

abbrev pub old_root : Route → Option Pointer
old_root w = slice_index_or w.old 0 None

abbrev pub taken : FreshPath → ℕ → ℕ
taken f = λ d. slice_index f.blocks.now d

abbrev pub Tracks : List ℕ → Route → Type 0
Tracks mem w = (d : ℕ) → d ≤ w.path.height → slice_index_or w.old d None ≡ on_path mem (old_root w) w.path.height w.path.position d

abbrev pub IsFresh : List ℕ → Route → FreshPath → Type 0
IsFresh mem w f = Fresh mem (old_root w) w.path.height (taken f) f.group (length f.blocks.now)

abbrev pub InRange : Route → FreshPath → List ℕ → Type 0
InRange w f text = (w.path.height ≤ 4) × (length f.blocks.now ≤ w.path.height + 1) × (length text ≤ block_size)

abbrev pub Refused : List ℕ → Route → FreshPath → PoolCause → Type 0
Refused mem w f c = (c ≡ NoPool) × (Lost mem (old_root w) w.path.height ⊎ Short mem (taken f) (length f.blocks.now))

abbrev pub Links : List ℕ → List ℕ → Route → FreshPath → Result (Unit {0}) PoolCause → Type 0
Links mem mem' w f r = Tracks mem w → IsFresh mem w f
    → MatchResult r (λ _. Linked mem mem' (old_root w) w.path.height w.path.position (taken f) f.group (length f.blocks.now) (min (length f.blocks.now) w.path.height)) (Refused mem w f)

abbrev pub Rewrites : List ℕ → List ℕ → Route → FreshPath → List ℕ → Result (Option Pointer) PoolCause → Type 0
Rewrites mem mem' w f text r = Tracks mem w → IsFresh mem w f
    → MatchResult r (λ q. (q ≡ new_at (taken f) f.group (length f.blocks.now) 0) × Rewritten mem mem' (old_root w) w.path.height w.path.position (taken f) f.group (length f.blocks.now) (filled text)) (Refused mem w f)

pub record Spares (mem mem' : List ℕ) (f : FreshPath) : Type 0 where
  pub len : length mem' ≡ length mem
  pub others : (b : ℕ) → ¬ (Contains f.blocks.now b) → block mem' b ≡ block mem b
