-- The blocks that a new path takes.
--     Took m w path k     the first k of the path are blocks that were free in m, and are owned in w
use Rattle.std.specs.Prelude.{◌≡◌, ℕ, ◌+◌, ◌<◌, ◌≤◌, true, false, List, length, ◌≢◌, slice_index}
use Rattle.blocks.specs.Meanings.{Meaning, Alike, owned}

-- from m to w the first k blocks of the path, no two the same, are taken, and no others; the path has zeros past them
pub record Took (m w : Meaning) (path : List ℕ) (k : ℕ) : Type 0 where
  pub long : length path ≡ 5
  pub past : (d : ℕ) → k ≤ d → slice_index path d ≡ 0
  pub size : Alike m w
  pub below : (d : ℕ) → d < k → slice_index path d < m.size
  pub new : (d : ℕ) → d < k → m.owns (slice_index path d) ≡ false
  pub apart : (d e : ℕ) → d < e → e < k → slice_index path d ≢ slice_index path e
  pub held : (d : ℕ) → d < k → w.owns (slice_index path d) ≡ true
  pub others : (b : ℕ) → ((d : ℕ) → d < k → slice_index path d ≢ b) → w.owns b ≡ m.owns b
  pub number : owned w ≡ owned m + k
