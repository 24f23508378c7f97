-- What takes and gives do to the number of owned blocks.
use Rattle.std.proofs.Common.{◌≡◌, ℕ, ◌+◌, ◌<◌, Ok, ap, ◌∙◌, subst, arith}
use Rattle.blocks.specs.Sets.{count}
use Rattle.blocks.specs.Meanings.{Meaning, owned, free, Unchanged, Taking, Giving, Calling}
use Rattle.blocks.proofs.Counts.{count_more, count_same, count_bound}

-- a block that was taken is below the size
pub taken_inside : (m w : Meaning) (n : ℕ) → Taking m w (Ok n) → n < m.size
taken_inside m w n t = subst (λ (size : ℕ). n < size) t.0 (w.below n t.1.is)

pub owned_more : (m w : Meaning) (n : ℕ) → Taking m w (Ok n) → owned w ≡ owned m + 1
owned_more m w n t = ap (count w.owns) t.0 ∙ count_more m.owns w.owns n m.size t.1 (taken_inside m w n t)

pub owned_less : (m w : Meaning) (n : ℕ) → Giving m n w (Ok tt) → owned m ≡ owned w + 1
owned_less m w n g =
    let same = ap (count w.owns) g.0 in
    let more = count_more w.owns m.owns n m.size g.1 (m.below n g.1.is) in
    omega arith

pub free_less : (m w : Meaning) (n : ℕ) → Taking m w (Ok n) → free m ≡ free w + 1
free_less m w n t = omega (arith, owned_more m w n t, t.0, count_bound w.owns w.size)

pub free_more : (m w : Meaning) (n : ℕ) → Giving m n w (Ok tt) → free w ≡ free m + 1
free_more m w n g = omega (arith, owned_less m w n g, g.0, count_bound m.owns m.size)

pub owned_unchanged : (m w : Meaning) → Unchanged m w → owned w ≡ owned m
owned_unchanged m w u = ap (count w.owns) u.size ∙ count_same m.owns w.owns m.size (λ k _. u.owns k)

pub calling : Calling
calling = record {
  inside = taken_inside;
  more = owned_more;
  less = owned_less;
  spent = free_less;
  regained = free_more;
  unchanged = owned_unchanged;
}
