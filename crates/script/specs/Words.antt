-- What a word is.
--     words bs           the words of bs, which is cut at each space
--     first_words k bs   the words of bs, which is cut at its first k spaces only
--     Writes bs n        bs is the number n, written in at most five digits
--     Numeral bs         bs is such a number
--     IsWord w bs at     the word w is what the bytes bs say, and keeps them and their place in the script
--     value_of w         the number that the word w is, or nothing
--     TwoWords           bytes that are two words, and what may follow them
--     IsText bs          bs is a text
use Rattle.std.specs.Prelude.{◌≡◌, ℕ, ◌-◌, ◌<◌, ◌≤◌, if◌then◌else◌, ◌&&◌, List, [], ◌∷◌, length, Some, None, decimal, Option, ◌==◌, nat_lt, slice_index}
use Rattle.script.specs.Parts.{Cut}
use Rattle.script.specs.declared.parts.Part.{Part}
use Rattle.script.specs.declared.words.Word.{Word}
use Rattle.script.specs.declared.words.Word.TheVariants.{Number, Text}

-- b before the first of the words
abbrev pub onto : ℕ → List (List ℕ) → List (List ℕ)
onto b [] = (b ∷ []) ∷ []
onto b (w ∷ ws) = (b ∷ w) ∷ ws

-- cut at each space: two spaces have an empty word between them, and a last space has one after it
abbrev pub words : List ℕ → List (List ℕ)
words [] = [] ∷ []
words (b ∷ bs) = if b == 32 then [] ∷ words bs else onto b (words bs)

-- cut at the first k spaces: the last word is all that follows, with the spaces in it
abbrev pub first_words : ℕ → List ℕ → List (List ℕ)
first_words k [] = [] ∷ []
first_words k (b ∷ bs) = if nat_lt 0 k && b == 32 then [] ∷ first_words (k - 1) bs else onto b (first_words k bs)

-- one to five digits, without a leading zero unless it is 0: the decimal digits of a number below 100000
abbrev pub Writes : List ℕ → ℕ → Type 0
Writes bs n = (n < 100000) × (bs ≡ decimal n)

-- the bytes write some number
abbrev pub Numeral : List ℕ → Type 0
Numeral bs = (n : ℕ) × Writes bs n

-- the number that the bytes write, or the bytes where they write none; with the bytes and their place
abbrev pub IsWord : Word → List ℕ → ℕ → Type 0
IsWord (Number value part) bs at = Writes bs value × (part.bytes.now ≡ bs) × (part.at ≡ at)
IsWord (Text part) bs at = (Numeral bs → ⊥) × (part.bytes.now ≡ bs) × (part.at ≡ at)

-- the number that a word is, or nothing
abbrev pub value_of : Word → Option ℕ
value_of (Number value part) = Some value
value_of (Text part) = None

-- the bytes at a place are a word, a space and a word, up to a second space, and more where there is one
pub record TwoWords (bs : List ℕ) (at : ℕ) (v w : Word) (more : Option Part) : Type 0 where
  pub first : Part
  pub second : Part
  pub behind : Part
  pub cut_first : Cut 32 bs at first (Some behind)
  pub cut_second : Cut 32 behind.bytes.now behind.at second more
  pub is_first : IsWord v first.bytes.now first.at
  pub is_second : IsWord w second.bytes.now second.at

-- one to 64 bytes, each from 32 to 126
abbrev pub IsText : List ℕ → Type 0
IsText bs = (1 ≤ length bs) × (length bs ≤ 64) × ((k : ℕ) → k < length bs → (32 ≤ slice_index bs k) × (slice_index bs k ≤ 126))
