-- Bytes cut at a separator.
--     Without b bs           the byte b does not occur in bs
--     until b bs             what stands before the first b of bs, or all of bs where there is none
--     Splits b bs f k        f is what stands before the first b of bs, and k what follows it, or nothing where there is none
--     Cut b bs at f k        the same of bytes at a place of the script, where f and k are parts, each at its place
use Rattle.std.specs.Prelude.{◌≡◌, ℕ, ◌+◌, ◌<◌, if◌then◌else◌, List, [], ◌∷◌, ◌++◌, length, Some, None, Option, ◌==◌, ◌≢◌, slice_index}
use Rattle.script.specs.declared.parts.Part.{Part}

-- no byte of bs is b
abbrev pub Without : ℕ → List ℕ → Type 0
Without b bs = (k : ℕ) → k < length bs → slice_index bs k ≢ b

-- the bytes before the first b, or all where there is none
abbrev pub until : ℕ → List ℕ → List ℕ
until b [] = []
until b (x ∷ xs) = if x == b then [] else x ∷ until b xs

-- bs in two at its first b, or whole where it has none
abbrev pub Splits : ℕ → List ℕ → List ℕ → Option (List ℕ) → Type 0
Splits b bs front None = Without b front × (bs ≡ front)
Splits b bs front (Some back) = Without b front × (bs ≡ front ++ (b ∷ back))

-- bytes at a place of the script in two at their first b, each part at its place
abbrev pub Cut : ℕ → List ℕ → ℕ → Part → Option Part → Type 0
Cut b bs at front None = Splits b bs front.bytes.now None × (front.at ≡ at)
Cut b bs at front (Some back) =
    Splits b bs front.bytes.now (Some back.bytes.now) × (front.at ≡ at) × (back.at ≡ at + length front.bytes.now + 1)
