-- Words and pointers in the bytes of a block.
use Rattle.std.proofs.Common.{◌≡◌, ℕ, ◌+◌, ◌-◌, ◌*◌, ◌/◌, ◌%◌, ◌^◌, ◌<◌, ◌≤◌, cond, eqb, ◌⊎◌, List, ◌++◌, length, get_or, take, drop, replicate, Some, None, Option, sym, refl, ap, ◌∙◌, ap₂, inl, inr, add-zero, arith, length-drop, length-take-le, get_or-drop, get_or-take, get_or-append-add}
use native.Mathlib.Nat.{div-div-eq-div-mul}
use lib.ListN.{length-replicate, get_or-replicate}
use Rattle.std.proofs.lemmas.List.{get_or_append_left, get_or-append_right}
use Rattle.std.proofs.lemmas.Bool.{cond-true, cond-false, cases_eq, cases_lt, eq-eqb, ne_eqb}
use Rattle.records.specs.declared.rows.Pointer.{Pointer}
use Rattle.tree.specs.Trees.{block_size, pointer_size, fan, block, word_at, pointer_of, pointer_in, child}
use Rattle.tree.specs.Paths.{word_bytes, pointer_bytes, led, with_pointer}
use Rattle.tree.proofs.Places.{hole_child, some_child}

-- a number from its four bytes
quarters : (w : ℕ) → w < 2 ^ 32 → w / 2 ^ 24 % 256 * 2 ^ 24 + w / 2 ^ 16 % 256 * 2 ^ 16 + w / 2 ^ 8 % 256 * 2 ^ 8 + w % 256 ≡ w
quarters w small =
    let two : w / 65536 ≡ w / 256 / 256 = sym (div-div-eq-div-mul w 256 256) in
    let three : w / 16777216 ≡ w / 256 / 256 / 256 = sym (div-div-eq-div-mul (w / 256) 256 256 ∙ div-div-eq-div-mul w 256 65536) in
    rw (two, three) (omega arith)

-- four bytes are read back
pub word_first : (w : ℕ) (rest : List ℕ) → w < 2 ^ 32 → word_at (word_bytes w ++ rest) 0 ≡ w
word_first w rest small = quarters w small

-- two words are the same where their bytes are
pub word_same : (l l' : List ℕ) (i i' : ℕ) → ((j : ℕ) → j < 4 → get_or l (i + j) 0 ≡ get_or l' (i' + j) 0) → word_at l i ≡ word_at l' i'
word_same l l' i i' byte =
    let first : get_or l i 0 ≡ get_or l' i' 0 = simp add-zero at (byte 0 (omega arith)) in
    omega (arith, byte 1 (omega arith), byte 2 (omega arith), byte 3 (omega arith))

-- a word behind other bytes
pub word_behind : (front rest : List ℕ) (n i : ℕ) → length front + i ≡ n → word_at (front ++ rest) n ≡ word_at rest i
word_behind front rest n i long = word_same (front ++ rest) rest n i (λ j small.
    let place : n + j ≡ length front + (i + j) = omega arith in
    ap (λ (x : ℕ). get_or (front ++ rest) x 0) place ∙ get_or-append-add front rest (i + j) 0)

-- bytes beside the m bytes that are put at n
pub beside : (l mid : List ℕ) (n m i : ℕ) → length mid ≡ m → n ≤ length l → (i < n) ⊎ (n + m ≤ i)
    → get_or (take n l ++ (mid ++ drop (n + m) l)) i 0 ≡ get_or l i 0
beside l mid n m i long fits (inl low) =
    get_or_append_left (take n l) _ 0 i (rw (length-take-le n l fits) low) ∙ get_or-take n l i 0 low
beside l mid n m i long fits (inr high) =
    let place : n + m + (i - n - m) ≡ i = omega arith in
    get_or-append_right (take n l) _ n i 0 (length-take-le n l fits) (omega arith)
    ∙ get_or-append_right mid _ m (i - n) 0 long (omega arith)
    ∙ get_or-drop (n + m) l (i - n - m) 0
    ∙ ap (λ (j : ℕ). get_or l j 0) place

-- words beside them
pub word_beside : (l mid : List ℕ) (n m i : ℕ) → length mid ≡ m → n ≤ length l → (i + 4 ≤ n) ⊎ (n + m ≤ i)
    → word_at (take n l ++ (mid ++ drop (n + m) l)) i ≡ word_at l i
word_beside l mid n m i long fits side = word_same _ l i i (λ j small. beside l mid n m (i + j) long fits (apart j small side))
  where
    apart : (j : ℕ) → j < 4 → (i + 4 ≤ n) ⊎ (n + m ≤ i) → (i + j < n) ⊎ (n + m ≤ i + j)
    apart j small (inl low) = inl (omega arith)
    apart j small (inr high) = inr (omega arith)

-- a pointer has 8 bytes
pub length_pointer : (o : Option Pointer) → length (pointer_bytes o) ≡ pointer_size
length_pointer None = refl
length_pointer (Some q) = refl

-- what the bytes of a pointer can hold: a hole, or a block number and a birth of four bytes
abbrev pub Writable : Option Pointer → Type 0
Writable None = Unit
Writable (Some q) = (q.block < 2 ^ 32) × (1 ≤ q.birth) × (q.birth < 2 ^ 32)

-- a block number and a birth that is no zero are a pointer
pub born : (b g : ℕ) → 1 ≤ g → pointer_of b g ≡ Some (record { block = b; birth = g })
born b g pos = cond-false (eqb (b + g) 0) None (Some (record { block = b; birth = g })) (ne_eqb (b + g) 0 (λ e. omega arith))

-- the bytes of a pointer are read back
pub pointer_read : (front rest : List ℕ) (k : ℕ) (o : Option Pointer) → length front ≡ pointer_size * k → Writable o → pointer_in (front ++ (pointer_bytes o ++ rest)) k ≡ o
unfolding pointer_in
pointer_read front rest k None long ok =
    ap₂ pointer_of (word_behind front _ (pointer_size * k) 0 (omega arith)) (word_behind front _ (pointer_size * k + 4) 4 (omega arith))
pointer_read front rest k (Some q) long ok =
    ap₂ pointer_of
    (word_behind front _ (pointer_size * k) 0 (omega arith) ∙ word_first q.block (word_bytes q.birth ++ rest) ok.0)
    (word_behind front _ (pointer_size * k + 4) 4 (omega arith) ∙ word_first q.birth rest ok.2)
    ∙ born q.block q.birth ok.1

-- a block with the pointer o at place k has o there, and its other pointers as they were
pub pointer_with : (l : List ℕ) (k : ℕ) (o : Option Pointer) (j : ℕ) → length l ≡ block_size → k < fan → j < fan → Writable o
    → pointer_in (with_pointer l k o) j ≡ cond (eqb j k) o (pointer_in l j)
unfolding pointer_in
pointer_with l k o j whole small other ok = go (cases_eq j k)
  where
    fits : pointer_size * k ≤ length l
    fits = omega arith

    side : (i : ℕ) → pointer_size * j ≤ i → i ≤ pointer_size * j + 4 → (j ≡ k → ⊥) → (j < k) ⊎ (k ≤ j) → (i + 4 ≤ pointer_size * k) ⊎ (pointer_size * k + pointer_size ≤ i)
    side i low high n (inl less) = inl (omega arith)
    side i low high n (inr more) = inr (omega (arith, n))

    word : (i : ℕ) → pointer_size * j ≤ i → i ≤ pointer_size * j + 4 → (j ≡ k → ⊥) → word_at (with_pointer l k o) i ≡ word_at l i
    word i low high n =
        word_beside l (pointer_bytes o) (pointer_size * k) pointer_size i (length_pointer o) fits (side i low high n (cases_lt j k))

    go : (j ≡ k) ⊎ (j ≡ k → ⊥) → pointer_in (with_pointer l k o) j ≡ cond (eqb j k) o (pointer_in l j)
    go (inl e) =
        ap (pointer_in (with_pointer l k o)) e
        ∙ pointer_read (take (pointer_size * k) l) (drop (pointer_size * k + pointer_size) l) k o (length-take-le (pointer_size * k) l fits) ok
        ∙ sym (cond-true (eqb j k) o (pointer_in l j) (eq-eqb j k e))
    go (inr n) =
        ap₂ pointer_of (word (pointer_size * j) (omega arith) (omega arith) n) (word (pointer_size * j + 4) (omega arith) (omega arith) n)
        ∙ sym (cond-false (eqb j k) o (pointer_in l j) (ne_eqb j k n))

-- a block of zero bytes
abbrev zero_bytes : List ℕ
zero_bytes = replicate block_size 0

-- zero bytes are holes
pub holes : (j : ℕ) → j < fan → pointer_in (replicate block_size 0) j ≡ None
unfolding pointer_in
holes j small = ap₂ pointer_of (none (pointer_size * j) (omega arith)) (none (pointer_size * j + 4) (omega arith))
  where
    zero_at : (i : ℕ) → i < block_size → get_or zero_bytes i 0 ≡ 0
    zero_at i within = get_or-replicate block_size i 0 0 within

    none : (i : ℕ) → i + 4 ≤ block_size → word_at zero_bytes i ≡ 0
    none i within = omega (arith, zero_at i (omega arith), zero_at (i + 1) (omega arith), zero_at (i + 2) (omega arith), zero_at (i + 3) (omega arith))

-- the pointers of the bytes that a pointer leads to are what it leads to
pub led_child : (mem : List ℕ) (o : Option Pointer) (j : ℕ) → j < fan → pointer_in (led mem o) j ≡ child mem o j
led_child mem None j small = holes j small ∙ sym (hole_child mem j)
led_child mem (Some q) j small = sym (some_child mem q j)

-- a block that lies in the memory has all its bytes
pub length_block : (mem : List ℕ) (b : ℕ) → block_size * b + block_size ≤ length mem → length (block mem b) ≡ block_size
length_block mem b inside = length-take-le block_size (drop (block_size * b) mem) (rw (length-drop (block_size * b) mem) (omega arith))

-- what a pointer leads to is a whole block, where its block lies in the memory
pub length_led : (mem : List ℕ) (o : Option Pointer) → ((q : Pointer) → o ≡ Some q → block_size * q.block + block_size ≤ length mem) → length (led mem o) ≡ block_size
length_led mem None inside = length-replicate {A = ℕ} block_size 0
length_led mem (Some q) inside = length_block mem q.block (inside q refl)
