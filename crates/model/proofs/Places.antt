-- The places of all datasets after a path was replaced, and their pointers.
--     Place             a place after: a new one of the path, or one that was there
--     off_new           no dataset had a pointer to a new block
--     pointers_moved    the pointers are in range, fall in birth, and lead on
use Rattle.std.proofs.Common.{◌≡◌, ℕ, suc, ◌+◌, ◌-◌, ◌*◌, ◌/◌, ◌<◌, ◌≤◌, ◌⊎◌, sym, ap, ◌∙◌, subst, inl, inr, arith}
use Rattle.std.proofs.lemmas.Bool.{both_ways, cases_lt}
use Rattle.records.specs.declared.rows.Pointer.{Pointer}
use Rattle.records.specs.declared.rows.Row.{Row}
use Rattle.tree.specs.Trees.{fan, index_at, digit}
use Rattle.tree.specs.Paths.{OtherChild}
use Rattle.tree.proofs.Places.{index_up, index_digit, index_wide, down_wide, at_child}
use Rattle.model.specs.Datasets.{State, Dataset, kind_stamp, Has}
use Rattle.model.specs.Paths.{path_of}
use Rattle.model.specs.Soundness.{Sound, Pointers}
use Rattle.model.proofs.Moves.{Kin, On, Moved, new_pointer}

-- a dataset has one row
pub one_row : (s : State) (n : ℕ) (x y : Row) → Dataset s n x → Dataset s n y → x ≡ y
one_row s n x y here there = cc

-- a dataset that is the head has the head's row
pub row_of : (s : State) (n m : ℕ) (r x : Row) → Dataset s n r → m ≡ n → Dataset s m x → x ≡ r
row_of s n m r x head is here = one_row s n x r (subst (λ (i : ℕ). Dataset s i x) is here) head

-- a place after: a new one of the path, or one that was there off the path
abbrev pub Place : State → ℕ → Row → ℕ → ℕ → (ℕ → ℕ) → ℕ → ℕ → ℕ → Pointer → Type 0
Place s n r p k new m d i q = (On n r p m d i × (d < k) × (q ≡ new_pointer s new d)) ⊎ (Has s m d i q × (On n r p m d i → ⊥))

module _ (s t : State) (n : ℕ) (r : Row) (p k : ℕ) (new : ℕ → ℕ) (sound : Sound s) (moved : Moved s t n r p k new) where
  -- no dataset had a pointer to a new block
  pub off_new : (m d i e : ℕ) (q : Pointer) → Has s m d i q → e < k → q.block ≡ new e → ⊥
  off_new m d i e q has deep is =
      both_ways (s.owns (new e)) (moved.free e deep).1 ((sound.owned (new e)).1 (m, (q, (d, i, has), is)))

  -- the head's births go to the group
  head_stamp : kind_stamp s.group r.kind ≡ s.group
  head_stamp = ap (kind_stamp s.group) moved.head

  -- the place above a place of the path is on the path
  on_up : (m d i : ℕ) → d < r.height → On n r p m (suc d) i → On n r p m d (i / fan)
  on_up m d i deep (is, e) = (is, ap (λ (j : ℕ). j / fan) e ∙ index_up r.height p d deep)

  -- the head's places are as deep as its tree
  deep_as : (m d i : ℕ) (q : Pointer) → m ≡ n → Has s m d i q → d ≤ r.height
  deep_as m d i q is has =
      let same : has.row ≡ r = row_of s n m r has.row moved.found is has.found in
      subst (λ (x : Row). d ≤ x.height) same has.holds.deep

  -- the blocks of pointers are blocks of the pool
  inside : (m d i : ℕ) (q : Pointer) → Place s n r p k new m d i q → q.block < t.size
  inside m d i q (inl (_, deep, e)) = let is : q.block ≡ new d = ap (λ (x : Pointer). x.block) e in omega (arith, (moved.free d deep).0, moved.size)
  inside m d i q (inr (has, _)) = omega (arith, sound.pointers.inside m d i q has, moved.size)

  -- births are from 1 to the stamp, or for a head to the group
  births : (m d i : ℕ) (x : Row) (q : Pointer) → Dataset t m x → Place s n r p k new m d i q → (1 ≤ q.birth) × (q.birth ≤ kind_stamp t.group x.kind)
  births m d i x q here which = go which (moved.row_after m x here)
    where
      go : Place s n r p k new m d i q → ((y : Row) × Dataset s m y × Kin y x) → (1 ≤ q.birth) × (q.birth ≤ kind_stamp t.group x.kind)
      go (inl ((is, _), _, e)) (y, there, kin) =
          let born : q.birth ≡ s.group = ap (λ (x : Pointer). x.birth) e in
          let same : y ≡ r = row_of s n m r y moved.found is there in
          let stamps : kind_stamp t.group x.kind ≡ s.group = cc (head_stamp, moved.group) in
          (omega (arith, sound.shape.group), omega arith)
      go (inr (has, _)) (y, there, kin) =
          let stamps : kind_stamp t.group x.kind ≡ kind_stamp s.group y.kind = cc moved.group in
          let (low, high) = sound.pointers.births m d i y q there has in
          (low, omega arith)

  -- a block is at most as young as the one that points to it
  falls : (m d i : ℕ) (q x : Pointer) → Place s n r p k new m (suc d) i q → Place s n r p k new m d (i / fan) x → q.birth ≤ x.birth
  falls m d i q x (inl (_, _, e)) (inl (_, _, e')) =
      let same : q.birth ≡ x.birth = cc in omega arith
  falls m d i q x (inl (on, deep, _)) (inr (_, off)) = absurd (off (on_up m d i (omega (arith, moved.deep)) on))
  falls m d i q x (inr (has, _)) (inl ((is, _), _, e)) =
      let born : x.birth ≡ s.group = ap (λ (y : Pointer). y.birth) e in
      let same : has.row ≡ r = row_of s n m r has.row moved.found is has.found in
      let stamps : kind_stamp s.group has.row.kind ≡ s.group = cc head_stamp in
      omega (arith, sound.pointers.births m (suc d) i has.row q has.found has)
  falls m d i q x (inr (has, _)) (inr (up, _)) = sound.pointers.falls m d i q x has up

  -- below the last new place there is a kept one
  next_kept : (d : ℕ) → suc d ≡ k → k ≤ r.height → (j : ℕ) × (x : Pointer) × (j / fan ≡ index_at r.height p d) × Has t n (suc d) j x
  next_kept d last deep = (j, other.pointer, omega (arith, other.small), moved.kept n (suc d) j other.pointer has off)
    where
      level : k - 1 ≡ d
      level = omega arith

      other : OtherChild s.memory (path_of s r p d) (digit r.height p d)
      other = subst (λ (e : ℕ). OtherChild s.memory (path_of s r p e) (digit r.height p e)) level (moved.beside (omega arith) deep)

      j : ℕ
      j = index_at r.height p d * fan + other.which

      has : Has s n (suc d) j other.pointer
      has = record {
        row = r;
        found = moved.found;
        holds = record {
          deep = omega arith;
          wide = down_wide d (index_at r.height p d) other.which (index_wide r.height p d moved.position (omega arith)) other.small;
          here = at_child s.memory r.root d (index_at r.height p d) other.which other.small ∙ other.here;
        };
      }

      off : On n r p n (suc d) j → ⊥
      off (_, e) = other.other (omega (arith, e, index_digit r.height p d (omega arith)))

  -- below a new place there is the next new one, or a kept one
  next_new : (d : ℕ) → d < k → d < r.height → (j : ℕ) × (x : Pointer) × (j / fan ≡ index_at r.height p d) × Has t n (suc d) j x
  next_new d deep short = go (cases_lt (suc d) k)
    where
      go : (suc d < k) ⊎ (k ≤ suc d) → (j : ℕ) × (x : Pointer) × (j / fan ≡ index_at r.height p d) × Has t n (suc d) j x
      go (inl more) = (index_at r.height p (suc d), new_pointer s new (suc d), index_up r.height p d short, moved.made (suc d) more)
      go (inr last) = next_kept d (omega arith) (omega arith)

  -- an indirect block leads on
  full : (m d i : ℕ) (x : Row) (q : Pointer) → Dataset t m x → d < x.height → Place s n r p k new m d i q → (j : ℕ) × (x : Pointer) × (j / fan ≡ i) × Has t m (suc d) j x
  full m d i x q here short which = go which (moved.row_after m x here)
    where
      go : Place s n r p k new m d i q → ((y : Row) × Dataset s m y × Kin y x) → (j : ℕ) × (x : Pointer) × (j / fan ≡ i) × Has t m (suc d) j x
      go (inl ((is, e), deep, _)) (y, there, kin) =
          let same : y ≡ r = row_of s n m r y moved.found is there in
          let height : x.height ≡ r.height = cc in
          let (j, x, up, has) = next_new d deep (omega arith) in
          (j, x, up ∙ sym e, subst (λ (l : ℕ). Has t l (suc d) j x) (sym is) has)
      go (inr (has, off)) (y, there, kin) =
          let (j, x, up, below) = sound.pointers.full m d i y q there (omega (arith, kin.height)) has in (
            j,
            x,
            up,
            moved.kept m (suc d) j x below (λ on.
                let (is, e) = on_up m d j (deep_as m (suc d) j x on.0 below) on in
                off (is, sym up ∙ e)),
          )

  -- the pointers stay sound
  pub pointers_moved : Pointers t
  pointers_moved = record {
    inside = λ m d i q has. inside m d i q (moved.after m d i q has);
    births = λ m d i x q here has. births m d i x q here (moved.after m d i q has);
    falls = λ m d i q x has up. falls m d i q x (moved.after m (suc d) i q has) (moved.after m d (i / fan) x up);
    full = λ m d i x q here short has. full m d i x q here short (moved.after m d i q has);
  }
