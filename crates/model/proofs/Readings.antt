-- What the positions read after a path was replaced.
--     reads_some, reads_none    a position reads the block that its pointer leads to, and nothing where there is none
--     reads_written             where the whole path is new, its position reads the last new block
--     reads_dropped             where it is not, its position reads nothing
--     reads_moved               every other position reads as before
--     write_moved               a granted write moves the places of its head
--     discard_moved             and so does a granted discard of data
--     stay_most                 the levels that stay in a discard are one number
use Rattle.std.proofs.Common.{◌≡◌, ℕ, suc, ◌-◌, ◌^◌, ◌<◌, ◌≤◌, ◌⊎◌, List, [], Some, None, Option, sym, refl, ap, ◌∙◌, subst, inl, inr, arith, Bor}
use Rattle.std.specs.Option.{option_map}
use Rattle.std.proofs.lemmas.Bool.{cases_lt}
use Rattle.records.specs.declared.rows.Kind.TheVariants.{Head}
use Rattle.records.specs.declared.rows.Pointer.{Pointer}
use Rattle.records.specs.declared.rows.Row.{Row}
use Rattle.tree.specs.Trees.{fan, block, at, index_at}
use Rattle.tree.specs.Paths.{Stay, filled}
use Rattle.model.specs.Datasets.{State, Dataset, Unused, IsHead, Has, Position, row_reads, reads, head_row}
use Rattle.model.specs.Laws.{Elsewhere}
use Rattle.model.specs.Questions.{questions, AllYes}
use Rattle.model.specs.Soundness.{Sound}
use Rattle.model.specs.Steps.{Replaced, with_row}
use Rattle.model.specs.declared.Call.TheVariants.{Write, Discard}
use Rattle.model.proofs.Adds.{at_hole}
use Rattle.model.proofs.Moves.{Kin, On, Moved, new_pointer}
use Rattle.model.proofs.Replacing.{moved}
use Rattle.model.proofs.Rows.{added_here, added_other, some_none}
use Rattle.model.proofs.Rows as rows
use Rattle.model.proofs.Places.{Place, one_row, row_of, off_new}

-- a position reads what its pointer leads to
pub reads_at : (s : State) (m : ℕ) (x : Row) (i : ℕ) (o : Option Pointer) → Dataset s m x → at s.memory x.root x.height i ≡ o
    → reads s m i ≡ option_map (λ (q : Pointer). block s.memory q.block) o
unfolding reads
reads_at s m x i o here is =
    ap (λ (y : Option Row). row_reads s.memory y i) here ∙ ap (option_map (λ (q : Pointer). block s.memory q.block)) is

-- a position with a pointer reads its block
pub reads_some : (s : State) (m : ℕ) (x : Row) (d i : ℕ) (q : Pointer) → Dataset s m x → d ≡ x.height → Has s m d i q → reads s m i ≡ Some (block s.memory q.block)
reads_some s m x d i q here height has =
    let row : has.row ≡ x = one_row s m has.row x has.found here in
    let is : at s.memory x.root x.height i ≡ Some q = cc has.holds.here in
    reads_at s m x i (Some q) here is

-- a position without a pointer reads nothing
pub reads_none : (s : State) (m : ℕ) (x : Row) (i : ℕ) → Dataset s m x → i < fan ^ x.height → ((q : Pointer) → Has s m x.height i q → ⊥) → reads s m i ≡ None
reads_none s m x i here wide none = reads_at s m x i None here (go (at s.memory x.root x.height i) refl)
  where
    go : (o : Option Pointer) → at s.memory x.root x.height i ≡ o → at s.memory x.root x.height i ≡ None
    go None e = e
    go (Some q) e = absurd (none q (record { row = x; found = here; holds = record { deep = omega arith; wide = wide; here = e } }))

-- the path ends at its position
pub path_end : (h p : ℕ) → index_at h p h ≡ p
path_end h p = let level : h - h ≡ 0 = omega arith in rw level (omega arith)

module _ (s t : State) (n : ℕ) (r : Row) (p k : ℕ) (new : ℕ → ℕ) (sound : Sound s) (path : Moved s t n r p k new) where
  -- where the whole path is new, its position reads the last new block
  pub reads_written : k ≡ suc r.height → reads t n p ≡ Some (block t.memory (new r.height))
  reads_written whole =
      reads_some t n _ r.height p (new_pointer s new r.height) path.row_new refl
      (subst (λ (i : ℕ). Has t n r.height i (new_pointer s new r.height)) (path_end r.height p) (path.made r.height (omega arith)))

  -- where it is not, its position reads nothing
  pub reads_dropped : k ≤ r.height → reads t n p ≡ None
  reads_dropped part = reads_none t n _ p path.row_new path.position (λ q has. go q (path.after n r.height p q has))
    where
      go : (q : Pointer) → Place s n r p k new n r.height p q → ⊥
      go q (inl (_, deep, _)) = omega arith
      go q (inr (_, off)) = off (refl, sym (path_end r.height p))

  -- where blocks other than the new ones are as they were, every other position reads as before
  pub reads_moved : ((b : ℕ) → ((d : ℕ) → d < k → new d ≡ b → ⊥) → block t.memory b ≡ block s.memory b) → Elsewhere s t n p
  reads_moved same m i other (y, here, wide) = go (path.row_before m y here) (at s.memory y.root y.height i) refl
    where
      off : On n r p m y.height i → ⊥
      off (is, e) =
          let row : y ≡ r = row_of s n m r y path.found is here in
          let height : y.height ≡ r.height = ap (λ (x : Row). x.height) row in
          other (is, e ∙ ap (index_at r.height p) height ∙ path_end r.height p)

      go : ((x : Row) × Dataset t m x × Kin y x) → (o : Option Pointer) → at s.memory y.root y.height i ≡ o → reads t m i ≡ reads s m i
      go (x, there, kin) (Some q) e =
          let has : Has s m y.height i q = record { row = y; found = here; holds = record { deep = omega arith; wide = wide; here = e } } in
          reads_some t m x y.height i q there (sym kin.height) (path.kept m y.height i q has off)
          ∙ ap (λ (l : List ℕ). Some l) (same q.block (λ d deep is. off_new s t n r p k new sound path m y.height i d q has deep (sym is)))
          ∙ sym (reads_some s m y y.height i q here refl has)
      go (x, there, kin) None e =
          reads_none t m x i there (rw kin.height wide) (λ q has. hole q (path.after m y.height i q (subst (λ (d : ℕ). Has t m d i q) kin.height has)))
          ∙ sym (reads_none s m y i here wide lost)
        where
          lost : (q : Pointer) → Has s m y.height i q → ⊥
          lost q has =
              let row : has.row ≡ y = one_row s m has.row y has.found here in
              let no : ◌≡◌ {A = ℕ} 0 1 = cc has.holds.here in omega arith

          hole : (q : Pointer) → Place s n r p k new m y.height i q → ⊥
          hole q (inl (on, _, _)) = off on
          hole q (inr (has, _)) = lost q has

-- the row of a head is of its kind
pub head_kind : (s : State) (n : ℕ) (r : Row) (o : Option ℕ) → Dataset s n r → IsHead s n o → r.kind ≡ Head o
head_kind s n r o here (x, there, kind) = cc

-- a position of a dataset is one by its row
pub position_wide : (s : State) (n p : ℕ) (r : Row) → Dataset s n r → Position s n p → p < fan ^ r.height
position_wide s n p r here (x, there, wide) = subst (λ (y : Row). p < fan ^ y.height) (one_row s n x r there here) wide

-- a granted write moves places
pub write_moved : (s t : State) (n p : ℕ) (text : Bor (List ℕ)) (r : Row) → Sound s → Dataset s n r → AllYes (questions s (Write n p text))
    → (rep : Replaced s t n r p (suc r.height) (filled text.now)) → Moved s t n r p (suc r.height) rep.new
write_moved s t n p text r sound here (_, (_, ((o, head), ((position, _), _)))) rep =
    moved s t n r p (suc r.height) (filled text.now) sound here o (head_kind s n r o here head) (position_wide s n p r here position) (omega arith)
    (λ d low high. absurd (omega arith)) (λ low high. absurd (omega arith)) rep

-- a granted discard of data moves places
pub discard_moved : (s t : State) (n p k : ℕ) (r : Row) → Sound s → Dataset s n r → AllYes (questions s (Discard n p))
    → Stay s.memory r.root r.height p k → (rep : Replaced s t n r p k []) → Moved s t n r p k rep.new
discard_moved s t n p k r sound here (_, (_, ((o, head), (position, _)))) stay rep =
    moved s t n r p k [] sound here o (head_kind s n r o here head) (position_wide s n p r here position) (omega (arith, stay.within))
    stay.only (λ low high. stay.other low) rep

-- no more levels stay in one way than in another
pub stay_most : (s : State) (r : Row) (p j k : ℕ) → Stay s.memory r.root r.height p j → Stay s.memory r.root r.height p k → j ≤ k
stay_most s r p j k one other = go (cases_lt k j)
  where
    go : (k < j) ⊎ (j ≤ k) → j ≤ k
    go (inr most) = most
    go (inl more) =
        let beside = one.other (omega arith) in
        absurd (some_none _ beside.pointer beside.here (other.only (j - 1) (omega arith) (omega (arith, one.within)) beside.which beside.small beside.other))

-- a new head reads as holes
pub reads_new : (s : State) (n h p : ℕ) → Unused s n → reads (with_row s (head_row n h)) n p ≡ None
reads_new s n h p unused = reads_at (with_row s (head_row n h)) n (head_row n h) p None (added_here s.rows (head_row n h) n refl unused) (at_hole s.memory h p)

-- beside a new row all that was there reads as before
pub reads_beside : (s : State) (x : Row) (m i : ℕ) → Unused s x.number → Position s m i → reads (with_row s x) m i ≡ reads s m i
unfolding reads
reads_beside s x m i unused (y, here, _) =
    ap (λ (z : Option Row). row_reads s.memory z i)
    (added_other s.rows x m unused (λ is. some_none (rows.row_of s.rows x.number) y (ap (rows.row_of s.rows) (sym is) ∙ here) unused))
