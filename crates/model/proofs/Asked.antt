-- What unique and used answer in a sound pool.
--     used      used answers of each head, and the answers add up to the owned blocks
--     unique    unique answers of each dataset without clones how many blocks it alone reaches
use Rattle.std.proofs.Common.{◌≡◌, ℕ, length, zero, suc, ◌<◌, ◌≤◌, Bool, true, ◌⊎◌, Ok, Err, Option, Result, sym, refl, ap, ◌∙◌, subst, inl, inr, true≢false, arith}
use Rattle.std.specs.List.{sum_by}
use Rattle.std.specs.Prelude.{List, [], ◌∷◌, nat_lt}
use Rattle.std.proofs.lemmas.Bool.{cases_lt}
use Rattle.faults.specs.declared.Layer.{Layer}
use Rattle.blocks.specs.Sets.{count}
use Rattle.records.specs.Keys.{number_of}
use Rattle.records.specs.declared.rows.Kind.{Kind}
use Rattle.records.specs.declared.rows.Kind.TheVariants.{Head, Snapshot as OfSnapshot}
use Rattle.records.specs.declared.rows.Row.{Row}
use Rattle.model.specs.Datasets.{State, Dataset, IsHead, base, Has, Reached, Young}
use Rattle.model.specs.Families.{IsClone}
use Rattle.model.specs.Figures.{Only, UniqueIs, Uses, UsedIs}
use Rattle.model.specs.Laws.{system_rows}
use Rattle.model.specs.Life.{AnswersCount, is_head, heads}
use Rattle.model.specs.Questions.{Question, questions, AllYes, FirstNo}
use Rattle.model.specs.Soundness.{Sound}
use Rattle.model.specs.Steps.{Step, Granted}
use Rattle.model.specs.declared.Answer.{Answer}
use Rattle.model.specs.declared.Answer.TheVariants.{Count}
use Rattle.model.specs.declared.Call.{Call}
use Rattle.model.specs.declared.Call.TheVariants.{Unique, Used}
use Rattle.model.proofs.Ancestors.{same_row}
use Rattle.model.proofs.Figures.{is_next, unique_head, young_dead, unique_snapshot, used_figure}
use Rattle.model.proofs.Rows.{one, row_number}
use Rattle.model.proofs.Sums.{alike, one_count, Passes, sum_passing}
use Rattle.model.proofs.Systems.{Top, base_falls, used_young}

-- where every question is answered yes, no call is refused
unrefused : (qs : List Question) (l : Layer) → AllYes qs → FirstNo qs l → ⊥
unrefused [] l _ refused = refused
unrefused (q ∷ qs) l (is, _) (inl (never, _)) = never is
unrefused (q ∷ qs) l (_, all) (inr (_, later)) = unrefused qs l all later

-- a call that is granted, with one answer only, answers it and nothing else
answers : (s : State) (c : Call) (k : ℕ) → AllYes (questions s c) → Granted s c (Count k) s → ((a : Answer) (t : State) → Granted s c a t → a ≡ Count k) → AnswersCount s c k
answers s c k asked is alone = ((asked, is), only)
  where
    only : (r : Result Answer Layer) (t : State) → Step s c r t → r ≡ Ok (Count k)
    only (Ok a) t (_, granted) = ap (λ (x : Answer). Ok x) (alone a t granted)
    only (Err l) t (refused, _) = absurd (unrefused (questions s c) l asked refused)

module _ (s : State) (sound : Sound s) where
  -- a block that is reached is young in some dataset
  reached_young : (b : ℕ) → Reached s b → (m : ℕ) × Young s m b
  reached_young b (n, (q, (d, i, has), e)) = (let (m, young) = climb (suc (base s has.row)) n has (omega arith) in (m, subst (Young s m) e young))
    where
      climb : (g n : ℕ) (has : Has s n d i q) → base s has.row < g → (m : ℕ) × Young s m q.block
      climb zero n has less = absurd (omega arith)
      climb (suc g) n has less = go (climb g) (cases_lt (base s has.row) q.birth)
        where
          go : ((n : ℕ) (has : Has s n d i q) → base s has.row < g → (m : ℕ) × Young s m q.block)
              → (base s has.row < q.birth) ⊎ (q.birth ≤ base s has.row) → (m : ℕ) × Young s m q.block
          go up (inl newer) = (n, (has.row, q, has.found, (d, i, has), newer, refl))
          go up (inr older) =
              let (m, previous, above) = sound.birth_law n d i has.row q has.found has older in
              let falls = base_falls s n m has.row above.row sound has.found previous above.found in
              up m above (omega arith)

  -- no two file systems use one block
  one_system : (n m b : ℕ) → Uses s n b → Uses s m b → n ≡ m
  one_system n m b used also = go ((used_young s n b sound).1 used) ((used_young s m b sound).1 also)
    where
      go : Top s n b → Top s m b → n ≡ m
      go (j, x, here, own, young) (l, y, there, owns, younger) =
          let same = same_row x y here (subst (λ (i : ℕ). Dataset s i y) (sound.one_young l j b younger young) there) in
          sym own ∙ ap (λ (z : Row). z.owner) same ∙ owns

  -- all file systems together use what is owned
  heads_use : (k : ℕ → ℕ) → ((n : ℕ) (o : Option ℕ) → IsHead s n o → UsedIs s n (k n)) → sum_by (λ (r : Row). k r.number) (heads s) ≡ count s.owns s.size
  heads_use k each =
      one_count (λ b. s.owns b ≡ true) s.size _ _
      (alike _ (λ b. s.owns b ≡ true) s.size _ (λ b _. (owned b, used b)) (sum_passing number_of nat_lt one s.size (Uses s) one_system f test s.rows sound.shape.ordered count_of))
      record { test = s.owns; tells = λ b _. ((λ own. own), (λ own. own)); counted = refl }
    where
      f : Row → ℕ
      f r = k r.number

      test : Row → Bool
      test r = is_head r.kind

      count_of : (n : ℕ) (r : Row) → Dataset s n r → test r ≡ true → UsedIs s n (f r)
      count_of n r here = go r.kind refl
        where
          go : (x : Kind) → r.kind ≡ x → is_head x ≡ true → UsedIs s n (f r)
          go (Head o) kind _ = subst (λ (i : ℕ). UsedIs s n (k i)) (sym (row_number s.rows n r here)) (each n o (r, here, kind))
          go (OfSnapshot g) kind pass = absurd (true≢false (sym pass))

      owned : (b : ℕ) → Passes number_of nat_lt one s.size (Uses s) one_system f test s.rows b → s.owns b ≡ true
      owned b (n, r, here, _, (o, m, q, _, _, points, _, e)) = (sound.owned b).1 (m, (q, points, e))

      used : (b : ℕ) → s.owns b ≡ true → Passes number_of nat_lt one s.size (Uses s) one_system f test s.rows b
      used b own =
          let (m, young) = reached_young b ((sound.owned b).0 own) in
          let (o, (x, there, kind)) = sound.family.owner m young.0 young.2 in
          (young.0.owner, x, there, ap is_head kind, (used_young s young.0.owner b sound).0 (m, young.0, young.2, refl, young))

  -- used answers of each head, and the answers add up to the owned blocks
  pub used : (k : ℕ → ℕ) × ((n : ℕ) (o : Option ℕ) → IsHead s n o → AnswersCount s (Used n) (k n)) × (sum_by (λ (r : Row). k r.number) (heads s) ≡ count s.owns s.size)
  used = (k, answer, heads_use k (λ n _ _. uses n))
    where
      k : ℕ → ℕ
      k n = sum_by (λ (r : Row). r.born) (system_rows s n)

      uses : (n : ℕ) → UsedIs s n (k n)
      uses n = used_figure s n sound

      answer : (n : ℕ) (o : Option ℕ) → IsHead s n o → AnswersCount s (Used n) (k n)
      answer n o (r, here, kind) =
          answers s (Used n) (k n) (sound.shape.numbers n r here, ((r, here), ((o, (r, here, kind)), tt))) ((k n, refl, uses n), refl)
          (λ a t ((j, is, also), _). is ∙ ap (λ (i : ℕ). Count i) (one_count (Uses s n) s.size j (k n) also (uses n)))

  -- a dataset without clones alone reaches some number of blocks
  unique_figure : (n : ℕ) (r : Row) → Dataset s n r → ((m : ℕ) → IsClone s n m → ⊥) → (k : ℕ) × UniqueIs s n k
  unique_figure n r here clones = go r.kind refl
    where
      go : (x : Kind) → r.kind ≡ x → (k : ℕ) × UniqueIs s n k
      go (Head o) kind = (r.born, unique_head s n r o sound here kind)
      go (OfSnapshot g) kind =
          let (m, x, there, previous, owner) = sound.family.next n g r here kind in
          (length (young_dead s m (base s r)), unique_snapshot s n m r sound here clones (is_next s n m r x sound here there previous owner))

  -- and unique answers it
  pub unique : (n : ℕ) (r : Row) → Dataset s n r → ((m : ℕ) → IsClone s n m → ⊥) → (k : ℕ) × UniqueIs s n k × AnswersCount s (Unique n) k
  unique n r here clones = (
    figure.0,
    figure.1,
    answers s (Unique n) figure.0 (sound.shape.numbers n r here, ((r, here), (clones, tt))) ((figure.0, refl, figure.1), refl)
        (λ a t ((j, is, also), _). is ∙ ap (λ (i : ℕ). Count i) (one_count (Only s n) s.size j figure.0 also figure.1)),
  )
    where
      figure : (k : ℕ) × UniqueIs s n k
      figure = unique_figure n r here clones
