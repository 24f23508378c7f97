-- From what replacing a path leaves to the steps of a write and a discard.
use Rattle.std.proofs.Common.{◌≡◌, ℕ, suc, ◌+◌, ◌^◌, ◌<◌, ◌≤◌, List, [], ◌∷◌, length, Ok, Err, Result, sym, refl, ap, subst, inl, inr, arith, Bor}
use Rattle.faults.specs.declared.Layer.{Layer}
use Rattle.records.specs.declared.rows.Row.{Row}
use Rattle.tree.specs.Trees.{block_size, fan}
use Rattle.tree.specs.Paths.{Stay, Surveyed, filled}
use Rattle.tree.specs.declared.paths.Path.{Path}
use Rattle.tree.specs.declared.paths.Route.{Route}
use Rattle.model.specs.Datasets.{State, Dataset, free}
use Rattle.model.specs.Paths.{Hole, sinking}
use Rattle.model.specs.Questions.{Question, FirstNo, DiscardTakes, DiscardSinks}
use Rattle.model.specs.Steps.{Replaced, Step}
use Rattle.model.specs.declared.Answer.TheVariants.{Done}
use Rattle.model.specs.declared.Call.TheVariants.{Discard, Write}
use Rattle.model.specs.declared.Changed.{Changed}
use Rattle.model.proofs.Readings.{stay_most}
use Rattle.model.proofs.Rows.{row_number}
use Rattle.pool.specs.Paths.{IsWritable, Replaces, Routed}
use Rattle.pool.specs.Pools.{done}
use Rattle.pool.proofs.Places.{nothing_changed}
use Rattle.pool.proofs.Trees.{one_row}

-- a first no stays the first where more is asked after it
pub asked_more : (a b c : Question) (qs : List Question) (l : Layer) → FirstNo (a ∷ b ∷ c ∷ []) l → FirstNo (a ∷ b ∷ c ∷ qs) l
asked_more a b c qs l (inl x) = inl x
asked_more a b c qs l (inr (p, inl x)) = inr (p, inl x)
asked_more a b c qs l (inr (p, inr (q, inl x))) = inr (p, inr (q, inl x))
asked_more a b c qs l (inr (p, inr (q, inr (r, x)))) = absurd x

-- a survey is a route
pub routed : (s : State) (n : ℕ) (r : Row) (p : ℕ) (route : Route) (k : ℕ) (text : List ℕ) → Dataset s n r → p < fan ^ r.height
    → route.path ≡ record { height = r.height; position = p } → Surveyed s.memory r.root r.height p route.old route.kept → k ≤ suc r.height → length text ≤ block_size
    → Routed s r route.path.position route k text
routed s n r p route k text found position path seen deep short =
    subst (λ (i : ℕ). Routed s r i route k text) (sym (ap (λ (x : Path). x.position) path)) (record {
      found = subst (λ (m : ℕ). Dataset s m r) (sym (row_number s.rows n r found)) found;
      path = path;
      position = position;
      long = seen.long;
      pointers = seen.pointers;
      past = seen.past;
      deep = deep;
      short = short;
    })

-- what replaces a route replaces the path to its position
pub of_position : (s t : State) (r : Row) (p k : ℕ) (route : Route) (text : List ℕ) (c : Result Changed Layer) → route.path ≡ record { height = r.height; position = p }
    → Replaces s r route.path.position k text c t → Replaces s r p k text c t
of_position s t r p k route text c path replaces = subst (λ (i : ℕ). Replaces s r i k text c t) (ap (λ (x : Path). x.position) path) replaces

-- what replaces the path of a row replaces that of its dataset
of_dataset : (s t : State) (n : ℕ) (r : Row) (p k : ℕ) (bytes : List ℕ) → Dataset s n r → Replaced s t r.number r p k bytes → Replaced s t n r p k bytes
of_dataset s t n r p k bytes found rep = subst (λ (m : ℕ). Replaced s t m r p k bytes) (row_number s.rows n r found) rep

-- a number that is not some number of a row is none of its dataset
few : (s : State) (n : ℕ) (r : Row) (P : Row → ℕ → Type 0) (Q : ℕ → Type 0) → Dataset s n r → ((k : ℕ) → P r k → Q k → ⊥) → (x : Row) × (k : ℕ) × Dataset s n x × P x k × Q k → ⊥
few s n r P Q found none (x, k, there, takes, enough) = none k (subst (λ (y : Row). P y k) (one_row s n r x found there) takes) enough

pub write_step : (s t : State) (n p : ℕ) (text : Bor (List ℕ)) (r : Row) (c : Result Changed Layer) → IsWritable s n r → p < fan ^ r.height → length text.now ≤ block_size
    → Replaces s r p (suc r.height) text.now c t → Step s (Write n p text) (done c) t
write_step s t n p text r (Ok c) is position short (enough, fits, counts, rep) = (
  (is.number, ((r, is.found), ((is.origin, (r, is.found, is.head)), (((r, is.found, position), short), ((r, suc r.height, is.found, refl, enough), ((r, length (sinking s r p), is.found, refl, fits), tt)))))),
  (ap Done counts, (r, is.found, of_dataset s t n r p (suc r.height) (filled text.now) is.found rep)),
)
write_step s t n p text r (Err l) is position short (inl (none, cause), same) = (
  inr (is.number, inr ((r, is.found), inr ((is.origin, (r, is.found, is.head)), inr (((r, is.found, position), short), inl (few s n r (λ x k. k ≡ suc x.height) (λ k. k ≤ free s) is.found (λ k takes le. none (omega arith)), cause))))),
  same,
)
write_step s t n p text r (Err l) is position short (inr (enough, none, cause), same) = (
  inr (is.number, inr ((r, is.found), inr ((is.origin, (r, is.found, is.head)), inr (((r, is.found, position), short), inr ((r, suc r.height, is.found, refl, enough), inl (few s n r (λ x k. k ≡ length (sinking s x p)) (λ k. length s.dead + k ≤ s.dead_room) is.found (λ k sinks le. none (omega arith)), cause)))))),
  same,
)

-- a discard of a hole
pub hole_step : (s : State) (n p : ℕ) (r : Row) → IsWritable s n r → p < fan ^ r.height → length s.dead ≤ s.dead_room → Hole s r p → Step s (Discard n p) (Ok (Done (record { taken = 0; given = 0 }))) s
hole_step s n p r is position fits hole = (
  (is.number, ((r, is.found), ((is.origin, (r, is.found, is.head)), ((r, is.found, position), ((r, 0, is.found, inl (hole, refl), omega arith), ((r, 0, is.found, inl (hole, refl), omega arith), tt)))))),
  (ap Done (nothing_changed s s refl), (r, is.found, inl (hole, refl))),
)

-- no data is stored where a level is dropped
no_data : (s t : State) (n : ℕ) (r : Row) (p k : ℕ) (bytes : List ℕ) → k ≤ r.height → Replaced s t n r p k bytes → Replaced s t n r p k []
no_data s t n r p k bytes dropped rep = record {
  new = rep.new;
  free = rep.free;
  apart = rep.apart;
  memory = record { len = rep.memory.len; indirect = rep.memory.indirect; stored = λ lt. absurd (omega arith); others = rep.memory.others };
  owned = rep.owned;
  dead = rep.dead;
  rows = rep.rows;
  row_room = rep.row_room;
  dead_room = rep.dead_room;
  group = rep.group;
  size = rep.size;
}

pub discard_step : (s t : State) (n p k : ℕ) (r : Row) (c : Result Changed Layer) → IsWritable s n r → p < fan ^ r.height → (Hole s r p → ⊥) → Stay s.memory r.root r.height p k
    → Replaces s r p k [] c t → Step s (Discard n p) (done c) t
discard_step s t n p k r (Ok c) is position full stay (enough, fits, counts, rep) = (
  (is.number, ((r, is.found), ((is.origin, (r, is.found, is.head)), ((r, is.found, position), ((r, k, is.found, inr (full, stay), enough), ((r, length (sinking s r p), is.found, inr (full, refl), fits), tt)))))),
  (ap Done counts, (r, is.found, inr (full, (k, stay, no_data s t n r p k (filled []) stay.within (of_dataset s t n r p k (filled []) is.found rep))))),
)
discard_step s t n p k r (Err l) is position full stay (inl (none, cause), same) = (
  inr (is.number, inr ((r, is.found), inr ((is.origin, (r, is.found, is.head)), inr ((r, is.found, position), inl (few s n r (DiscardTakes s p) (λ j. j ≤ free s) is.found short, cause))))),
  same,
)
  where
    short : (j : ℕ) → DiscardTakes s p r j → j ≤ free s → ⊥
    short j (inl (hole, _)) le = full hole
    short j (inr (_, other)) le = none (omega (arith, stay_most s r p k j stay other, le))
discard_step s t n p k r (Err l) is position full stay (inr (enough, none, cause), same) = (
  inr (is.number, inr ((r, is.found), inr ((is.origin, (r, is.found, is.head)), inr ((r, is.found, position), inr ((r, k, is.found, inr (full, stay), enough), inl (few s n r (DiscardSinks s p) (λ j. length s.dead + j ≤ s.dead_room) is.found short, cause)))))),
  same,
)
  where
    short : (j : ℕ) → DiscardSinks s p r j → length s.dead + j ≤ s.dead_room → ⊥
    short j (inl (hole, _)) le = full hole
    short j (inr (_, sinks)) le = none (omega arith)
