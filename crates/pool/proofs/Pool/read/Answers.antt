use Rattle.std.proofs.Common.{◌≡◌, Some, None, sym, refl, ap, ◌∙◌, inl, inr, le_refl}
use Rattle.std.proofs.lemmas.Result.{err_from_is_err_and}
use Rattle.std.specs.Option.{option_map}
use Rattle.records.specs.declared.rows.Pointer.{Pointer}
use Rattle.tree.specs.Trees.{block}
use Rattle.model.specs.Datasets.{State, Dataset, reads}
use Rattle.model.specs.declared.Answer.TheVariants.{Bytes}
use Rattle.pool.specs.Pools.{state_of}
use Rattle.pool.proofs.Trees.{nothing_lost, block_inside, no_position, reads_is}
use Rattle.pool.proofs.Pool.read.Goals as goal

pub returns-in_err-position : goal.returns-in_err-position
returns-in_err-position g c = record {
  step = λ i.
      let s : State = state_of g.A.BlockAllocator.meaning c.args.self.now in
      let found : Dataset s c.args.number c.in_ok-row.row = c.in_ok-row.ensures.cases i.1.shape.ordered in
      let no = c.in_err-position.ensures.cases (i.1.shape.heights c.args.number c.in_ok-row.row found).1 in
      let p = err_from_is_err_and c.from_residual-in_err-position.result c.from_residual-in_err-position.ensures.1 in
      rw (p.1, p.2, no.0) (inr (c.in_ok-dataset_number.ensures.cases, inr ((c.in_ok-row.row, found), inl (no_position s _ _ c.in_ok-row.row found no.1, refl))), refl);
}

pub returns-in_err-pointer : goal.returns-in_err-pointer
returns-in_err-pointer g c = record {
  step = λ i.
      let s : State = state_of g.A.BlockAllocator.meaning c.args.self.now in
      let found : Dataset s c.args.number c.in_ok-row.row = c.in_ok-row.ensures.cases i.1.shape.ordered in
      let inside = c.in_ok-position.ensures.cases (i.1.shape.heights c.args.number c.in_ok-row.row found).1 in
      absurd (nothing_lost s c.args.number c.in_ok-row.row i.1 found (c.in_err-pointer.ensures.found.1 inside));
}

pub returns-in_default : goal.returns-in_default
returns-in_default g c = record {
  step = λ i.
      let s : State = state_of g.A.BlockAllocator.meaning c.args.self.now in
      let found : Dataset s c.args.number c.in_ok-row.row = c.in_ok-row.ensures.cases i.1.shape.ordered in
      let inside = c.in_ok-position.ensures.cases (i.1.shape.heights c.args.number c.in_ok-row.row found).1 in
      let hole = sym c.in_ok-pointer.ensures.found ∙ c.in_default.is in
      let is : reads s c.args.number c.args.position ≡ None =
      reads_is s c.args.number c.args.position c.in_ok-row.row found ∙ ap (option_map (λ (q : Pointer). block s.memory q.block)) hole in
      ((c.in_ok-dataset_number.ensures.cases, ((c.in_ok-row.row, found), ((c.in_ok-row.row, found, inside), tt))), (ap Bytes (sym is), refl));
}

pub returns-in_err-part : goal.returns-in_err-part
returns-in_err-part g c = record {
  step = λ i.
      let s : State = state_of g.A.BlockAllocator.meaning c.args.self.now in
      let found : Dataset s c.args.number c.in_ok-row.row = c.in_ok-row.ensures.cases i.1.shape.ordered in
      let inside = c.in_ok-position.ensures.cases (i.1.shape.heights c.args.number c.in_ok-row.row found).1 in
      let here = sym c.in_ok-pointer.ensures.found ∙ c.in-Some.is in
      absurd (block_inside s c.args.number c.in_ok-row.row.height c.args.position c.in_ok-row.row c.in-Some.pointer i.1 found (record { deep = le_refl c.in_ok-row.row.height; wide = inside; here = here }) c.in_err-part.ensures.read.1);
}

pub returns : goal.returns
returns g c = record {
  step = λ i.
      let s : State = state_of g.A.BlockAllocator.meaning c.args.self.now in
      let found : Dataset s c.args.number c.in_ok-row.row = c.in_ok-row.ensures.cases i.1.shape.ordered in
      let inside = c.in_ok-position.ensures.cases (i.1.shape.heights c.args.number c.in_ok-row.row found).1 in
      let here = sym c.in_ok-pointer.ensures.found ∙ c.in-Some.is in
      let is : reads s c.args.number c.args.position ≡ Some c.in_ok-part.part.now =
      reads_is s c.args.number c.args.position c.in_ok-row.row found ∙ (ap (option_map (λ (q : Pointer). block s.memory q.block)) here ∙ ap Some (sym c.in_ok-part.ensures.read)) in
      ((c.in_ok-dataset_number.ensures.cases, ((c.in_ok-row.row, found), ((c.in_ok-row.row, found, inside), tt))), (ap Bytes (sym is), refl));
}
