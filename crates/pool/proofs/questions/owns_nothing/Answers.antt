use Rattle.std.proofs.Common.{◌≡◌, ℕ, true, false, ◌⊎◌, sym, ◌∙◌, inl, inr, arith}
use Rattle.std.proofs.lemmas.Bool.{cases_Bool, eqb-true, eqb-false}
use Rattle.std.proofs.lemmas.Result.{MatchResult-weaker}
use Rattle.blocks.specs.Meanings.{Meaning, free}
use Rattle.blocks.proofs.Counts.{count_none, count_empty, count_bound}
use Rattle.pool.proofs.questions.owns_nothing.Goals as goal

-- where as many blocks are free as there are, none is owned
none_owned : (m : Meaning) → free m ≡ m.size → (b : ℕ) → m.owns b ≡ false
none_owned m all b = go (cases_Bool (m.owns b))
  where
    go : (m.owns b ≡ true) ⊎ (m.owns b ≡ false) → m.owns b ≡ false
    go (inl e) = count_none m.owns m.size (omega (arith, count_bound m.owns m.size)) b (m.below b e)
    go (inr e) = e

all_free : (m : Meaning) → ((b : ℕ) → m.owns b ≡ false) → free m ≡ m.size
all_free m none = let e = count_empty m.owns m.size (λ b _. none b) in omega arith

pub returns : goal.returns
returns g c = record {
  cases = λ ok.
      let m = g.A.BlockAllocator.meaning c.args.allocator.now in
      let freed = c.free_count-free.ensures.value ok in
      let sized = c.size.ensures.value ok in
      MatchResult-weaker c.ask.result c.ask.ensures.cases
      (λ _ e. none_owned m (sym freed ∙ eqb-true _ _ e ∙ sized))
      (λ _ no. (no.0, λ none. eqb-false _ _ no.1 (freed ∙ all_free m none ∙ sym sized)));
}
