use Rattle.std.proofs.Common.{refl, rules}
use borrow.Author.Tests.{tests}
use Rattle.std.proofs.lemmas.Iterator.{cases_from_any, YieldsList-from_range}
use Rattle.tree.proofs.Surveys.{HereBeside, HoleUnless, holes_beside}
use Rattle.tree.proofs.paths.has_other.Goals as goal

pub returns-clause-holes : goal.returns-clause-holes
returns-clause-holes c =
    holes_beside c.args.bytes.now c.args.place _
    (cases_from_any _ _ _ (HereBeside c.args.bytes.now c.args.place) (HoleUnless c.args.bytes.now c.args.place)
    c.any.ensures.ran (YieldsList-from_range 0 8 8 refl refl) (λ x q k. search (rules, tests)) (λ x q k. search (rules, tests)))
