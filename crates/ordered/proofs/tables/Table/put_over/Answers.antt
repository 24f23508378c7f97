use Rattle.std.proofs.Common.{◌<◌, arith}
use Rattle.std.proofs.lemmas.List.{length-take}
use Rattle.std.proofs.Math.Seq.{take-set-lt}
use Rattle.ordered.proofs.tables.Table.put_over.Goals as goal

pub returns-clause-items : goal.returns-clause-items
returns-clause-items g c =
    let t = c.args.self.now in
    let within : c.args.at < t.count = omega (arith, length-take t.count t.places.now) in
    take-set-lt t.count t.places.now c.args.at c.args.new within
