use Rattle.std.proofs.Common.{◌<◌, length, refl, arith, rules}
use Rattle.model.specs.Life.{start}
use Rattle.life.proofs.Turns.{done_more, written_more}
use Rattle.life.proofs.run.Goals as goal

pub loop-index-init : goal.loop-index-init
loop-index-init g c = record { written = record { long = refl; rest = refl }; sound = λ i. i; done = λ i. (start, refl) }

pub loop-index-preserved : goal.loop-index-preserved
loop-index-preserved g c = record {
  written = written_more c.args.answers.now c.loop-index.answers c.loop-index.index c.perform.result room c.loop-index.invariant.written;
  sound = λ i. c.perform.ensures.sound (c.loop-index.invariant.sound i);
  done = λ i.
      done_more _ _ _ c.args.calls.now c.loop-index.answers c.loop-index.index _ c.perform.result few (omega (arith, room, c.loop-index.invariant.written.long)) (c.loop-index.invariant.done i)
      (c.perform.ensures.step (c.loop-index.invariant.sound i));
}
  where
    few : c.loop-index.index < length c.args.calls.now
    few = search rules

    room : c.loop-index.index < length c.args.answers.now
    room = search rules
