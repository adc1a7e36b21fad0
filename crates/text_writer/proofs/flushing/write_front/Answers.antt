use Rattle.std.proofs.Common.{◌≤◌, length, take, drop, ◌∙◌, ap, arith, length-drop}
use Rattle.std.proofs.lemmas.List.{take_rest}
use Rattle.rsml_io.specs.Writing.{appended}
use Rattle.rsml_io.proofs.Pieces.{appended_twice}
use Rattle.text_writer.proofs.flushing.write_front.Goals as goal

pub loop-at-preserved : goal.loop-at-preserved
loop-at-preserved g c =
    let bytes = c.args.bytes.now in
    let at = c.loop-at.at in
    let n = c.in-Ok.n in
    let written = rw take_rest at (c.in-Ok.ensures.written) in
    let bound : n ≤ length (drop at bytes) = rw take_rest at (c.in-Ok.ensures.bound) in
    record {
      within = omega (arith, bound, length-drop at bytes, c.loop-at-test.true);
      written = written ∙ ap (λ w. appended w (take n (drop at bytes))) c.loop-at.invariant.written
          ∙ appended_twice (g.K.Sink.written c.args.sink.now) bytes at n;
      count = omega (arith, c.in-Ok.ensures.count, c.loop-at.invariant.count);
    }
