use Rattle.std.proofs.Common.{◌≤◌, length, drop, ◌∙◌, arith, rules, length-drop}
use Rattle.std.proofs.lemmas.List.{take_rest}
use Rattle.text_writer.specs.Parts.{text_of}
use Rattle.text_writer.proofs.Waiting.{filled}
use Rattle.text_writer.proofs.buffered.BufferedSink.put_parts.Goals as goal

pub loop-at-preserved : goal.loop-at-preserved
loop-at-preserved g c =
    let bytes = c.args.bytes.now in
    let at = c.loop-at.at in
    let n = c.fill-at-in-loop-at.result in
    let left = length-drop at bytes in
    let bound : n ≤ length (drop at bytes) = rw take_rest at (c.fill-at-in-loop-at.ensures.bound) in
    let more = rw take_rest at (c.fill-at-in-loop-at.ensures.filled) in
    let some = rw take_rest at (c.fill-at-in-loop-at.ensures.some) in
    let old = text_of g.K.Sink.written c.args.self.now in
    record {
      within = omega arith;
      whole = search rules;
      some_wait = λ before. some (omega arith);
      text = filled (g.K.Sink.written c.flush.new.self.sink.now) old c.flush.new.self.buffer.now.bytes c.fill-at-in-loop-at.new.self.bytes
          bytes at n more (c.flush.ensures.flushes.text ∙ c.loop-at.invariant.text);
      count = omega (arith, c.flush.ensures.flushes.count, c.loop-at.invariant.count);
      same = c.flush.ensures.flushes.same ∙ c.loop-at.invariant.same;
    }
