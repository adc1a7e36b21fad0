use Rattle.std.proofs.Common.{◌≡◌, [], sym, ◌∙◌}
use Rattle.text_writer.specs.Buffering.{count_of}
use Rattle.text_writer.specs.Parts.{text_of}
use Rattle.text_writer.proofs.Growth.{continues_more, shorter}
use Rattle.text_writer.proofs.Targets.{same_start}
use Rattle.text_writer.proofs.Waiting.{all_written, either}
use Rattle.text_writer.proofs.buffered.BufferedSink.finish.Goals as goal

pub returns : goal.returns
returns g c =
    let self = c.args.self in
    let own = g.K.Sink.written self.began.value in
    let written = g.K.Sink.written c.write_waiting.new.sink in
    let rest = c.write_waiting.new.buffer.bytes in
    record {
      earlier = c.write_waiting.ensures.before;
      whole = λ e. all_written written (text_of g.K.Sink.written self) rest (c.write_waiting.ensures.none_waits e)
          c.write_waiting.ensures.text;
      part = λ refused first held counted before bytes start target some front.
          let since = same_start self.sink.ghost_name (count_of own) held counted before first start target in
          let waits = either {X = rest ≡ [] → ⊥} self.whole
          (λ whole. c.write_waiting.ensures.some_wait whole refused)
          (λ part none. self.some_wait part (sym (c.write_waiting.ensures.waiting part) ∙ none)) in
          let kept = continues_more own (g.K.Sink.written self.sink.now) written self.continues c.write_waiting.ensures.more in
          shorter own before written rest bytes kept since.1 waits some (front.0, front.1, c.write_waiting.ensures.text ∙ front.2);
      count = c.write_waiting.ensures.count;
      cause = c.write_waiting.ensures.cause;
      same = λ first held counted before start target.
          (same_start self.sink.ghost_name (count_of own) held counted before first start target).0;
    }
