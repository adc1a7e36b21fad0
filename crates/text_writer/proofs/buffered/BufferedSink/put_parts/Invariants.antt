use Rattle.std.proofs.Common.{length, ◌+◌, ◌-◌, ◌≡◌, ◌≢◌, ◌<◌, ◌≤◌, [], take, true}
use Rattle.rsml_io.specs.Writing.{appended}
use Rattle.text_writer.specs.Parts.{waiting, text_of, state_of}
use Rattle.text_writer.proofs.buffered.BufferedSink.put_parts.Given as goal

abbrev pub invariant-loop-at : goal.invariant-loop-at
invariant-loop-at g l = record {
  within : l.at ≤ length l.bytes;
  whole : l.self.whole ≡ true;
  some_wait : l.at < length l.bytes → waiting l.self ≢ [];
  text : text_of g.K.Sink.written l.self ≡ appended (text_of g.K.Sink.written l.fn.self) (take l.at l.bytes);
  count : g.K.Sink.faults l.fn.self.sink.now ≤ g.K.Sink.faults l.self.sink.now;
  same : (state_of g.K.Sink.faults g.K.Sink.written l.self).target ≡ (state_of g.K.Sink.faults g.K.Sink.written l.fn.self).target;
}

abbrev pub decreases-loop-at : goal.decreases-loop-at
decreases-loop-at g l = (length l.bytes - l.at) + length (waiting l.self)
