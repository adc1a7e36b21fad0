-- A buffered sink, as contracts see it.
use Rattle.std.specs.Prelude.{ℕ, List, Option}
use Rattle.rsml_io.specs.Writing.{appended}
use Rattle.text_writer.specs.Writes.{WriterState}
use Rattle.text_writer.specs.Buffering.{count_of, target_of}
use Rattle.text_writer.specs.declared.buffered.BufferedSink.{BufferedSink}

-- the bytes that wait
abbrev pub waiting : {K : Type 0} {k : _} → BufferedSink K k → List ℕ
waiting b = b.buffer.now.bytes

-- what stands in the sink, where that is told
abbrev pub written_in : {K : Type 0} {k : _} → (K → Option (List ℕ)) → BufferedSink K k → Option (List ℕ)
written_in written b = written b.sink.now

-- what stands in the sink, and then what waits
abbrev pub text_of : {K : Type 0} {k : _} → (K → Option (List ℕ)) → BufferedSink K k → Option (List ℕ)
text_of written b = appended (written_in written b) (waiting b)

-- whether nothing was refused, how many refusals the sink counts, and by which reference it is held since how many bytes were written
abbrev pub state_of : {K : Type 0} {k : _} → (K → ℕ) → (K → Option (List ℕ)) → BufferedSink K k → WriterState
state_of faults written b = record {
  whole = b.whole;
  refusals = faults b.sink.now;
  target = target_of b.sink.ghost_name (count_of (written b.began.value));
}
