use Rattle.text_writer.proofs.Growth.{continues_more}
use Rattle.text_writer.proofs.buffered.BufferedSink.flush.Goals as goal

pub invariant_of-self-clause-continues : goal.invariant_of-self-clause-continues
invariant_of-self-clause-continues g c =
    let self = c.args.self.now in
    continues_more (g.K.Sink.written self.began.value) (g.K.Sink.written self.sink.now) (g.K.Sink.written c.write_waiting-self.new.sink)
    self.continues c.write_waiting-self.ensures.more
