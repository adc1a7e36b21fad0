use Rattle.event_file.proofs.WindowLemmas.{line_taken}
use Rattle.event_file.proofs.line_buffer.LineBuffer.take_line.Goals as goal

pub returns : goal.returns
returns c =
    let b = c.self.inside in
    rw (← c.self.view_is)
    (line_taken b.bytes.len b.start b.end c.args.width c.args.after b.bytes.items (rw (← c.self.view_is) at c.requires.line) (rw (← c.self.view_is) at c.requires.after))
