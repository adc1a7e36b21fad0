use Rattle.std.proofs.Common.{sym, ◌∙◌, take}
use Rattle.text_writer.proofs.Waiting.{some_left}
use Rattle.text_writer.proofs.flushing.write_waiting.Goals as goal

pub returns-clause-some_wait : goal.returns-clause-some_wait
returns-clause-some_wait g c = λ w refused none.
    let bound = rw c.bytes.ensures at c.write_front-n.ensures.bound in
    let test = rw c.bytes-2.ensures at refused in
    some_left c.args.buffer.now.bytes c.write_front-n.result bound test (sym c.remove_front.ensures.rest ∙ none)

pub returns-clause-more : goal.returns-clause-more
returns-clause-more g c = (take c.write_front-n.result c.bytes.result.now, c.write_front-n.ensures.written)
