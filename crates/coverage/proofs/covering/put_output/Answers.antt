use Rattle.std.proofs.Common.{sym, ap}
use Rattle.text_writer.proofs.WritingLemmas.{alike}
use Rattle.coverage.specs.Outputs.{text_of}
use Rattle.coverage.proofs.CoverLemmas.{last_text}
use Rattle.coverage.proofs.covering.put_output.Goals as goal

pub returns-in-Ended : goal.returns-in-Ended
returns-in-Ended g c = alike (ap (text_of c.args.counts.now) (sym c.in-Ended.is)) c.put.ensures

pub returns-in_default : goal.returns-in_default
returns-in_default g c = alike (last_text c.args.counts.now c.args.end c.in_default.not-Ended) c.put_last_line.ensures
