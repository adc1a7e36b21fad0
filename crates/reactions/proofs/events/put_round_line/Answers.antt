use Rattle.std.proofs.Common.{ℕ, sym, ap}
use Rattle.rsml_meaning.specs.Trace.{round_line}
use Rattle.micro_step.specs.Micros.{events_in}
use Rattle.text_writer.proofs.WritingLemmas.{alike}
use Rattle.reactions.proofs.events.put_round_line.Goals as goal

pub returns-in-1 : goal.returns-in-1
returns-in-1 g c = alike (ap (λ (n : ℕ). round_line n (events_in c.args.texts.now c.args.present.now)) (sym c.in-1.is)) c.put_first_line.ensures
