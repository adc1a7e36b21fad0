use Rattle.std.proofs.Common.{sym, subst}
use Rattle.rsml_meaning.specs.Instances.{globals_of}
use Rattle.rsml_meaning.specs.Trace.{round_text}
use Rattle.text_writer.specs.Writes.{Writes}
use Rattle.reactions.specs.Stepping.{WasRound}
use Rattle.simulator.specs.Simulation.{Simulation}
use Rattle.simulator.proofs.course.Course.put_round.Goals as goal

pub returns : goal.returns
returns g c r was =
    subst (λ (m : Simulation). Writes (g.W.Writer.state c.args.out.now) (g.W.Writer.text c.args.out.now) (round_text (globals_of m.spec) (c.args.number, r))
    (g.W.Writer.state c.put_round.new.out) (g.W.Writer.text c.put_round.new.out)) c.self.view_is
    (c.put_round.ensures r (subst (λ (m : Simulation). WasRound m.spec m.last r) (sym c.self.view_is) was))
