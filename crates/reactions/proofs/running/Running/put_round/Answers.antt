use Rattle.std.proofs.Common.{sym, subst}
use Rattle.rsml_meaning.specs.Instances.{globals_of}
use Rattle.rsml_meaning.specs.Steps.{Round}
use Rattle.rsml_meaning.specs.Trace.{round_text}
use Rattle.elaborate.specs.Machine.{GroundMachine}
use Rattle.micro_step.specs.Micros.{AreEvents}
use Rattle.micro_step.specs.Numbers.{IsFor}
use Rattle.text_writer.specs.Writes.{Writes}
use Rattle.reactions.specs.Rounds.{IsRoundOf}
use Rattle.reactions.specs.Stepping.{InWorld, WasRound}
use Rattle.reactions.proofs.WrittenLemmas.{last_round}
use Rattle.reactions.proofs.running.Running.put_round.Goals as goal

pub put_round-requires-clause-events : goal.put_round-requires-clause-events
put_round-requires-clause-events g c = subst (λ (m : GroundMachine). AreEvents m.base.spec c.self.inside.before) (sym c.self.invariant.traced) c.self.invariant.events_before

pub put_round-requires-clause-made : goal.put_round-requires-clause-made
put_round-requires-clause-made g c = subst (λ (m : GroundMachine). IsFor m c.self.inside.scratch) (sym c.self.invariant.traced) c.self.invariant.made

pub returns : goal.returns
returns g c r was =
    let put =
    subst (λ (m : GroundMachine). (q : Round) → IsRoundOf m.base.spec c.self.inside.before c.self.inside.scratch q
    → Writes (g.W.Writer.state c.args.writer.now) (g.W.Writer.text c.args.writer.now) (round_text (globals_of m.base.spec) (c.args.number, q))
    (g.W.Writer.state c.put_round.new.writer) (g.W.Writer.text c.put_round.new.writer)) c.self.invariant.traced c.put_round.ensures in
    let kept = last_round c.self.inside.machine.now.base.spec c.self.inside.world c.self.inside.before c.self.inside.scratch r
    (subst (λ (v : InWorld). WasRound v.machine.base.spec v.last r) (sym c.self.view_is) was) in
    subst (λ (v : InWorld). Writes (g.W.Writer.state c.args.writer.now) (g.W.Writer.text c.args.writer.now) (round_text (globals_of v.machine.base.spec) (c.args.number, r))
    (g.W.Writer.state c.put_round.new.writer) (g.W.Writer.text c.put_round.new.writer)) c.self.view_is (put r kept)
