use Rattle.std.proofs.Common.{sym, ap, ◌∙◌, subst}
use Rattle.rsml_syntax.specs.declared.syntax.Spec.{Spec}
use Rattle.rsml_meaning.specs.Instances.{globals_of}
use Rattle.rsml_meaning.specs.Trace.{round_text}
use Rattle.elaborate.specs.Machine.{GroundMachine}
use Rattle.text_writer.specs.Writes.{Writes}
use Rattle.reactions.specs.Stepping.{WasRound}
use Rattle.simulator.specs.helpers.Turns.{Turning}
use Rattle.simulator.proofs.turns.Turns.put_round.Goals as goal

pub returns : goal.returns
returns g c r was =
    let spec = ap (λ (m : GroundMachine). m.base.spec) c.self.invariant.running_is ∙ ap (λ (t : Turning). t.spec) c.self.view_is in
    let last = c.self.inside.running.last in
    let there = subst (λ (t : Turning). WasRound t.spec t.last r) (sym c.self.view_is) was in
    let was = subst (λ (m : GroundMachine). WasRound m.base.spec last r) (sym c.self.invariant.running_is) there in
    subst (λ (s : Spec). Writes (g.W.Writer.state c.args.out.now) (g.W.Writer.text c.args.out.now) (round_text (globals_of s) (c.args.number, r))
    (g.W.Writer.state c.put_round.new.writer) (g.W.Writer.text c.put_round.new.writer)) spec (c.put_round.ensures r was)
