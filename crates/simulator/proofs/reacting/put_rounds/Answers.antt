use Rattle.std.proofs.Common.{◌≡◌, ◌+◌, ℕ, suc, refl, sym, ap, ◌∙◌, subst, arith}
use Rattle.rsml_syntax.specs.declared.syntax.Spec.{Spec}
use Rattle.rsml_meaning.specs.Words.{Each, Instance}
use Rattle.rsml_meaning.specs.Chains.{Ends}
use Rattle.rsml_meaning.specs.Instances.{globals_of}
use Rattle.rsml_meaning.specs.Steps.{Round}
use Rattle.rsml_meaning.specs.Trace.{round_text}
use Rattle.text_writer.specs.Writes.{Writes}
use Rattle.reactions.specs.Stepping.{RoundIsDone, WasRound}
use Rattle.simulator.specs.Simulation.{Simulation}
use Rattle.simulator.specs.helpers.Reacting.{StepIsWritten}
use Rattle.simulator.proofs.RoundLemmas.{no_turn, next_turn, step_of, none_after, some_external}
use Rattle.simulator.proofs.reacting.put_rounds.Goals as goal

pub loop-before-init : goal.loop-before-init
loop-before-init g c =
    let m = c.args.course.now in
    record { rest = refl; turned = no_turn m.spec m.world m.present (g.W.Writer.state c.args.out.now) (g.W.Writer.text c.args.out.now) }

pub loop-before-preserved : goal.loop-before-preserved
loop-before-preserved g c =
    let i = c.loop-before.invariant in
    let start = c.args.course.now in
    let m = c.loop-before.course in
    let n = c.round.new.self in
    let some = c.if-not-round.false in
    let spec : m.spec ≡ start.spec = ap (λ (z : Simulation). z.spec) i.rest in
    let same : n.spec ≡ start.spec = ap (λ (z : Simulation). z.spec) c.round.ensures.rest ∙ spec in
    let done = subst (λ (z : Spec). RoundIsDone z m.world m.present n.last n.world n.present) spec (c.round.ensures.done some) in
    let longer = subst (λ (z : Spec). (x : Instance) (k : ℕ) → Each (Ends z x k) m.present → Each (Ends z x (suc k)) n.present) spec (c.round.ensures.longer some) in
    let put =
    subst (λ (z : Spec). (r : Round) → WasRound z n.last r → Writes (g.W.Writer.state c.loop-before.out) (g.W.Writer.text c.loop-before.out) (round_text (globals_of z) (c.loop-before.before + 1, r))
    (g.W.Writer.state c.put_round.new.out) (g.W.Writer.text c.put_round.new.out)) same c.put_round.ensures in
    record {
      rest = c.round.ensures.rest ∙ ap (λ (z : Simulation). record z { world = n.world; present = n.present; last = n.last }) i.rest;
      turned =
          next_turn start.spec start.world start.present c.loop-before.before m.world m.present _ _ _ _ i.turned n.last n.world n.present _ _ (c.round.ensures.some some) done put longer;
    }

pub returns-then-not-round-clause-none : goal.returns-then-not-round-clause-none
returns-then-not-round-clause-none g c =
    let idle = c.round.ensures.none c.if-not-round.true in
    ap (λ (z : Simulation). z.present) idle.1 ∙ idle.0

pub returns-then-not-round-clause-step : goal.returns-then-not-round-clause-step
returns-then-not-round-clause-step g c =
    let i = c.loop-before.invariant in
    let start = c.args.course.now in
    let m = c.loop-before.course in
    let idle = c.round.ensures.none c.if-not-round.true in
    subst (λ (z : Simulation). StepIsWritten start.spec start.world start.present z.world (g.W.Writer.state c.args.out.now) (g.W.Writer.text c.args.out.now)
    (g.W.Writer.state c.loop-before.out) (g.W.Writer.text c.loop-before.out)) (sym idle.1)
    (step_of start.spec start.world start.present c.loop-before.before m.world m.present _ _ _ _ i.turned idle.0 (some_external start.spec start.present c.requires))

pub returns-then-not-round-clause-rest : goal.returns-then-not-round-clause-rest
returns-then-not-round-clause-rest g c =
    let start = c.args.course.now in
    let idle = c.round.ensures.none c.if-not-round.true in
    subst (λ (z : Simulation). z ≡ record start { world = z.world; present = z.present; last = z.last }) (sym idle.1) c.loop-before.invariant.rest

pub returns-clause-none : goal.returns-clause-none
returns-clause-none g c =
    let start = c.args.course.now in
    let m = c.loop-before.course in
    none_after start.spec start.world start.present c.loop-before.before m.world m.present _ _ _ _ c.loop-before.invariant.turned
    c.law.ensures.scoped c.law.ensures.certified c.requires (omega (arith, c.most_rounds-count.ensures, c.loop-before-test.false))

pub returns-clause-step : goal.returns-clause-step
returns-clause-step g c =
    let start = c.args.course.now in
    let m = c.loop-before.course in
    let t = c.loop-before.invariant.turned in
    let none =
    none_after start.spec start.world start.present c.loop-before.before m.world m.present _ _ _ _ t
    c.law.ensures.scoped c.law.ensures.certified c.requires (omega (arith, c.most_rounds-count.ensures, c.loop-before-test.false)) in
    step_of start.spec start.world start.present c.loop-before.before m.world m.present _ _ _ _ t none (some_external start.spec start.present c.requires)

pub returns-clause-rest : goal.returns-clause-rest
returns-clause-rest g c = c.loop-before.invariant.rest
