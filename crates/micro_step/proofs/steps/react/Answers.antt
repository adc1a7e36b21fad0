use Rattle.std.proofs.Common.{◌&&◌, List, ℕ, sym, ap, ◌∙◌, refl}
use Rattle.elaborate.specs.Enabled.{is_enabled}
use Rattle.micro_step.specs.Numbers.{raised_at, left_by}
use Rattle.event_graph.specs.Sets.{has}
use Rattle.micro_step.proofs.MachineLemmas.{raised_within}
use Rattle.micro_step.proofs.MicroLemmas.{is_micro, leaves_world, is_determinate}
use Rattle.micro_step.proofs.LoopLemmas.{places_below}
use Rattle.micro_step.proofs.steps.react.Goals as goal

pub raise_all-requires : goal.raise_all-requires
raise_all-requires c =
    places_below (λ x. has c.args.events.now x.event && is_enabled c.args.machine.now c.args.world.now x) c.args.machine.now.transitions c.taken.result.now (c.taken.ensures ∙ c.read.ensures.taken)

pub returns-clause-micro : goal.returns-clause-micro
returns-clause-micro c =
    let m = c.args.machine.now in
    let taken = c.read.new.self.taken.items in
    is_micro m c.args.world.now (left_by m c.args.world.now taken) c.args.events.now c.raise_all.new.raised taken c.read.new.self.sent.items c.read.new.self.values
    c.law.ensures c.requires.world c.read.ensures.taken c.read.ensures.sent c.read.ensures.values refl refl
    (λ q. c.raise_all.ensures q ∙ ap (λ (ks : List ℕ). raised_at m ks q) c.taken.ensures)

pub returns-clause-certified : goal.returns-clause-certified
returns-clause-certified c = is_determinate c.args.machine.now c.args.world.now _ c.args.events.now c.raise_all.new.raised _ _ _ c.rounds_are_determinate.ensures c.law.ensures c.requires.world (returns-clause-micro c)

pub returns-clause-left : goal.returns-clause-left
returns-clause-left c = leaves_world c.args.machine.now c.args.world.now _ c.args.events.now c.raise_all.new.raised _ _ _ c.micro_steps_have_one_result.ensures.worlds c.law.ensures c.requires.world (returns-clause-micro c)

pub returns-clause-events : goal.returns-clause-events
returns-clause-events c = λ k h.
    raised_within c.args.machine.now c.taken.result.now k c.law.ensures (sym (c.raise_all.ensures k) ∙ h)
