use Rattle.std.proofs.Common.{◌&&◌, List, ℕ, fold, sym, ap, ◌∙◌, subst}
use Rattle.rsml_meaning.specs.Worlds.{IsWorld}
use Rattle.elaborate.specs.Enabled.{is_enabled}
use Rattle.micro_step.specs.Micros.{IsMicro}
use Rattle.micro_step.specs.Numbers.{after_number, of_cases}
use Rattle.event_graph.specs.Sets.{has}
use Rattle.micro_step.proofs.MicroLemmas.{world_choices}
use Rattle.micro_step.proofs.LoopLemmas.{places_below}
use Rattle.micro_step.proofs.steps.micro.Goals as goal

pub enter_all-requires-clause-fit : goal.enter_all-requires-clause-fit
enter_all-requires-clause-fit c = world_choices c.args.machine.now.base.spec c.args.world.now c.requires.world

pub enter_all-requires-clause-taken : goal.enter_all-requires-clause-taken
enter_all-requires-clause-taken c =
    places_below (λ x. has c.args.events.now x.event && is_enabled c.args.machine.now c.args.world.now x) c.args.machine.now.transitions c.taken.result.now (c.taken.ensures ∙ c.react.ensures.taken)

pub returns-clause-micro : goal.returns-clause-micro
returns-clause-micro c =
    let m = c.args.machine.now in
    let w = c.args.world.now in
    let k = c.react.new.scratch in
    let entered = c.enter_all.ensures ∙ ap (λ (ks : List ℕ). fold (after_number m) w.choices ks) c.taken.ensures in
    subst (λ (ns : List ℕ). IsMicro m.base.spec w c.args.events.now k.taken.items k.sent.items (of_cases k.values k.sent.items) (record w { choices = ns }) c.react.new.events) (sym entered)
    c.react.ensures.micro

pub returns-clause-world : goal.returns-clause-world
returns-clause-world c =
    let m = c.args.machine.now in
    let w = c.args.world.now in
    let entered = c.enter_all.ensures ∙ ap (λ (ks : List ℕ). fold (after_number m) w.choices ks) c.taken.ensures in
    subst (λ (ns : List ℕ). IsWorld m.base.spec (record w { choices = ns })) (sym entered) c.react.ensures.left
