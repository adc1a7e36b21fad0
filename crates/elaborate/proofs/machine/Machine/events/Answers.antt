use Rattle.std.proofs.Common.{◌≡◌, ◌≤◌, length, ap, ◌∙◌, arith}
use Rattle.rsml_meaning.specs.Instances.{events}
use Rattle.state_arrays.proofs.Room.{few, events_few}
use Rattle.elaborate.specs.Machine.{GroundMachine}
use Rattle.elaborate.proofs.machine.Machine.events.Goals as goal

pub returns-clause-count : goal.returns-clause-count
returns-clause-count c = c.events.ensures ∙ ap (λ s. length (events s)) (c.self.invariant.1 ∙ ap (λ (m : GroundMachine). m.base.spec) c.self.view_is)

pub returns-clause-few : goal.returns-clause-few
returns-clause-few c =
    let s = c.args.self.now.base.spec in
    let count : c.events.result ≡ length (events s) = c.events.ensures ∙ ap (λ s. length (events s)) (c.self.invariant.1 ∙ ap (λ (m : GroundMachine). m.base.spec) c.self.view_is) in
    let most : length (events s) ≤ 1024 = events_few s (few s c.law.ensures.grounded.checked.keeps.limits) in
    omega (arith, count, most)
