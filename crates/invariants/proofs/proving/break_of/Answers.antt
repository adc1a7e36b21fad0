use Rattle.std.proofs.Common.{◌≡◌, ◌&&◌, is_some, List, ℕ, fold, refl, sym, ap, ◌∙◌}
use Rattle.event_graph.specs.Sets.{has}
use Rattle.elaborate.specs.Enabled.{is_enabled}
use Rattle.micro_step.specs.Numbers.{after_number}
use Rattle.micro_step.proofs.LoopLemmas.{places_below}
use Rattle.micro_step.proofs.MicroLemmas.{world_choices}
use Rattle.invariants.proofs.EndLemmas.{IsLeft, break_of, some_left}
use Rattle.invariants.proofs.proving.break_of.Goals as goal

pub enter_all-requires-clause-fit : goal.enter_all-requires-clause-fit
enter_all-requires-clause-fit c = world_choices c.args.machine.now.base.spec c.args.found.broken.world c.requires.found.here.round.broken.world.such.0

pub enter_all-requires-clause-taken : goal.enter_all-requires-clause-taken
enter_all-requires-clause-taken c =
    places_below (λ x. has c.args.found.broken.events x.event && is_enabled c.args.machine.now c.args.found.broken.world x) c.args.machine.now.transitions c.taken.result.now (c.taken.ensures ∙ c.react.ensures.taken)

pub unwrap-claim-requires : goal.unwrap-claim-requires
unwrap-claim-requires c =
    let m = c.args.machine.now in
    let choices = c.args.found.broken.world.choices in
    let l : IsLeft m c.args.found c.tree.result.now c.enter_all.new.choices c.react.new.scratch.taken.items =
    record { tree = c.tree.ensures; moves = c.react.ensures.taken; choices = c.enter_all.ensures ∙ ap (λ (ks : List ℕ). fold (after_number m) choices ks) c.taken.ensures } in
    let p = some_left m c.args.claims.now c.args.found c.tree.result.now c.enter_all.new.choices c.react.new.scratch.taken.items l c.requires.found in
    ap is_some (c.first_false.ensures ∙ p.1)

pub returns : goal.returns
returns c =
    let m = c.args.machine.now in
    let w = c.args.found.broken.world in
    let l : IsLeft m c.args.found c.tree.result.now c.enter_all.new.choices c.react.new.scratch.taken.items =
    record { tree = c.tree.ensures; moves = c.react.ensures.taken; choices = c.enter_all.ensures ∙ ap (λ (ks : List ℕ). fold (after_number m) w.choices ks) c.taken.ensures } in
    let kept : c.in_ok-choices.choices ≡ w.choices = c.in_ok-choices.ensures ∙ c.as_slice.ensures in
    break_of m c.args.claims.now c.args.found c.tree.result.now c.enter_all.new.choices c.react.new.scratch.taken.items l _ refl refl refl
    (λ i. record { choices = kept i; cells = w.cells }) (c.in_ok-taken.ensures.items ∙ c.taken-2.ensures) (sym c.first_false.ensures ∙ c.unwrap-claim.ensures)
