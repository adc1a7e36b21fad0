use Rattle.std.proofs.Common.{◌≡◌, ◌<◌, ◌≤◌, ◌+◌, List, ℕ, length, replicate, sym, ap, ◌∙◌, subst, refl, arith, add-one}
use Rattle.rsml_meaning.specs.Instances.{components}
use Rattle.worlds.proofs.FirstWorlds.{Begun, none_begun, begun_long, begun_more, all_begun}
use Rattle.worlds.proofs.first.first_choices.Goals as goal

pub loop-component-init : goal.loop-component-init
loop-component-init c =
    let cs = components c.args.tree.now in
    let start = subst (λ (ns : List ℕ). Begun 0 cs ns) (sym (c.in_ok-choices.ensures ∙ ap (λ n. replicate n 0) c.components.ensures)) (none_begun cs) in
    record { long = begun_long 0 cs c.in_ok-choices.choices start; begun = start }

pub loop-component-preserved : goal.loop-component-preserved
loop-component-preserved c =
    let s = c.args.tree.now in
    let k = c.loop-component.component in
    let below : k < length (components s) = omega (arith, c.loop-component-test.true, c.components-component-end.ensures) in
    let more = begun_more s k c.loop-component.choices c.enter.new.choices c.requires below c.loop-component.invariant.begun c.enter.ensures in
    let next : Begun (k + 1) (components s) c.enter.new.choices = subst (λ n. Begun n (components s) c.enter.new.choices) (sym (add-one k)) more in
    record { long = begun_long (k + 1) (components s) c.enter.new.choices next; begun = next }

pub returns : goal.returns
returns c =
    let s = c.args.tree.now in
    let l : length (components s) ≤ c.loop-component.component = omega (arith, c.loop-component-test.false, c.components-component-end.ensures) in
    all_begun c.loop-component.component (components s) c.loop-component.choices l c.loop-component.invariant.begun
