use Rattle.std.proofs.Common.{◌<◌, [], length, sym, ◌∙◌, arith}
use Rattle.std.proofs.lemmas.List.Elements.{All-cons}
use Rattle.rsml_meaning.specs.Instances.{components, states}
use Rattle.state_tree.specs.nodes.Numbers.{component_at}
use Rattle.state_tree.proofs.Lists.{get_within}
use Rattle.state_tree.proofs.Walks.{told, and_true}
use Rattle.rsml_ground.specs.Truths.{is_active}
use Rattle.rsml_ground.specs.declared.choices.Choice.{Choice}
use Rattle.rsml_ground.proofs.Activity.{same_active}
use Rattle.rsml_ground.proofs.choices.choice_for.Goals as goal

pub returns-in_default-clause-active : goal.returns-in_default-clause-active
returns-in_default-clause-active c = λ w ch.
    let s = c.args.tree.now in
    same_active s c.requires.checked c.args.node c.args.outer w c.requires.node c.requires.outer c.in_default.ensures ∙ sym (and_true (is_active s w c.args.outer))

pub place_of-child-requires-clause-component : goal.place_of-child-requires-clause-component
place_of-child-requires-clause-component c =
    let s = c.args.tree.now in
    let t = told (components s) (component_at (states s) c.args.outer) c.in-Some.component c.in-Some.ensures in
    get_within (components s) c.in-Some.component t.0 t.2

pub returns-clause-component : goal.returns-clause-component
returns-clause-component c =
    let s = c.args.tree.now in
    let t = told (components s) (component_at (states s) c.args.outer) c.in-Some.component c.in-Some.ensures in
    All-cons (λ (x : Choice). x.component < length (components s)) (record { component = c.in-Some.component; child = c.place_of-child.result }) []
    (get_within (components s) c.in-Some.component t.0 t.2) (λ k d m. absurd (omega (arith, m)))
