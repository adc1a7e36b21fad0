use Rattle.std.proofs.Common.{◌==◌, false, slice_index_or}
use Rattle.std.proofs.lemmas.Result.{IfOk-weaker}
use Rattle.rsml_meaning.specs.Instances.{components}
use Rattle.state_tree.proofs.Lists.{within_get}
use Rattle.world_levels.specs.Spelling.{world_of}
use Rattle.phrase_diagrams.specs.Tells.{Tells}
use Rattle.rsml_ground.specs.Children.{has_child}
use Rattle.rsml_ground.proofs.Activity.{chosen_at, chosen_never}
use Rattle.phrase_diagrams.proofs.Told.{told_as}
use Rattle.phrase_diagrams.proofs.chosen.where_chosen.Goals as goal

pub returns-in-Some-clause-answer : goal.returns-in-Some-clause-answer
returns-in-Some-clause-answer c =
    let s = c.args.tree.now in
    let levels = c.args.layout.now in
    let k = within_get (components s) c.args.component c.requires.component in
    IfOk-weaker c.choice.result
    (Tells c.choice.new.arena levels (λ w. slice_index_or w.choices c.args.component 0 == c.in-Some.place))
    (Tells c.choice.new.arena levels (λ w. has_child s w c.args.component c.args.node))
    (λ r h. told_as c.choice.new.arena levels (λ w. slice_index_or w.choices c.args.component 0 == c.in-Some.place) (λ w. has_child s w c.args.component c.args.node) r
    (λ values. chosen_at s c.requires.checked c.args.component c.args.node c.in-Some.place (world_of levels.spec levels.slots values) k.0 k.1 c.requires.node (c.in-Some.ensures k.0 k.1)
    (c.requires.choices values)) h)
    c.choice.ensures.answer

pub returns-in-None-clause-answer : goal.returns-in-None-clause-answer
returns-in-None-clause-answer c =
    let s = c.args.tree.now in
    let levels = c.args.layout.now in
    let k = within_get (components s) c.args.component c.requires.component in
    told_as c.args.arena.now levels (λ w. false) (λ w. has_child s w c.args.component c.args.node) c.constant.result
    (λ values. chosen_never s c.requires.checked c.args.component c.args.node (world_of levels.spec levels.slots values) k.0 k.1 c.requires.node (c.in-None.ensures k.0 k.1)
    (c.requires.choices values))
    c.constant.ensures
