use Rattle.std.proofs.Common.{◌&&◌, true, sym, arith}
use Rattle.std.proofs.lemmas.Result.{IfOk-weaker}
use Rattle.rsml_meaning.specs.Instances.{components, states}
use Rattle.state_tree.specs.nodes.Numbers.{component_at}
use Rattle.state_tree.proofs.Lists.{get_item, get_within}
use Rattle.state_tree.proofs.Walks.{told}
use Rattle.rsml_ground.specs.Truths.{is_active}
use Rattle.bdd_core.specs.Diagram.{meaning}
use Rattle.bdd_core.specs.Calls.{Represents}
use Rattle.world_levels.specs.Spelling.{world_of}
use Rattle.phrase_diagrams.specs.Tells.{Tells}
use Rattle.rsml_ground.specs.Children.{has_child}
use Rattle.rsml_ground.proofs.Activity.{top_active, around_before, same_active, both_active}
use Rattle.phrase_diagrams.proofs.Told.{told_as, told_both, tells_keeps}
use Rattle.phrase_diagrams.proofs.states.active_state.Goals as goal

-- the top state is active everywhere
pub returns-in_default-clause-answer : goal.returns-in_default-clause-answer
returns-in_default-clause-answer c =
    let s = c.args.tree.now in
    let levels = c.args.layout.now in
    told_as c.args.arena.now levels (λ w. true) (λ w. is_active s w c.args.node) c.constant.result
    (λ values. sym (top_active s c.requires.checked c.args.node (world_of levels.spec levels.slots values) c.requires.node c.in_default.ensures))
    c.constant.ensures

pub bounds-before-outer : goal.bounds-before-outer
bounds-before-outer c =
    let less = around_before c.args.tree.now c.requires.checked c.args.node c.in-Some.outer c.requires.node c.in-Some.ensures in
    omega (arith, less, c.requires.many)

pub returns-in_default-component_of-clause-answer : goal.returns-in_default-component_of-clause-answer
returns-in_default-component_of-clause-answer c =
    let s = c.args.tree.now in
    let levels = c.args.layout.now in
    let node = c.args.node in
    let outer = c.in-Some.outer in
    let around = c.index-before-outer.result in
    let less = around_before s c.requires.checked node outer c.requires.node c.in-Some.ensures in
    told_as c.args.arena.now levels (λ w. is_active s w outer) (λ w. is_active s w node) around
    (λ values. sym (same_active s c.requires.checked node outer (world_of levels.spec levels.slots values) c.requires.node c.in-Some.ensures c.in_default-component_of.ensures))
    (c.requires.each outer around (get_item c.args.before.now outer around (omega (arith, less, c.requires.many)) c.index-before-outer.is))

pub where_chosen-requires-clause-component : goal.where_chosen-requires-clause-component
where_chosen-requires-clause-component c =
    let s = c.args.tree.now in
    let t = told (components s) (component_at (states s) c.in-Some.outer) c.in-Some-component_of.component c.in-Some-component_of.ensures in
    get_within (components s) c.in-Some-component_of.component t.0 t.2

pub and-requires-clause-f_ref : goal.and-requires-clause-f_ref
and-requires-clause-f_ref c =
    let s = c.args.tree.now in
    let outer = c.in-Some.outer in
    let around = c.index-before-outer.result in
    let less = around_before s c.requires.checked c.args.node outer c.requires.node c.in-Some.ensures in
    let told_around = c.requires.each outer around (get_item c.args.before.now outer around (omega (arith, less, c.requires.many)) c.index-before-outer.is) in
    (tells_keeps c.args.arena.now c.where_chosen.new.arena c.args.layout.now (λ w. is_active s w outer) around c.where_chosen.ensures.keeps told_around).is_ref

pub returns-clause-answer : goal.returns-clause-answer
returns-clause-answer c =
    let s = c.args.tree.now in
    let levels = c.args.layout.now in
    let node = c.args.node in
    let outer = c.in-Some.outer in
    let component = c.in-Some-component_of.component in
    let around = c.index-before-outer.result in
    let chosen = c.in_ok-chosen.chosen in
    let between = c.where_chosen.new.arena in
    let last = c.and.new.self in
    let less = around_before s c.requires.checked node outer c.requires.node c.in-Some.ensures in
    let told_around = c.requires.each outer around (get_item c.args.before.now outer around (omega (arith, less, c.requires.many)) c.index-before-outer.is) in
    IfOk-weaker c.and.result (Represents last (λ values. meaning between around values && meaning between chosen values)) (Tells last levels (λ w. is_active s w node))
    (λ r h. told_both between last levels (λ w. is_active s w outer) (λ w. has_child s w component node) (λ w. is_active s w node) around chosen r
    (λ values. both_active s c.requires.checked node outer component (world_of levels.spec levels.slots values) c.requires.node c.in-Some.ensures c.in-Some-component_of.ensures (c.requires.choices values))
    (tells_keeps c.args.arena.now between levels (λ w. is_active s w outer) around c.where_chosen.ensures.keeps told_around) c.in_ok-chosen.ensures.answer h)
    c.and.ensures.answer
