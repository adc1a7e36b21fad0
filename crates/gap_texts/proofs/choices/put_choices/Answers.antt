use Rattle.std.proofs.Common.{ℕ, ◌<◌, ◌≤◌, List, Option, None, length, get_or, flat_map, ap, arith}
use Rattle.std.proofs.lemmas.Option.{slice_get-get_or}
use Rattle.rsml_meaning.specs.Instances.{Component, components}
use Rattle.state_tree.proofs.Lists.{within_get}
use Rattle.text_writer.proofs.WritingLemmas.{alike}
use Rattle.finding_texts.proofs.Pairs.{pair_more, all_pairs}
use Rattle.gap_texts.specs.GapText.{choice_row}
use Rattle.gap_texts.proofs.choices.put_choices.Goals as goal

pub bounds-children-component : goal.bounds-children-component
bounds-children-component g c = let long = c.requires.long in omega (arith, long)

pub put_choice-requires : goal.put_choice-requires
put_choice-requires g c =
    let long = c.requires.long in
    let k = c.loop-component.component in
    let x = get_or c.args.children.now k None in
    c.requires.each k x (slice_get-get_or c.args.children.now k None (omega (arith, long)))

pub loop-component-preserved : goal.loop-component-preserved
loop-component-preserved g c =
    let s = c.args.tree.now in
    let k = c.loop-component.component in
    let x = get_or c.args.children.now k None in
    let long = c.requires.long in
    let within : k < length (components s) = omega arith in
    let d = within_get (components s) k within in
    let there = slice_get-get_or c.args.children.now k None (omega (arith, long, within)) in
    pair_more choice_row (components s) c.args.children.now k d.0 x d.1 there c.loop-component.invariant (c.put_choice.ensures d.0 d.1)

pub returns : goal.returns
returns g c =
    let s = c.args.tree.now in
    let all : length (components s) ≤ c.loop-component.component = omega arith in
    alike (ap (λ (zs : List (Component × Option ℕ)). flat_map choice_row zs) (all_pairs c.loop-component.component (components s) c.args.children.now all)) c.loop-component.invariant
