use Rattle.std.proofs.Common.{ℕ, ◌<◌, ◌≤◌, List, length, get_or, flat_map, ap, arith}
use Rattle.rsml_meaning.specs.Instances.{Component, components}
use Rattle.rsml_meaning.specs.Report.{choice_line}
use Rattle.text_writer.proofs.WritingLemmas.{alike}
use Rattle.finding_texts.proofs.Chosen.{chosen_at, has_child}
use Rattle.finding_texts.proofs.Pairs.{pair_more, all_pairs}
use Rattle.finding_texts.proofs.choices.put_choices.Goals as goal

pub bounds-choices-component : goal.bounds-choices-component
bounds-choices-component g c =
    let l : c.loop-component.component < length (components c.args.tree.now) = omega arith in
    let x = chosen_at c.args.tree.now c.args.choices.now c.loop-component.component c.requires l in
    x.within

pub put_choice-requires : goal.put_choice-requires
put_choice-requires g c =
    let l : c.loop-component.component < length (components c.args.tree.now) = omega arith in
    has_child c.args.tree.now c.args.choices.now c.loop-component.component c.requires l

pub loop-component-preserved : goal.loop-component-preserved
loop-component-preserved g c =
    let s = c.args.tree.now in
    let k = c.loop-component.component in
    let l : k < length (components s) = omega arith in
    let x = chosen_at s c.args.choices.now k c.requires l in
    pair_more choice_line (components s) c.args.choices.now k x.component (get_or c.args.choices.now k 0) x.there x.beside c.loop-component.invariant (c.put_choice.ensures x.component x.there)

pub returns : goal.returns
returns g c =
    let s = c.args.tree.now in
    let all : length (components s) ≤ c.loop-component.component = omega arith in
    alike (ap (λ (zs : List (Component × ℕ)). flat_map choice_line zs) (all_pairs c.loop-component.component (components s) c.args.choices.now all)) c.loop-component.invariant
