use Rattle.std.proofs.Common.{◌<◌, ◌≤◌, List, length, flat_map, ap, ◌∙◌, arith}
use Rattle.rsml_syntax.specs.declared.syntax.Spec.{Spec}
use Rattle.rsml_meaning.specs.Groups.{Group, groups}
use Rattle.state_tree.proofs.Lists.{get_item, within_get}
use Rattle.text_writer.proofs.WritingLemmas.{alike}
use Rattle.finding_texts.proofs.Pairs.{pair_more, all_pairs}
use Rattle.world_columns.specs.declared.group.GroupGaps.{GroupGaps}
use Rattle.gap_texts.specs.GapText.{group_gaps_text}
use Rattle.gap_texts.proofs.gap_groups.put_groups.Goals as goal

pub bounds-told-group : goal.bounds-told-group
bounds-told-group g c =
    let count = c.count-group-end.ensures ∙ ap (λ (t : Spec). length (groups t)) c.groups.ensures in
    let long = c.requires.groups.long in
    omega (arith, count, long, c.loop-group-test.true)

pub put_group-requires-clause-group : goal.put_group-requires-clause-group
put_group-requires-clause-group g c =
    let count = c.count-group-end.ensures ∙ ap (λ (t : Spec). length (groups t)) c.groups.ensures in
    omega (arith, count, c.loop-group-test.true)

pub put_group-requires-clause-columns : goal.put_group-requires-clause-columns
put_group-requires-clause-columns g c =
    let count = c.count-group-end.ensures ∙ ap (λ (t : Spec). length (groups t)) c.groups.ensures in
    let long = c.requires.groups.long in
    let x = c.index-told-group.result in
    c.requires.groups.each c.loop-group.group x (get_item c.args.told.now c.loop-group.group x (omega (arith, count, long, c.loop-group-test.true)) c.index-told-group.is)

pub loop-group-preserved : goal.loop-group-preserved
loop-group-preserved g c =
    let s = c.args.machine.now.base.spec in
    let gs = c.args.told.now in
    let k = c.loop-group.group in
    let x = c.index-told-group.result in
    let count = c.count-group-end.ensures ∙ ap (λ (t : Spec). length (groups t)) c.groups.ensures in
    let long = c.requires.groups.long in
    let within : k < length (groups s) = omega (arith, count, c.loop-group-test.true) in
    let d = within_get (groups s) k within in
    let there = get_item gs k x (omega (arith, within, long)) c.index-told-group.is in
    pair_more (group_gaps_text s) (groups s) gs k d.0 x d.1 there c.loop-group.invariant (c.put_group.ensures d.0 d.1)

pub returns : goal.returns
returns g c =
    let s = c.args.machine.now.base.spec in
    let count = c.count-group-end.ensures ∙ ap (λ (t : Spec). length (groups t)) c.groups.ensures in
    let all : length (groups s) ≤ c.loop-group.group = omega (arith, count, c.loop-group-test.false) in
    alike (ap (λ (zs : List (Group × GroupGaps)). flat_map (group_gaps_text s) zs) (all_pairs c.loop-group.group (groups s) c.args.told.now all)) c.loop-group.invariant
