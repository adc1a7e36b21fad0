use Rattle.std.proofs.Common.{◌<◌, ◌≤◌, length, ap, sym, ◌∙◌, subst, arith}
use Rattle.rsml_syntax.specs.declared.syntax.Spec.{Spec}
use Rattle.rsml_meaning.specs.Groups.{groups}
use Rattle.elaborate.specs.Machine.{GroundMachine}
use Rattle.state_tree.proofs.Lists.{get_item}
use Rattle.finding_texts.specs.Verdicts.{TellsWorld}
use Rattle.text_writer.proofs.WritingLemmas.{alike}
use Rattle.analysis.proofs.Judged.{verdicts_long, tells_world}
use Rattle.analysis.proofs.Written.{group_written, all_written}
use Rattle.analysis.proofs.finding_lines.put_findings.Goals as goal

pub bounds-verdicts-group : goal.bounds-verdicts-group
bounds-verdicts-group g c =
    let s = c.args.findings.now.base.spec in
    let long = verdicts_long s (groups s) c.args.verdicts.now c.requires.verdicts in
    omega (arith, long)

pub put-requires-clause-group : goal.put-requires-clause-group
put-requires-clause-group g c =
    let same = ap (λ (m : GroundMachine). length (groups m.base.spec)) c.loop-group.invariant.same in
    omega (arith, same)

pub put-requires-clause-world : goal.put-requires-clause-world
put-requires-clause-world g c =
    let s = c.args.findings.now.base.spec in
    let vs = c.args.verdicts.now in
    let long = verdicts_long s (groups s) vs c.requires.verdicts in
    let here = get_item vs c.loop-group.group c.index-verdicts-group.result (omega (arith, long)) c.index-verdicts-group.is in
    subst (λ (t : Spec). TellsWorld t c.index-verdicts-group.result) (sym (ap (λ (m : GroundMachine). m.base.spec) c.loop-group.invariant.same))
    (tells_world s (groups s) vs c.loop-group.group c.index-verdicts-group.result c.requires.verdicts here)

pub loop-group-preserved : goal.loop-group-preserved
loop-group-preserved g c =
    let s = c.args.findings.now.base.spec in
    let vs = c.args.verdicts.now in
    let i = c.loop-group.group in
    let v = c.index-verdicts-group.result in
    let long = verdicts_long s (groups s) vs c.requires.verdicts in
    let within : i < length (groups s) = omega arith in
    let here = get_item vs i v (omega (arith, long)) c.index-verdicts-group.is in
    record {
      same = c.put.ensures.same ∙ c.loop-group.invariant.same;
      text = group_written s c.loop-group.findings.base.spec vs i v (ap (λ (m : GroundMachine). m.base.spec) c.loop-group.invariant.same) within here c.loop-group.invariant.text c.put.ensures.text;
    }

pub returns : goal.returns
returns g c =
    let s = c.args.findings.now.base.spec in
    let end : length (groups s) ≤ c.loop-group.group = omega arith in
    alike (all_written s c.args.verdicts.now c.loop-group.group end) c.loop-group.invariant.text
