use Rattle.std.proofs.Common.{◌≡◌, ◌<◌, ◌≤◌, length, Some, refl, sym, ap, ◌∙◌, subst, slice_get, arith, rules}
use Rattle.rsml_syntax.specs.declared.syntax.Spec.{Spec}
use Rattle.rsml_meaning.specs.Findings.{IsVerdict}
use Rattle.rsml_meaning.specs.Groups.{Group, groups}
use Rattle.elaborate.specs.Machine.{GroundMachine}
use Rattle.guard_encode.proofs.StepLemmas.{keeps_on}
use Rattle.finding_texts.specs.Verdicts.{verdict_of}
use Rattle.group_verdicts.proofs.ListLemmas.{found_all, found_more}
use Rattle.group_verdicts.proofs.found.verdicts_by.Goals as goal

pub loop-group-init : goal.loop-group-init
loop-group-init c = record {
  keeps = search rules;
  counts = c.in_ok-counts.ensures c.args.encoder.now (sym c.machine-machine.ensures);
  so_far = search rules;
}

pub verdict-requires-clause-group : goal.verdict-requires-clause-group
verdict-requires-clause-group c =
    let m = c.args.encoder.now.machine in
    let many = ap (λ (t : Spec). length (groups t)) c.groups.ensures in
    let same = ap (λ (n : GroundMachine). length (groups n.base.spec)) c.machine-machine.ensures in
    let less : c.loop-group.group < length (groups m.base.spec) = omega (arith, c.loop-group-test.true, c.count-group-end.ensures, many, same) in
    subst (λ (n : GroundMachine). c.loop-group.group < length (groups n.base.spec)) (sym c.loop-group.invariant.keeps.machine) less

pub loop-group-preserved : goal.loop-group-preserved
loop-group-preserved c =
    let first = c.args.encoder.now in
    let s = first.machine.base.spec in
    let many = ap (λ (t : Spec). length (groups t)) c.groups.ensures in
    let same = ap (λ (n : GroundMachine). length (groups n.base.spec)) c.machine-machine.ensures in
    let less : c.loop-group.group < length (groups s) = omega (arith, c.loop-group-test.true, c.count-group-end.ensures, many, same) in
    let keeps = keeps_on first c.loop-group.encoder c.verdict.new.encoder c.loop-group.invariant.keeps c.in_ok-verdict.ensures.keeps in
    let here : (g : Group) → slice_get (groups s) c.loop-group.group ≡ Some g → IsVerdict s g (verdict_of c.in_ok-verdict.field-0) =
    subst (λ (m : GroundMachine). (g : Group) → slice_get (groups m.base.spec) c.loop-group.group ≡ Some g → IsVerdict m.base.spec g (verdict_of c.in_ok-verdict.field-0)) keeps.machine c.in_ok-verdict.ensures.found in
    record {
      keeps = keeps;
      counts = c.in_ok-verdict.ensures.counts;
      so_far = found_more (IsVerdict s) verdict_of (groups s) c.loop-group.verdicts.items c.push.new.self.items c.loop-group.group c.in_ok-verdict.field-0 less c.loop-group.invariant.so_far c.in_ok-push.ensures.items here;
    }

pub returns-clause-found : goal.returns-clause-found
returns-clause-found c =
    let s = c.args.encoder.now.machine.base.spec in
    let many = ap (λ (t : Spec). length (groups t)) c.groups.ensures in
    let same = ap (λ (n : GroundMachine). length (groups n.base.spec)) c.machine-machine.ensures in
    let past : length (groups s) ≤ c.loop-group.group = omega (arith, c.loop-group-test.false, c.count-group-end.ensures, many, same) in
    found_all (IsVerdict s) (groups s) _ c.loop-group.group past c.loop-group.invariant.so_far
