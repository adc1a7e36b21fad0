use Rattle.std.proofs.Common.{[], arith}
use Rattle.rsml_meaning.specs.Instances.{globals_of}
use Rattle.rsml_meaning.specs.Interfaces.{new_send_case}
use Rattle.ground_members.specs.Scoped.{CaseIsScoped}
use Rattle.ground_members.proofs.Grown.{case_turn, each_numbered}
use Rattle.ground_members.proofs.Staying.{keeps_both}
use Rattle.ground_members.proofs.instances.cases_of.Goals as goal

pub send_case-requires-clause-scoped : goal.send_case-requires-clause-scoped
send_case-requires-clause-scoped c =
    let s = c.args.lookup.now in
    let x = c.args.send.now in
    let e = c.in_ok-ordinal_of.ensures in
    each_numbered (CaseIsScoped s) (new_send_case (globals_of s) x.name.now x.fields.now c.args.index) 1 c.in_ok-ordinal_of.field-0 x.cases.now c.loop-place.place c.case-item.result c.requires.scoped c.loop-place-test.true c.case-item.is (omega (arith, e))

pub returns-in_err-send_case-clause-kept : goal.returns-in_err-send_case-clause-kept
returns-in_err-send_case-clause-kept c = keeps_both c.args.phrases.now c.loop-place.phrases c.send_case.new.phrases c.loop-place.invariant.keeps c.send_case.ensures.kept

pub returns-in_err-push-clause-kept : goal.returns-in_err-push-clause-kept
returns-in_err-push-clause-kept c = keeps_both c.args.phrases.now c.loop-place.phrases c.send_case.new.phrases c.loop-place.invariant.keeps c.send_case.ensures.kept

pub loop-place-preserved : goal.loop-place-preserved
loop-place-preserved c =
    let s = c.args.lookup.now in
    let x = c.args.send.now in
    case_turn s c.args.definitions.now (globals_of s) x.name.now x.fields.now x.cases.now c.args.index c.loop-place.place c.in_ok-ordinal_of.field-0 c.case-item.result c.in_ok-send_case.field-0
    c.args.phrases.now c.loop-place.phrases c.send_case.new.phrases [] c.loop-place.cases.items c.push.new.self.items c.loop-place.invariant c.loop-place-test.true c.case-item.is c.in_ok-ordinal_of.ensures
    c.send_case.ensures.after c.send_case.ensures.kept c.in_ok-send_case.ensures.is c.in_ok-push.ensures.items
