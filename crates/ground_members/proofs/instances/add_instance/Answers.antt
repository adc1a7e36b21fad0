use Rattle.std.proofs.Common.{◌<◌, ap, ◌∙◌, length, subst, sym, arith}
use Rattle.std.proofs.lemmas.List.{length-map}
use Rattle.rsml_meaning.specs.Instances.{globals_of}
use Rattle.rsml_meaning.specs.Interfaces.{new_send_case}
use Rattle.ground_members.specs.Members.{SendCaseIs}
use Rattle.ground_members.specs.Scoped.{CaseIsScoped}
use Rattle.ground_members.specs.This.{case_has_this}
use Rattle.ground_members.proofs.Grown.{case_turn, each_numbered, grown_starts, length_numbered, some_sent, zip_numbered}
use Rattle.ground_members.proofs.Staying.{case_stays, keeps_both}
use Rattle.ground_members.proofs.instances.add_instance.Goals as goal

pub send_number-number-requires : goal.send_number-number-requires
send_number-number-requires c =
    let s = c.args.lookup.now in
    let x = c.args.send.now in
    some_sent s (globals_of s) x.name.now x.fields.now x.cases.now c.args.index c.is_empty.result c.requires.scoped c.is_empty.ensures c.if-is_empty.false

pub loop-place-init : goal.loop-place-init
loop-place-init c = grown_starts c.args.lookup.now c.args.definitions.now c.args.phrases.now c.args.cases.now.items c.requires.before

pub bounds-these-place : goal.bounds-these-place
bounds-these-place c =
    let e = ap length c.requires.these ∙ length-map c.args.send.now.cases.now case_has_this in
    subst (λ n. c.loop-place.place < n) (sym e) c.loop-place-test.true

pub bounds-first-place : goal.bounds-first-place
bounds-first-place c =
    let s = c.args.lookup.now in
    let x = c.args.send.now in
    let e = length_numbered (SendCaseIs c.args.phrases.now s) (new_send_case (globals_of s) x.name.now x.fields.now 1) 1 x.cases.now c.args.first.now c.requires.first in
    subst (λ n. c.loop-place.place < n) (sym e) c.loop-place-test.true

pub case_like-requires-clause-scoped : goal.case_like-requires-clause-scoped
case_like-requires-clause-scoped c =
    let s = c.args.lookup.now in
    let x = c.args.send.now in
    let e = c.in_ok-ordinal_of.ensures in
    each_numbered (CaseIsScoped s) (new_send_case (globals_of s) x.name.now x.fields.now c.args.index) 1 c.in_ok-ordinal_of.field-0 x.cases.now c.loop-place.place c.case-item.result c.requires.scoped c.loop-place-test.true c.case-item.is (omega (arith, e))

pub case_like-requires-clause-first : goal.case_like-requires-clause-first
case_like-requires-clause-first c =
    let s = c.args.lookup.now in
    let x = c.args.send.now in
    let e = c.in_ok-ordinal_of.ensures in
    let f = new_send_case (globals_of s) x.name.now x.fields.now 1 in
    case_stays c.args.phrases.now c.loop-place.phrases s c.loop-place.invariant.keeps (f (c.in_ok-ordinal_of.field-0, c.case-item.result)) c.index-first-place.result
    (zip_numbered (SendCaseIs c.args.phrases.now s) f 1 c.in_ok-ordinal_of.field-0 x.cases.now c.args.first.now c.loop-place.place c.case-item.result c.index-first-place.result c.requires.first c.loop-place-test.true c.case-item.is c.index-first-place.is (omega (arith, e)))

pub returns-in_err-case_like-clause-kept : goal.returns-in_err-case_like-clause-kept
returns-in_err-case_like-clause-kept c = keeps_both c.args.phrases.now c.loop-place.phrases c.case_like.new.phrases c.loop-place.invariant.keeps c.case_like.ensures.kept

pub returns-in_err-push-clause-kept : goal.returns-in_err-push-clause-kept
returns-in_err-push-clause-kept c = keeps_both c.args.phrases.now c.loop-place.phrases c.case_like.new.phrases c.loop-place.invariant.keeps c.case_like.ensures.kept

pub loop-place-preserved : goal.loop-place-preserved
loop-place-preserved c =
    let s = c.args.lookup.now in
    let x = c.args.send.now in
    case_turn s c.args.definitions.now (globals_of s) x.name.now x.fields.now x.cases.now c.args.index c.loop-place.place c.in_ok-ordinal_of.field-0 c.case-item.result c.in_ok-case_like.field-0
    c.args.phrases.now c.loop-place.phrases c.case_like.new.phrases c.args.cases.now.items c.loop-place.cases.items c.push.new.self.items c.loop-place.invariant c.loop-place-test.true c.case-item.is c.in_ok-ordinal_of.ensures
    c.case_like.ensures.after c.case_like.ensures.kept c.in_ok-case_like.ensures.is c.in_ok-push.ensures.items
