use Rattle.std.proofs.Common.{length, ap, ◌∙◌, subst, arith}
use Rattle.rsml_syntax.specs.declared.syntax.Spec.{Spec}
use Rattle.rsml_meaning.specs.Instances.{events}
use Rattle.rsml_meaning.specs.Groups.{groups}
use Rattle.event_chains.specs.Found.{AreLooping, AreClashes, AreExternals}
use Rattle.analysis.proofs.Judged.{verdicts_long}
use Rattle.analysis.proofs.Whole.{report_is, certified_is, loops_few, clashes_few}
use Rattle.analysis.proofs.reporting.report.Goals as goal

pub refusals-refusals-requires-clause-loops : goal.refusals-refusals-requires-clause-loops
refusals-refusals-requires-clause-loops c =
    let s = c.args.checked.now in
    let looping = subst (λ (t : Spec). AreLooping t c.loops.result.now) c.requires.chains c.loops.ensures in
    let clashing = subst (λ (t : Spec). AreClashes t c.clashes.result.now) c.requires.chains c.clashes.ensures in
    let count = c.events.ensures.count ∙ ap (λ (t : Spec). length (events t)) c.requires.machine in
    omega (arith, c.events.ensures.few, count, loops_few s c.loops.result.now c.clashes.result.now c.args.verdicts.now looping clashing c.requires.verdicts)

pub refusals-refusals-requires-clause-clashes : goal.refusals-refusals-requires-clause-clashes
refusals-refusals-requires-clause-clashes c =
    let s = c.args.checked.now in
    let looping = subst (λ (t : Spec). AreLooping t c.loops.result.now) c.requires.chains c.loops.ensures in
    let clashing = subst (λ (t : Spec). AreClashes t c.clashes.result.now) c.requires.chains c.clashes.ensures in
    let count = c.events.ensures.count ∙ ap (λ (t : Spec). length (events t)) c.requires.machine in
    omega (arith, c.events.ensures.few, count, clashes_few s c.loops.result.now c.clashes.result.now c.args.verdicts.now looping clashing c.requires.verdicts)

pub refusals-refusals-requires-clause-verdicts : goal.refusals-refusals-requires-clause-verdicts
refusals-refusals-requires-clause-verdicts c =
    let s = c.args.checked.now in
    let count = c.count.ensures ∙ ap (λ (t : Spec). length (groups t)) (c.groups.ensures ∙ c.requires.machine) in
    omega (arith, count, verdicts_long s (groups s) c.args.verdicts.now c.requires.verdicts)

pub text_of-requires-clause-groups : goal.text_of-requires-clause-groups
text_of-requires-clause-groups c = c.count.ensures ∙ ap (λ (t : Spec). length (groups t)) (c.groups.ensures ∙ c.requires.machine)

pub returns-clause-text : goal.returns-clause-text
returns-clause-text c =
    let s = c.args.checked.now in
    let looping = subst (λ (t : Spec). AreLooping t c.loops.result.now) c.requires.chains c.loops.ensures in
    let clashing = subst (λ (t : Spec). AreClashes t c.clashes.result.now) c.requires.chains c.clashes.ensures in
    let external = subst (λ (t : Spec). AreExternals t c.externals.result.now) c.requires.chains c.externals.ensures in
    report_is s c.loops.result.now c.clashes.result.now c.args.verdicts.now looping clashing c.requires.verdicts c.externals.result.now external
    c.in_ok-text.text.items c.refusals-refusals.result c.refusals-refusals.ensures c.in_ok-text.ensures

pub returns-clause-certified : goal.returns-clause-certified
returns-clause-certified c =
    let s = c.args.checked.now in
    let looping = subst (λ (t : Spec). AreLooping t c.loops.result.now) c.requires.chains c.loops.ensures in
    let clashing = subst (λ (t : Spec). AreClashes t c.clashes.result.now) c.requires.chains c.clashes.ensures in
    certified_is s c.loops.result.now c.clashes.result.now c.args.verdicts.now looping clashing c.requires.verdicts c.spec.ensures.checked c.none_found_is_none.ensures
    c.refusals-refusals.result c.refusals-refusals.ensures
