use Rattle.std.proofs.Common.{◌≡◌, [], flat_map, Some, slice_get, ap, ◌∙◌, sym, subst}
use Rattle.rsml_syntax.specs.declared.syntax.Spec.{Spec}
use Rattle.rsml_meaning.specs.Words.{Each}
use Rattle.rsml_meaning.specs.Instances.{globals_of}
use Rattle.rsml_meaning.specs.Interfaces.{send_cases_of}
use Rattle.state_tree.proofs.Lists.{get_item}
use Rattle.phrase_builder.proofs.Declared.{sizes_few}
use Rattle.ground_members.specs.Scoped.{CaseIsScoped}
use Rattle.ground_members.proofs.Grown.{decl_turn}
use Rattle.ground_members.proofs.Lists.{each_of_flat}
use Rattle.ground_members.proofs.Rules.{cases_scoped}
use Rattle.ground_members.proofs.Staying.{keeps_both}
use Rattle.ground_members.proofs.send_cases.ground_send_cases.Goals as goal

pub add_declared-requires-clause-few : goal.add_declared-requires-clause-few
add_declared-requires-clause-few c =
    let s = c.args.lookup.now in
    let decls = c.as_slice-decls.result.now in
    let i = c.loop-decl.decl-index in
    let d = c.decl-item.result in
    sizes_few s c.requires.before.checked i d
    (subst (λ ds. slice_get ds i ≡ Some d) (c.as_slice-decls.ensures ∙ ap (λ (z : Spec). z.decls) c.spec.ensures.same) (get_item decls i d c.loop-decl-test.true c.decl-item.is))

pub add_declared-requires-clause-scoped : goal.add_declared-requires-clause-scoped
add_declared-requires-clause-scoped c =
    let s = c.args.lookup.now in
    each_of_flat (CaseIsScoped s) (send_cases_of (globals_of s)) c.as_slice-decls.result.now c.loop-decl.decl-index c.decl-item.result
    (subst (λ ds. Each (CaseIsScoped s) (flat_map (send_cases_of (globals_of s)) ds)) (sym (c.as_slice-decls.ensures ∙ ap (λ (z : Spec). z.decls) c.spec.ensures.same)) (cases_scoped s c.requires.before.checked c.requires.before.short))
    c.loop-decl-test.true c.decl-item.is

pub returns-in_err-add_declared-clause-kept : goal.returns-in_err-add_declared-clause-kept
returns-in_err-add_declared-clause-kept c = keeps_both c.args.phrases.now c.loop-decl.phrases c.add_declared.new.phrases c.loop-decl.invariant.keeps c.add_declared.ensures.kept

pub loop-decl-preserved : goal.loop-decl-preserved
loop-decl-preserved c =
    let s = c.args.lookup.now in
    decl_turn s c.args.definitions.now (send_cases_of (globals_of s)) c.as_slice-decls.result.now c.loop-decl.decl-index c.decl-item.result c.args.phrases.now c.loop-decl.phrases c.add_declared.new.phrases
    [] c.loop-decl.cases.items c.add_declared.new.cases.items c.loop-decl.invariant c.loop-decl-test.true c.decl-item.is c.add_declared.ensures.after c.add_declared.ensures.kept c.in_ok-add_declared.ensures.are
