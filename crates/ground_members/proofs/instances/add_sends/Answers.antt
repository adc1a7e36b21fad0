use Rattle.std.proofs.Common.{flat_map, append-nil, ap, ◌∙◌, sym, subst}
use Rattle.std.specs.Option.{option_copied}
use Rattle.std.proofs.lemmas.Result.{on_ok_weaker}
use Rattle.rsml_syntax.specs.rules.Globals.{indices}
use Rattle.rsml_meaning.specs.Words.{Each}
use Rattle.rsml_meaning.specs.Instances.{globals_of}
use Rattle.ground_members.specs.CaseLists.{AddsCases, cases_at}
use Rattle.ground_members.specs.Scoped.{CaseIsScoped}
use Rattle.ground_members.proofs.instances.add_sends.Goals as goal

pub add_single-requires-clause-scoped : goal.add_single-requires-clause-scoped
add_single-requires-clause-scoped c =
    let s = c.args.lookup.now in
    let f = cases_at (globals_of s) c.args.send.now in
    subst (Each (CaseIsScoped s)) (ap (λ o. flat_map f (indices (globals_of s) (option_copied o))) c.in-None.is ∙ append-nil (f 0)) c.requires.scoped

pub returns-in-None-clause-are : goal.returns-in-None-clause-are
returns-in-None-clause-are c =
    let s = c.args.lookup.now in
    let f = cases_at (globals_of s) c.args.send.now in
    on_ok_weaker c.add_single.result
    (subst (λ cs. AddsCases c.add_single.new.phrases s cs c.args.cases.now.items c.add_single.new.cases.items) (sym (ap (λ o. flat_map f (indices (globals_of s) (option_copied o))) c.in-None.is ∙ append-nil (f 0))))
    c.add_single.ensures.are
