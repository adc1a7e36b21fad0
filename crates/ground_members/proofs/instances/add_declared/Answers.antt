use Rattle.std.proofs.Common.{sym, subst}
use Rattle.std.proofs.lemmas.Result.{on_ok_weaker}
use Rattle.rsml_meaning.specs.Instances.{globals_of}
use Rattle.ground_members.specs.CaseLists.{AddsCases}
use Rattle.ground_members.proofs.Grown.{no_cases, none_more, sends_made}
use Rattle.ground_members.proofs.instances.add_declared.Goals as goal

pub returns-in-Send-clause-are : goal.returns-in-Send-clause-are
returns-in-Send-clause-are c =
    let s = c.args.lookup.now in
    on_ok_weaker c.add_sends.result
    (subst (λ cs. AddsCases c.add_sends.new.phrases s cs c.args.cases.now.items c.add_sends.new.cases.items)
    (sends_made (globals_of s) c.args.decl.now c.in-Send.name c.in-Send.size _ c.in-Send.fields c.as_slice.result.now c.in-Send.written c.as_slice-in-Send.result.now c.in-Send.is c.as_slice.ensures c.as_slice-in-Send.ensures c.as_ref.ensures.value))
    c.add_sends.ensures.are

pub returns-in_default : goal.returns-in_default
returns-in_default c =
    let s = c.args.lookup.now in
    let old = c.args.cases.now.items in
    let ps = c.args.phrases.now in
    record {
      after = c.requires.before;
      kept = λ k p h. h;
      are = subst (λ cs. AddsCases ps s cs old old) (sym (no_cases (globals_of s) c.args.decl.now c.in_default.not-Send)) (none_more ps s old);
    }
