use Rattle.std.proofs.Common.{[], flat_map, subst, sym}
use Rattle.rsml_syntax.specs.rules.Globals.{up_to}
use Rattle.rsml_meaning.specs.Instances.{globals_of}
use Rattle.ground_members.specs.CaseLists.{AddsCases, cases_at}
use Rattle.ground_members.specs.Members.{SendCaseIs}
use Rattle.ground_members.specs.Scoped.{CaseIsScoped}
use Rattle.ground_members.proofs.Grown.{each_up_to, first_up_to, index_turn, none_more}
use Rattle.ground_members.proofs.Lists.{zip_to}
use Rattle.ground_members.proofs.Staying.{case_stays, keeps_both}
use Rattle.ground_members.proofs.instances.add_array.Goals as goal

pub returns-then-count-eq0-clause-are : goal.returns-then-count-eq0-clause-are
returns-then-count-eq0-clause-are c =
    let s = c.args.lookup.now in
    let old = c.args.cases.now.items in
    subst (λ n. AddsCases c.args.phrases.now s (flat_map (cases_at (globals_of s) c.args.send.now) (up_to n)) old old) (sym c.if-count-eq0.true) (none_more c.args.phrases.now s old)

pub cases_of-requires-clause-scoped : goal.cases_of-requires-clause-scoped
cases_of-requires-clause-scoped c = first_up_to (CaseIsScoped c.args.lookup.now) (cases_at (globals_of c.args.lookup.now) c.args.send.now) c.args.count c.requires.scoped c.if-count-eq0.false

pub loop-before-init : goal.loop-before-init
loop-before-init c =
    let s = c.args.lookup.now in
    let ps = c.cases_of.new.phrases in
    let old = c.args.cases.now.items in (
      record {
        grounded = c.cases_of.ensures.after;
        keeps = c.cases_of.ensures.kept;
        adds = subst (AddsCases ps s [] old) (sym c.reserve.ensures.items) (none_more ps s old);
      },
      c.in_ok-first.ensures.are,
    )

pub add_instance-requires-clause-scoped : goal.add_instance-requires-clause-scoped
add_instance-requires-clause-scoped c =
    each_up_to (CaseIsScoped c.args.lookup.now) (cases_at (globals_of c.args.lookup.now) c.args.send.now) c.args.count c.loop-before.before c.requires.scoped c.loop-before-test.true

pub returns-in_err-add_instance-clause-kept : goal.returns-in_err-add_instance-clause-kept
returns-in_err-add_instance-clause-kept c = keeps_both c.args.phrases.now c.loop-before.phrases c.add_instance.new.phrases c.loop-before.invariant.0.keeps c.add_instance.ensures.kept

pub loop-before-preserved : goal.loop-before-preserved
loop-before-preserved c =
    let s = c.args.lookup.now in
    let f = cases_at (globals_of s) c.args.send.now in
    let ps = c.loop-before.phrases in
    let qs = c.add_instance.new.phrases in (
      index_turn s c.args.definitions.now f c.loop-before.before c.args.phrases.now ps qs c.args.cases.now.items c.loop-before.cases.items c.add_instance.new.cases.items
          c.loop-before.invariant.0 c.add_instance.ensures.after c.add_instance.ensures.kept c.in_ok-add_instance.ensures.are,
      zip_to (SendCaseIs ps s) (SendCaseIs qs s) (case_stays ps qs s c.add_instance.ensures.kept) (f 1) c.in_ok-first.first.items c.loop-before.invariant.1,
    )
