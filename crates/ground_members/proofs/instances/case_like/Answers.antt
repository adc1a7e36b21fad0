use Rattle.std.proofs.Common.{◌≡◌, sym, ◌∙◌, subst}
use Rattle.rsml_meaning.specs.Instances.{globals_of}
use Rattle.ground_members.specs.CaseLists.{case_by}
use Rattle.ground_members.specs.Members.{SendCaseIs}
use Rattle.ground_members.specs.Shared.{of_send}
use Rattle.ground_members.proofs.EachInstance.{case_same, ok_so}
use Rattle.ground_members.proofs.instances.case_like.Goals as goal

pub returns-clause-is : goal.returns-clause-is
returns-clause-is c =
    let s = c.args.lookup.now in
    let w = c.args.written.now in
    let ps = c.args.phrases.now in
    ok_so (λ x. x ≡ of_send c.args.number c.args.first.now) (SendCaseIs ps s (case_by (globals_of s) w)) c.like.result
    (λ x e. subst (SendCaseIs ps s (case_by (globals_of s) w)) (sym e)
    (case_same s 1 w.index ps w.name.now w.fields.now w.ordinal w.case.now c.args.first.now c.args.number (sym c.requires.this ∙ c.if-has_this.false) c.requires.number c.requires.first))
    c.like.ensures
