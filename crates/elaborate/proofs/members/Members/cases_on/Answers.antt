use Rattle.std.proofs.Common.{◌<◌, map, length, subst, ◌∙◌, arith}
use Rattle.std.proofs.lemmas.List.{length-map}
use Rattle.elaborate.specs.Machine.{GroundMachine}
use Rattle.elaborate.specs.Members.{AreMembers}
use Rattle.elaborate.specs.OnEvents.{cases_on}
use Rattle.elaborate.proofs.MemberLemmas.{on_at}
use Rattle.elaborate.proofs.members.Members.cases_on.Goals as goal

pub index-requires : goal.index-requires
index-requires c =
    let x = c.self.inside in
    let m = c.args.self.now in
    let a : AreMembers m x.count (map (λ l. l.items) x.on.items) x.case_count (map (λ l. l.items) x.cases_on.items) =
    subst (λ (z : GroundMachine). AreMembers z x.count (map (λ l. l.items) x.on.items) x.case_count (map (λ l. l.items) x.cases_on.items)) c.self.view_is c.self.invariant in
    omega (arith, c.requires, length-map x.cases_on.items (λ l. l.items), a.cases_on_are.long)

pub returns : goal.returns
returns c =
    let x = c.self.inside in
    let m = c.args.self.now in
    let a : AreMembers m x.count (map (λ l. l.items) x.on.items) x.case_count (map (λ l. l.items) x.cases_on.items) =
    subst (λ (z : GroundMachine). AreMembers z x.count (map (λ l. l.items) x.on.items) x.case_count (map (λ l. l.items) x.cases_on.items)) c.self.view_is c.self.invariant in
    let l : c.args.event < length x.cases_on.items = omega (arith, c.requires, length-map x.cases_on.items (λ l. l.items), a.cases_on_are.long) in
    c.as_slice.ensures.value ∙ on_at _ (λ l. l.items) x.cases_on.items c.args.event c.index.result.now (cases_on m c.args.event) l c.index.ensures (a.cases_on_are.each c.args.event c.requires)
