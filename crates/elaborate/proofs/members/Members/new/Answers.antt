use Rattle.std.proofs.Common.{◌<◌, List, map, sym, subst, arith}
use Rattle.std.specs.List.{All}
use Rattle.ground_members.specs.declared.transitions.GroundTransition.{GroundTransition}
use Rattle.ground_members.specs.declared.send_cases.GroundSendCase.{GroundSendCase}
use Rattle.elaborate.proofs.MemberLemmas.{transition_events, case_events, all_stored}
use Rattle.elaborate.proofs.members.Members.new.Goals as goal

pub new-requires : goal.new-requires
new-requires c = c.requires.stands.grounded

pub transitions_on-requires : goal.transitions_on-requires
transitions_on-requires c =
    subst (λ (xs : List GroundTransition). All (λ x. x.event < c.args.events) xs) (sym c.as_slice.ensures.value)
    (transition_events c.args.written.phrases c.args.spec.now c.args.events c.args.written.transitions.items c.requires.events c.requires.stands.transitions_are)

pub cases_on-requires : goal.cases_on-requires
cases_on-requires c =
    subst (λ (xs : List GroundSendCase). All (λ x. x.event < c.args.events) xs) (sym c.as_slice-2.ensures.value)
    (case_events c.args.written.phrases c.args.spec.now c.args.events c.args.written.send_cases.items c.requires.events c.requires.stands.cases_are)

pub invariant_of-result : goal.invariant_of-result
invariant_of-result c =
    let w = c.args.written in
    all_stored c.args.spec.now w.phrases w.definitions.items w.transitions.items c.as_slice.result.now w.send_cases.items c.as_slice-2.result.now
    c.in_ok-macros.macros c.in_ok-count.count (map (λ l. l.items) c.in_ok-on.on.items) c.in_ok-case_count.case_count (map (λ l. l.items) c.in_ok-cases_on.cases_on.items) c.args.events
    c.requires.stands c.in_ok-macros.ensures c.requires.events (omega (arith, c.in_ok-count.ensures, c.len.ensures, w.transitions.ok.0)) (omega (arith, c.in_ok-case_count.ensures, c.len-2.ensures, w.send_cases.ok.0))
    c.as_slice.ensures.value c.as_slice-2.ensures.value c.in_ok-on.ensures c.in_ok-cases_on.ensures
