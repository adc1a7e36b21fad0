use Rattle.rsml_meaning.specs.Interfaces.{send_cases}
use Rattle.rsml_meaning.specs.Transitions.{transitions}
use Rattle.ground_members.specs.Members.{TransitionIs, SendCaseIs}
use Rattle.coverage.specs.Coverage.{of_transition, of_case}
use Rattle.coverage.proofs.CounterLemmas.{all_new, all_of}
use Rattle.coverage.proofs.counts.Counts.new.Goals as goal

pub invariant_of-result : goal.invariant_of-result
invariant_of-result c =
    let m = c.args.machine.now in
    let s = m.base.spec in
    let ps = m.base.phrases in (
      all_of s ps of_transition (λ x. x.guard) (TransitionIs ps s) (λ t x is. is.guard) (transitions s) m.transitions c.in_ok-transitions.transitions.items c.law.ensures.transitions_are
          c.in_ok-transitions.ensures,
      all_of s ps of_case (λ x. x.guard) (SendCaseIs ps s) (λ t x is. is.guard) (send_cases s) m.send_cases c.in_ok-send_cases.send_cases.items c.law.ensures.cases_are
          c.in_ok-send_cases.ensures,
    )

pub returns : goal.returns
returns c =
    let m = c.args.machine.now in
    let s = m.base.spec in
    let ps = m.base.phrases in
    let ts = all_new s ps of_transition (λ x. x.guard) (TransitionIs ps s) (λ t x is. is.guard) (transitions s) m.transitions c.in_ok-transitions.transitions.items c.law.ensures.transitions_are
    c.in_ok-transitions.ensures in
    let cs = all_new s ps of_case (λ x. x.guard) (SendCaseIs ps s) (λ t x is. is.guard) (send_cases s) m.send_cases c.in_ok-send_cases.send_cases.items c.law.ensures.cases_are
    c.in_ok-send_cases.ensures in
    λ i. record { spec = s; transitions = ts i; send_cases = cs i }
