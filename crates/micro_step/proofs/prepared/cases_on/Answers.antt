use Rattle.std.proofs.Common.{◌==◌, get_or, refl, ◌∙◌}
use Rattle.elaborate.specs.Enabled.{is_sending}
use Rattle.micro_step.proofs.CandidateLemmas.{for_none, for_more, for_all}
use Rattle.micro_step.proofs.LoopLemmas.{on_event, listed_below}
use Rattle.micro_step.proofs.prepared.cases_on.Goals as goal

pub loop-number-init : goal.loop-number-init
loop-number-init c =
    let m = c.args.machine.now in
    for_none m (is_sending m) m.send_cases c.cases_on-numbers.result.now c.in_ok-candidates.candidates.items c.in_ok-candidates.ensures.items

pub of_case-requires : goal.of_case-requires
of_case-requires c =
    let xs = c.args.machine.now.send_cases in
    let ks = c.cases_on-numbers.result.now in
    listed_below (λ x. x.event == c.args.event) xs ks c.loop-number.number-index (get_or ks c.loop-number.number-index 0)
    (c.cases_on-numbers.ensures ∙ on_event (λ x. x.event) c.args.event 0 xs) c.loop-number-test.true refl

pub loop-number-preserved : goal.loop-number-preserved
loop-number-preserved c =
    let m = c.args.machine.now in
    let ks = c.cases_on-numbers.result.now in
    for_more m (is_sending m) m.send_cases ks c.loop-number.number-index (get_or ks c.loop-number.number-index 0) c.loop-number.candidates.items _ c.in_ok-of_case.field-0
    c.loop-number-test.true refl c.in_ok-of_case.ensures.number c.in_ok-of_case.ensures.tells c.in_ok-push.ensures.items c.loop-number.invariant

pub returns : goal.returns
returns c =
    let m = c.args.machine.now in
    rw (← c.cases_on-numbers.ensures) (for_all m (is_sending m) m.send_cases c.cases_on-numbers.result.now c.loop-number.number-index c.loop-number.candidates.items c.loop-number-test.false c.loop-number.invariant)
