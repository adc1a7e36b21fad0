use Rattle.std.proofs.Common.{◌==◌, get_or, take, refl, sym, ◌∙◌, subst}
use Rattle.std.specs.List.{All}
use Rattle.elaborate.specs.Enabled.{is_enabled}
use Rattle.micro_step.specs.Candidates.{Fits}
use Rattle.micro_step.proofs.CandidateLemmas.{fits_of, for_none, for_more, for_all}
use Rattle.micro_step.proofs.LoopLemmas.{on_event, listed_below}
use Rattle.micro_step.proofs.prepared.transitions_on.Goals as goal

pub loop-number-init : goal.loop-number-init
loop-number-init c =
    let m = c.args.machine.now in
    for_none m (is_enabled m) m.transitions c.transitions_on-numbers.result.now c.in_ok-candidates.candidates.items c.in_ok-candidates.ensures.items

pub of_transition-requires-clause-earlier : goal.of_transition-requires-clause-earlier
of_transition-requires-clause-earlier c =
    let m = c.args.machine.now in
    let ks = c.transitions_on-numbers.result.now in
    subst (All (Fits m)) (sym c.as_slice.ensures.value) (fits_of m (is_enabled m) m.transitions (take c.loop-number.number-index ks) c.loop-number.candidates.items c.loop-number.invariant)

pub of_transition-requires-clause-number : goal.of_transition-requires-clause-number
of_transition-requires-clause-number c =
    let xs = c.args.machine.now.transitions in
    let ks = c.transitions_on-numbers.result.now in
    listed_below (λ x. x.event == c.args.event) xs ks c.loop-number.number-index (get_or ks c.loop-number.number-index 0)
    (c.transitions_on-numbers.ensures ∙ on_event (λ x. x.event) c.args.event 0 xs) c.loop-number-test.true refl

pub loop-number-preserved : goal.loop-number-preserved
loop-number-preserved c =
    let m = c.args.machine.now in
    let ks = c.transitions_on-numbers.result.now in
    for_more m (is_enabled m) m.transitions ks c.loop-number.number-index (get_or ks c.loop-number.number-index 0) c.loop-number.candidates.items _ c.in_ok-next.next
    c.loop-number-test.true refl c.in_ok-next.ensures.number c.in_ok-next.ensures.tells c.in_ok-push.ensures.items c.loop-number.invariant

pub returns : goal.returns
returns c =
    let m = c.args.machine.now in
    rw (← c.transitions_on-numbers.ensures) (for_all m (is_enabled m) m.transitions c.transitions_on-numbers.result.now c.loop-number.number-index c.loop-number.candidates.items c.loop-number-test.false c.loop-number.invariant)
