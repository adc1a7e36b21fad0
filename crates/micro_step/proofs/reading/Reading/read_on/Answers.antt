use Rattle.std.proofs.Common.{◌<◌, ◌==◌, ◌||◌, ◌&&◌, Bool, List, sym, ap, ◌∙◌, subst, arith}
use Rattle.std.specs.List.{list_any, All}
use Rattle.macros.specs.StatePhrases.{IsStatePhrase}
use Rattle.elaborate.specs.Enabled.{is_enabled, is_sending}
use Rattle.elaborate.specs.OnEvents.{transitions_on, cases_on}
use Rattle.micro_step.specs.declared.candidates.Candidate.{Candidate}
use Rattle.micro_step.specs.Candidates.{Fits, is_met}
use Rattle.micro_step.specs.Rising.{among}
use Rattle.micro_step.proofs.CandidateLemmas.{prepared_at, fits_of, below_of, met_on}
use Rattle.micro_step.proofs.reading.Reading.read_on.Goals as goal

pub bounds-prepared-event : goal.bounds-prepared-event
bounds-prepared-event c = let many = c.requires.prepared.many in let l = c.requires.event in omega (arith, many, l)

pub learn_all-requires-clause-phrases : goal.learn_all-requires-clause-phrases
learn_all-requires-clause-phrases c =
    let m = c.args.machine.now in
    let is = prepared_at m c.args.prepared.now c.args.event c.index-prepared-event.result c.requires.prepared c.requires.event c.index-prepared-event.is in
    subst (All (IsStatePhrase m.base)) (sym c.as_slice.ensures.value) is.states

pub put_enabled-requires-clause-fits : goal.put_enabled-requires-clause-fits
put_enabled-requires-clause-fits c =
    let m = c.args.machine.now in
    let p = c.index-prepared-event.result in
    let is = prepared_at m c.args.prepared.now c.args.event p c.requires.prepared c.requires.event c.index-prepared-event.is in
    subst (All (Fits m)) (sym c.as_slice-2.ensures.value) (fits_of m (is_enabled m) m.transitions (transitions_on m c.args.event) p.transitions.items is.transitions)

pub put_enabled-requires-clause-numbers : goal.put_enabled-requires-clause-numbers
put_enabled-requires-clause-numbers c =
    let m = c.args.machine.now in
    let p = c.index-prepared-event.result in
    let is = prepared_at m c.args.prepared.now c.args.event p c.requires.prepared c.requires.event c.index-prepared-event.is in
    subst (All (λ (x : Candidate). x.number < c.args.self.now.taken.below)) (sym c.as_slice-2.ensures.value)
    (below_of m (is_enabled m) m.transitions (transitions_on m c.args.event) p.transitions.items c.args.self.now.taken.below c.requires.reading.taken is.transitions)

pub put_enabled-requires-2-clause-fits : goal.put_enabled-requires-2-clause-fits
put_enabled-requires-2-clause-fits c =
    let m = c.args.machine.now in
    let p = c.index-prepared-event.result in
    let is = prepared_at m c.args.prepared.now c.args.event p c.requires.prepared c.requires.event c.index-prepared-event.is in
    subst (All (Fits m)) (sym c.as_slice-3.ensures.value) (fits_of m (is_sending m) m.send_cases (cases_on m c.args.event) p.cases.items is.cases)

pub put_enabled-requires-2-clause-numbers : goal.put_enabled-requires-2-clause-numbers
put_enabled-requires-2-clause-numbers c =
    let m = c.args.machine.now in
    let p = c.index-prepared-event.result in
    let is = prepared_at m c.args.prepared.now c.args.event p c.requires.prepared c.requires.event c.index-prepared-event.is in
    subst (All (λ (x : Candidate). x.number < c.args.self.now.sent.below)) (sym c.as_slice-3.ensures.value)
    (below_of m (is_sending m) m.send_cases (cases_on m c.args.event) p.cases.items c.args.self.now.sent.below c.requires.reading.sent is.cases)

pub returns-clause-reading : goal.returns-clause-reading
returns-clause-reading c = record {
  knows = c.put_enabled-2.ensures.knows;
  guards = c.put_enabled-2.ensures.guards;
  taken = c.put_enabled.ensures.bound ∙ c.requires.reading.taken;
  sent = c.put_enabled-2.ensures.bound ∙ c.requires.reading.sent;
  rising_taken = c.put_enabled.ensures.rising;
  rising_sent = c.put_enabled-2.ensures.rising;
}

pub returns-clause-taken : goal.returns-clause-taken
returns-clause-taken c = λ q.
    let m = c.args.machine.now in
    let w = c.args.world.now in
    let p = c.index-prepared-event.result in
    let before = c.args.self.now.taken.items in
    let is = prepared_at m c.args.prepared.now c.args.event p c.requires.prepared c.requires.event c.index-prepared-event.is in
    c.put_enabled.ensures.among q
    ∙ ap (λ (cs : List Candidate). among before q || list_any (λ x. x.number == q && is_met m w x) cs) c.as_slice-2.ensures.value
    ∙ ap (λ (b : Bool). among before q || b) (met_on m w (is_enabled m) (λ x. x.event) m.transitions c.args.event p.transitions.items q c.requires.world is.transitions)

pub returns-clause-sent : goal.returns-clause-sent
returns-clause-sent c = λ q.
    let m = c.args.machine.now in
    let w = c.args.world.now in
    let p = c.index-prepared-event.result in
    let before = c.args.self.now.sent.items in
    let is = prepared_at m c.args.prepared.now c.args.event p c.requires.prepared c.requires.event c.index-prepared-event.is in
    c.put_enabled-2.ensures.among q
    ∙ ap (λ (cs : List Candidate). among before q || list_any (λ x. x.number == q && is_met m w x) cs) c.as_slice-3.ensures.value
    ∙ ap (λ (b : Bool). among before q || b) (met_on m w (is_sending m) (λ x. x.event) m.send_cases c.args.event p.cases.items q c.requires.world is.cases)
