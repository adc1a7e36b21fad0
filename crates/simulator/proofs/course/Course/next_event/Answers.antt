use Rattle.std.proofs.Common.{◌≡◌, ◌<◌, [], Option, None, IfSome, sym, ap, ◌∙◌, arith, subst}
use Rattle.simulator.specs.Simulation.{Simulation}
use Rattle.simulator.specs.Fitting.{FitsFile, Goes}
use Rattle.simulator.specs.declared.upcoming.Upcoming.{Upcoming}
use Rattle.simulator.specs.helpers.Ready.{IsGoing}
use Rattle.simulator.specs.helpers.Taking.{simulation_of}
use Rattle.simulator.proofs.AnsweringLemmas.{again, reader_fits, goes_on, fits_told, answer_goes, answers_read, answers_event}
use Rattle.simulator.proofs.course.Course.next_event.Goals as goal

-- The answer was given before.

pub returns-in-Some-clause-goes : goal.returns-in-Some-clause-goes
returns-in-Some-clause-goes g c =
    let told = g.F.Files.contents c.args.files.now c.args.name.now in
    let m = simulation_of c.self.inside.turns c.self.inside.reader c.self.inside.answered in
    subst (λ (z : Simulation). Goes told z c.in-Some.answer z) c.self.view_is (again told m c.in-Some.answer c.self.invariant.final c.in-Some.is)

-- It is given now.

pub next_unskipped-given-requires : goal.next_unskipped-given-requires
next_unskipped-given-requires g c =
    reader_fits (g.F.Files.contents c.args.files.now c.args.name.now) c.self.inside.turns c.self.inside.reader c.self.inside.answered
    (subst (λ (z : Simulation). IfSome (g.F.Files.contents c.args.files.now c.args.name.now) (λ content. FitsFile content z)) (sym c.self.view_is) c.requires.fits)

pub answer_on-answer-requires-clause-none : goal.answer_on-answer-requires-clause-none
answer_on-answer-requires-clause-none g c = subst (λ (z : Simulation). z.present ≡ []) (sym c.self.view_is) c.requires.none

pub answer_on-answer-requires-clause-room : goal.answer_on-answer-requires-clause-room
answer_on-answer-requires-clause-room g c =
    let i = c.self.invariant in
    let few = i.few in
    let within = i.within in
    let limit = i.limit in
    omega (arith, few, within, limit)

pub invariant_of-self : goal.invariant_of-self
invariant_of-self g c =
    let n = c.next_unskipped-given.ensures in
    subst (λ (o : Option Upcoming). IsGoing c.next_unskipped-given.new.reader o c.answer_on-answer.new.turns.events) (sym c.if_final-self-inside.ensures)
    (goes_on c.self.inside.turns c.answer_on-answer.new.turns c.self.inside.reader c.next_unskipped-given.new.reader c.next_unskipped-given.result c.answer_on-answer.result
    c.answer_on-answer.ensures (subst (λ (o : Option Upcoming). IsGoing c.self.inside.reader o c.self.inside.turns.events) c.in_default.is c.self.invariant)
    n.limits n.within n.on n.forward n.unrefused)

pub returns-clause-fits : goal.returns-clause-fits
returns-clause-fits g c =
    let n = c.next_unskipped-given.ensures in
    let told = g.F.Files.contents c.args.files.now c.args.name.now in
    let t = c.self.inside.turns in
    let r = c.self.inside.reader in
    let fits =
    subst (λ (o : Option Upcoming). IfSome told (λ content. FitsFile content (simulation_of t r o))) c.in_default.is
    (subst (λ (z : Simulation). IfSome told (λ content. FitsFile content z)) (sym c.self.view_is) c.requires.fits) in
    subst (λ (o : Option Upcoming). IfSome told (λ content. FitsFile content (simulation_of c.answer_on-answer.new.turns c.next_unskipped-given.new.reader o))) (sym c.if_final-self-inside.ensures)
    (fits_told c.well_formed_files_have_no_fault.ensures.exact c.a_first_fault_is_of_a_line.ensures told t c.answer_on-answer.new.turns r c.next_unskipped-given.new.reader
    c.next_unskipped-given.result c.answer_on-answer.result n.limits n.settles n.unskipped c.answer_on-answer.ensures fits n.told)

pub returns-clause-goes : goal.returns-clause-goes
returns-clause-goes g c =
    let n = c.next_unskipped-given.ensures in
    let told = g.F.Files.contents c.args.files.now c.args.name.now in
    let t = c.self.inside.turns in
    let t' = c.answer_on-answer.new.turns in
    let r = c.self.inside.reader in
    let r' = c.next_unskipped-given.new.reader in
    let answer = c.answer_on-answer.result in
    let old : simulation_of t r None ≡ c.args.self.now = ap (λ (o : Option Upcoming). simulation_of t r o) (sym c.in_default.is) ∙ c.self.view_is in
    let fits = subst (λ (z : Simulation). IfSome told (λ content. FitsFile content z)) (sym old) c.requires.fits in
    subst (λ (z : Simulation). Goes told z answer (simulation_of t' r' c.if_final-self-inside.result)) old
    (subst (λ (o : Option Upcoming). Goes told (simulation_of t r None) answer (simulation_of t' r' o)) (sym c.if_final-self-inside.ensures)
    (answer_goes told t t' r r' n.limits c.next_unskipped-given.result answer n.unskipped c.answer_on-answer.ensures fits n.told))

pub returns-clause-read : goal.returns-clause-read
returns-clause-read g c = λ is none.
    let n = c.next_unskipped-given.ensures in
    n.fault (answers_read c.next_unskipped-given.result c.next_unskipped-given.new.reader c.self.inside.turns c.answer_on-answer.result c.answer_on-answer.new.turns c.answer_on-answer.ensures is)
    (c.self.invariant.unrefused c.in_default.is)

pub returns-clause-forward : goal.returns-clause-forward
returns-clause-forward g c = λ k is.
    let n = c.next_unskipped-given.ensures in
    subst (λ (z : Simulation). z.reading.at < c.next_unskipped-given.new.reader.at) c.self.view_is
    (n.forward (answers_event c.next_unskipped-given.result c.next_unskipped-given.new.reader c.self.inside.turns c.answer_on-answer.result c.answer_on-answer.new.turns k c.answer_on-answer.ensures is))
