use Rattle.std.proofs.Common.{◌≡◌, ◌<◌, ◌≤◌, [], Some, IfSome, sym, ap, ◌∙◌, subst}
use Rattle.event_file.specs.Reading.{taken}
use Rattle.simulator.specs.Simulation.{Simulation}
use Rattle.simulator.specs.Fitting.{FitsFile, Goes}
use Rattle.simulator.proofs.simulator.Simulator.next_event.Goals as goal

pub next_event-requires-clause-none : goal.next_event-requires-clause-none
next_event-requires-clause-none g c = subst (λ (m : Simulation). m.present ≡ []) (sym c.self.view_is) c.requires.none

pub next_event-requires-clause-fits : goal.next_event-requires-clause-fits
next_event-requires-clause-fits g c =
    subst (λ (m : Simulation). IfSome (g.F.Files.contents c.args.files.now c.args.name.now) (λ content. FitsFile content m)) (sym c.self.view_is) c.requires.fits

pub returns-clause-goes : goal.returns-clause-goes
returns-clause-goes g c =
    subst (λ (m : Simulation). Goes (g.F.Files.contents c.args.files.now c.args.name.now) m c.next_event.result c.next_event.new.self) c.self.view_is c.next_event.ensures.goes

pub returns-clause-repeats : goal.returns-clause-repeats
returns-clause-repeats g c =
    subst (λ (m : Simulation). IfSome m.answered (λ answer. (c.next_event.result ≡ answer) × (c.next_event.new.self ≡ m) × (c.next_event.new.files ≡ c.args.files.now))) c.self.view_is c.next_event.ensures.repeats

pub returns-clause-read : goal.returns-clause-read
returns-clause-read g c = λ is none. c.next_event.ensures.read is (ap (λ (m : Simulation). m.answered) c.self.view_is ∙ none)

pub returns-clause-forward : goal.returns-clause-forward
returns-clause-forward g c = λ k is.
    subst (λ (m : Simulation). m.reading.at < c.next_event.new.self.reading.at) c.self.view_is (c.next_event.ensures.forward k is)

pub returns-clause-within : goal.returns-clause-within
returns-clause-within g c = subst (λ (m : Simulation). c.next_event.new.self.reading.at ≤ m.limits.file) c.self.view_is c.next_event.ensures.within

pub returns-clause-reached : goal.returns-clause-reached
returns-clause-reached g c = λ at.
    c.next_event.ensures.reached (subst (λ (m : Simulation). g.F.Files.reach c.args.files.now c.args.name.now ≡ Some (taken m.reading)) (sym c.self.view_is) at)
