use Rattle.std.proofs.Common.{◌≡◌, ◌≤◌, ◌^◌, [], Some, IfSome, slice_get, refl, sym, ap, ◌∙◌, arith, subst}
use Rattle.rsml_syntax.specs.declared.syntax.Spec.{Spec}
use Rattle.rsml_meaning.specs.EventFiles.{Limits}
use Rattle.rsml_meaning.specs.Certified.{Certified}
use Rattle.rsml_meaning.specs.Interfaces.{receives}
use Rattle.event_file.specs.Reading.{Reading, taken}
use Rattle.reactions.proofs.RaisedLemmas.{raised_external}
use Rattle.simulator.specs.Simulation.{Simulation}
use Rattle.simulator.specs.Fitting.{Comes, Goes, NoneComes}
use Rattle.simulator.specs.declared.sim_end.SimEnd.{SimEnd}
use Rattle.simulator.specs.declared.upcoming.Upcoming.{Upcoming}
use Rattle.simulator.specs.Ends.{end_by}
use Rattle.simulator.proofs.LoopLemmas.{none_comes, ends_by_read, ends_by_no_write}
use Rattle.coverage.specs.Coverage.{Coverage, coverage}
use Rattle.coverage.specs.Outputs.{IsCounted}
use Rattle.coverage.proofs.FillLemmas.{none_counted, fits_so_far, has_room, one_more_event, comes_to}
use Rattle.coverage.proofs.counts.Counts.fill.Goals as goal

pub events-init : goal.events-init
events-init g c =
    let m = c.args.simulator.now in
    let new = c.requires.new in
    let nothing : taken m.reading ≡ 0 = ap (λ (z : Reading). taken z) new.unread in
    let uncounted = new.uncounted in
    record {
      spec = refl;
      limits = refl;
      unanswered = new.unanswered;
      none = new.none;
      few = omega (arith, uncounted);
      counted =
          none_counted (g.F.Files.contents c.args.files.now c.args.name.now) m c.args.self.now new
          (c.requires.empty ∙ ap (λ (s : Spec). coverage s []) (sym c.requires.same));
      reached = λ at. at ∙ ap Some (sym nothing);
      contents = λ file. refl;
      count = λ file. omega arith;
      others = λ file other. refl;
    }

pub next_event-requires-clause-fits : goal.next_event-requires-clause-fits
next_event-requires-clause-fits g c =
    let kept = c.events.invariant in
    let name = c.args.name.now in
    fits_so_far (g.F.Files.contents c.args.files.now name) (g.F.Files.contents c.events.files name) c.events.simulator c.events.self (kept.contents name) kept.counted

-- an event came

pub count_step-requires-clause-same : goal.count_step-requires-clause-same
count_step-requires-clause-same g c =
    let kept = c.events.invariant in
    let told' = g.F.Files.contents c.events.files c.args.name.now in
    let comes : Comes told' c.in-Event.interface c.events.simulator c.next_event.new.self = subst (λ (a : Upcoming). Goes told' c.events.simulator a c.next_event.new.self) c.in-Event.is c.next_event.ensures.goes in
    ap (λ (z : Simulation). z.spec) comes.changes ∙ sym (ap (λ (d : Coverage). d.spec) kept.counted.counted)

pub count_step-requires-clause-certified : goal.count_step-requires-clause-certified
count_step-requires-clause-certified g c =
    let kept = c.events.invariant in
    subst Certified (sym (ap (λ (d : Coverage). d.spec) kept.counted.counted ∙ kept.spec ∙ c.requires.same)) c.requires.certified

pub count_step-requires-clause-external : goal.count_step-requires-clause-external
count_step-requires-clause-external g c =
    let told' = g.F.Files.contents c.events.files c.args.name.now in
    let m = c.events.simulator in
    let m' = c.next_event.new.self in
    let k = c.in-Event.interface in
    let comes : Comes told' k m m' = subst (λ (a : Upcoming). Goes told' m a m') c.in-Event.is c.next_event.ensures.goes in
    let spec = ap (λ (z : Simulation). z.spec) comes.changes in (
      comes.message.receive.raised,
      raised_external m'.spec k comes.message.receive (ap (λ (s : Spec). slice_get (receives s) k) spec ∙ comes.receive),
      ap (λ (z : Simulation). z.present) comes.changes,
    )

pub count_step-requires-clause-room : goal.count_step-requires-clause-room
count_step-requires-clause-room g c =
    let kept = c.events.invariant in
    let m = c.events.simulator in
    let forward = c.next_event.ensures.forward c.in-Event.interface c.in-Event.is in
    let within = subst (λ (z : Limits). c.next_event.new.self.reading.at ≤ z.file) kept.limits c.next_event.ensures.within in
    let few = kept.few in
    let limit = c.requires.limits in
    let below : m.events ≤ 2 ^ 32 = omega (arith, few, forward, within, limit) in
    has_room (g.F.Files.contents c.args.files.now c.args.name.now) m c.events.self kept.counted below

pub events-preserved : goal.events-preserved
events-preserved g c =
    let kept = c.events.invariant in
    let name = c.args.name.now in
    let told = g.F.Files.contents c.args.files.now name in
    let told' = g.F.Files.contents c.events.files name in
    let m = c.events.simulator in
    let m' = c.next_event.new.self in
    let m'' = c.count_step.new.simulator in
    let k = c.in-Event.interface in
    let comes : Comes told' k m m' = subst (λ (a : Upcoming). Goes told' m a m') c.in-Event.is c.next_event.ensures.goes in
    let rest = c.count_step.ensures.rest in
    let reading : m''.reading ≡ m'.reading = ap (λ (z : Simulation). z.reading) rest in
    let at = ap (λ (r : Reading). r.at) reading in
    let one = ap (λ (z : Simulation). z.events) comes.changes in
    let events = ap (λ (z : Simulation). z.events) rest in
    let forward = c.next_event.ensures.forward k c.in-Event.is in
    let few = kept.few in
    record {
      spec = ap (λ (z : Simulation). z.spec) rest ∙ ap (λ (z : Simulation). z.spec) comes.changes ∙ kept.spec;
      limits = ap (λ (z : Simulation). z.limits) rest ∙ ap (λ (z : Simulation). z.limits) comes.changes ∙ kept.limits;
      unanswered = ap (λ (z : Simulation). z.answered) rest ∙ ap (λ (z : Simulation). z.answered) comes.changes ∙ kept.unanswered;
      none = c.count_step.ensures.none;
      few = omega (arith, at, one, events, forward, few);
      counted =
          one_more_event told told' (kept.contents name) m m' c.events.self kept.counted c.next_event.ensures.fits k comes m'' c.count_step.new.self rest
          c.count_step.ensures.counted;
      reached = λ at. c.next_event.ensures.reached (kept.reached at) ∙ ap (λ (r : Reading). Some (taken r)) (sym reading);
      contents = λ file. c.next_event.ensures.contents file ∙ kept.contents file;
      count = λ file. let a = kept.count file in let b = c.next_event.ensures.count file in omega (arith, a, b);
      others = λ file other. c.next_event.ensures.others file other ∙ kept.others file other;
    }

pub events-smaller : goal.events-smaller
events-smaller g c =
    let kept = c.events.invariant in
    let forward = c.next_event.ensures.forward c.in-Event.interface c.in-Event.is in
    let within = subst (λ (z : Limits). c.next_event.new.self.reading.at ≤ z.file) kept.limits c.next_event.ensures.within in
    let same = ap (λ (z : Simulation). z.reading.at) c.count_step.ensures.rest in
    omega (arith, forward, within, same)

-- there is no event

pub returns-in_default-clause-told : goal.returns-in_default-clause-told
returns-in_default-clause-told g c =
    let kept = c.events.invariant in
    let name = c.args.name.now in
    let told = g.F.Files.contents c.args.files.now name in
    let told' = g.F.Files.contents c.events.files name in
    let m = c.events.simulator in
    let m' = c.next_event.new.self in
    let answer = c.next_event.result in
    let none : NoneComes told' answer m m' = none_comes told' m answer m' c.in_default.not-Event c.next_event.ensures.goes in
    let comes = comes_to told told' (kept.contents name) m m' c.events.self kept.counted c.next_event.ensures.fits answer none in
    let there =
    subst (λ (s : Spec). IfSome told (λ content. IsCounted s c.args.simulator.now.limits content (taken m'.reading) (end_by answer) c.events.self)) kept.spec
    (subst (λ (z : Limits). IfSome told (λ content. IsCounted m.spec z content (taken m'.reading) (end_by answer) c.events.self)) kept.limits comes) in
    subst (λ (e : SimEnd). IfSome told (λ content. IsCounted c.args.simulator.now.spec c.args.simulator.now.limits content (taken m'.reading) e c.events.self)) (sym c.end_by.ensures) there

pub returns-in_default-clause-spec : goal.returns-in_default-clause-spec
returns-in_default-clause-spec g c =
    let kept = c.events.invariant in
    ap (λ (d : Coverage). d.spec) kept.counted.counted ∙ kept.spec ∙ c.requires.same

pub returns-in_default-clause-unwritten : goal.returns-in_default-clause-unwritten
returns-in_default-clause-unwritten g c = λ is. ends_by_no_write c.next_event.result (sym c.end_by.ensures ∙ is)

pub returns-in_default-clause-read : goal.returns-in_default-clause-read
returns-in_default-clause-read g c = λ is.
    let kept = c.events.invariant in
    let rose = c.next_event.ensures.read (ends_by_read c.next_event.result (sym c.end_by.ensures ∙ is)) kept.unanswered in
    let count = kept.count c.args.name.now in
    omega (arith, rose, count)
