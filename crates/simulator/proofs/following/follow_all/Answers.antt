use Rattle.std.proofs.Common.{◌≡◌, ◌≤◌, Some, IfSome, slice_get, refl, sym, ap, ◌∙◌, arith, subst}
use Rattle.rsml_syntax.specs.declared.syntax.Spec.{Spec}
use Rattle.rsml_meaning.specs.Certified.{Certified}
use Rattle.rsml_meaning.specs.EventFiles.{Limits}
use Rattle.rsml_meaning.specs.Interfaces.{receives}
use Rattle.rsml_meaning.specs.Scoped.{WellScoped}
use Rattle.text_writer.specs.Parts.{state_of, text_of}
use Rattle.event_file.specs.Reading.{Reading, taken}
use Rattle.simulator.specs.Simulation.{Simulation}
use Rattle.simulator.specs.Fitting.{Comes, Goes, NoneComes}
use Rattle.simulator.specs.declared.sim_end.SimEnd.{SimEnd}
use Rattle.simulator.specs.declared.sim_end.SimEnd.TheVariants as end
use Rattle.simulator.specs.declared.upcoming.Upcoming.{Upcoming}
use Rattle.simulator.specs.Ends.{end_by}
use Rattle.simulator.specs.helpers.Progress.{Stops}
use Rattle.simulator.proofs.StandsLemmas.{nothing_counted, counted_flushes, counted_writes}
use Rattle.simulator.proofs.LoopLemmas.{starts_told, fits_followed, flushed_told, followed_told, stops_told, refused_told, none_comes, ends_by_read, ends_by_no_write}
use Rattle.simulator.proofs.following.follow_all.Goals as goal

pub events-init : goal.events-init
events-init g c =
    let told = g.F.Files.contents c.args.files.now c.args.name.now in
    let m = c.args.course.now in
    let new = c.requires.new in
    let state = state_of g.K.Sink.faults g.K.Sink.written c.args.out.now in
    let old = text_of g.K.Sink.written c.args.out.now in
    let nothing : taken m.reading ≡ 0 = ap (λ (z : Reading). taken z) new.unread in
    record {
      spec = refl;
      limits = refl;
      unanswered = new.unanswered;
      none = new.none;
      followed = starts_told told old m state c.requires.whole new;
      reached = λ at. at ∙ ap Some (sym nothing);
      counted = nothing_counted state c.requires.whole;
      contents = λ file. refl;
      count = λ file. omega arith;
      others = λ file other. refl;
    }

pub next_event-requires-clause-fits : goal.next_event-requires-clause-fits
next_event-requires-clause-fits g c =
    let kept = c.events.invariant in
    let name = c.args.name.now in
    fits_followed (g.F.Files.contents c.args.files.now name) (text_of g.K.Sink.written c.args.out.now) (g.F.Files.contents c.events.files name) c.events.course
    (state_of g.K.Sink.faults g.K.Sink.written c.events.out) (text_of g.K.Sink.written c.events.out) (kept.contents name) kept.followed

pub put_reaction-requires : goal.put_reaction-requires
put_reaction-requires g c =
    let told' = g.F.Files.contents c.events.files c.args.name.now in
    let m = c.events.course in
    let m' = c.next_event.new.self in
    let k = c.in-Event.interface in
    let comes : Comes told' k m m' = subst (λ (a : Upcoming). Goes told' m a m') c.in-Event.is c.next_event.ensures.goes in
    let spec = ap (λ (z : Simulation). z.spec) comes.changes in (
      comes.message.receive,
      ap (λ (s : Spec). slice_get (receives s) k) spec ∙ comes.receive,
      ap (λ (z : Simulation). z.present) comes.changes,
    )

-- an event came
pub events-preserved : goal.events-preserved
events-preserved g c =
    let kept = c.events.invariant in
    let name = c.args.name.now in
    let told = g.F.Files.contents c.args.files.now name in
    let told' = g.F.Files.contents c.events.files name in
    let m = c.events.course in
    let m' = c.next_event.new.self in
    let m'' = c.put_reaction.new.course in
    let k = c.in-Event.interface in
    let start = state_of g.K.Sink.faults g.K.Sink.written c.args.out.now in
    let was = state_of g.K.Sink.faults g.K.Sink.written c.events.out in
    let first = state_of g.K.Sink.faults g.K.Sink.written c.is_ready.new.out in
    let second = state_of g.K.Sink.faults g.K.Sink.written c.put_reaction.new.out in
    let old = text_of g.K.Sink.written c.args.out.now in
    let before = text_of g.K.Sink.written c.events.out in
    let mid = text_of g.K.Sink.written c.is_ready.new.out in
    let new = text_of g.K.Sink.written c.put_reaction.new.out in
    let comes : Comes told' k m m' = subst (λ (a : Upcoming). Goes told' m a m') c.in-Event.is c.next_event.ensures.goes in
    let rest = c.put_reaction.ensures.rest in
    let reading : m''.reading ≡ m'.reading = ap (λ (z : Simulation). z.reading) rest in
    let spec : m'.spec ≡ m.spec = ap (λ (z : Simulation). z.spec) comes.changes in
    let ready = flushed_told told old m was first before mid c.is_ready.ensures.flushes kept.followed in
    let event = c.put_reaction.ensures.written comes.message.receive (ap (λ (s : Spec). slice_get (receives s) k) spec ∙ comes.receive) in
    record {
      spec = ap (λ (z : Simulation). z.spec) rest ∙ spec ∙ kept.spec;
      limits = ap (λ (z : Simulation). z.limits) rest ∙ ap (λ (z : Simulation). z.limits) comes.changes ∙ kept.limits;
      unanswered = ap (λ (z : Simulation). z.answered) rest ∙ ap (λ (z : Simulation). z.answered) comes.changes ∙ kept.unanswered;
      none = c.put_reaction.ensures.none;
      followed = followed_told told old told' (kept.contents name) m m' first mid ready c.next_event.ensures.fits k comes m'' second new rest c.put_reaction.ensures.written;
      reached = λ at. c.next_event.ensures.reached (kept.reached at) ∙ ap (λ (r : Reading). Some (taken r)) (sym reading);
      counted = counted_writes start first second mid new _ (counted_flushes start was first before mid kept.counted c.is_ready.ensures.flushes) event.writes;
      contents = λ file. c.next_event.ensures.contents file ∙ kept.contents file;
      count = λ file. let a = kept.count file in let b = c.next_event.ensures.count file in omega (arith, a, b);
      others = λ file other. c.next_event.ensures.others file other ∙ kept.others file other;
    }

pub events-smaller : goal.events-smaller
events-smaller g c =
    let kept = c.events.invariant in
    let forward = c.next_event.ensures.forward c.in-Event.interface c.in-Event.is in
    let within = subst (λ (z : Limits). c.next_event.new.self.reading.at ≤ z.file) kept.limits c.next_event.ensures.within in
    let same = ap (λ (z : Simulation). z.reading.at) c.put_reaction.ensures.rest in
    omega (arith, forward, within, same)

-- a write was refused
pub returns-then-not-is_ready-clause-told : goal.returns-then-not-is_ready-clause-told
returns-then-not-is_ready-clause-told g c =
    let kept = c.events.invariant in
    let told = g.F.Files.contents c.args.files.now c.args.name.now in
    let m = c.events.course in
    let was = state_of g.K.Sink.faults g.K.Sink.written c.events.out in
    let first = state_of g.K.Sink.faults g.K.Sink.written c.is_ready.new.out in
    let old = text_of g.K.Sink.written c.args.out.now in
    let before = text_of g.K.Sink.written c.events.out in
    let mid = text_of g.K.Sink.written c.is_ready.new.out in
    let ready = flushed_told told old m was first before mid c.is_ready.ensures.flushes kept.followed in
    let stops = refused_told told old c.event_files_have_one_run.ensures.lines c.well_formed_files_have_no_fault.ensures.exact c.a_first_fault_is_of_a_line.ensures m
    (subst WellScoped (sym kept.spec) c.law.ensures.scoped) (subst Certified (sym kept.spec) c.law.ensures.certified) kept.unanswered (taken m.reading) first mid ready in
    subst (λ (s : Spec). IfSome told (λ content. Stops s c.args.course.now.limits content (taken m.reading) end.WriteFault old first mid)) kept.spec
    (subst (λ (z : Limits). IfSome told (λ content. Stops m.spec z content (taken m.reading) end.WriteFault old first mid)) kept.limits stops)

-- there is no event
pub returns-in_default-clause-told : goal.returns-in_default-clause-told
returns-in_default-clause-told g c =
    let kept = c.events.invariant in
    let name = c.args.name.now in
    let told = g.F.Files.contents c.args.files.now name in
    let told' = g.F.Files.contents c.events.files name in
    let m = c.events.course in
    let m' = c.next_event.new.self in
    let answer = c.next_event.result in
    let was = state_of g.K.Sink.faults g.K.Sink.written c.events.out in
    let first = state_of g.K.Sink.faults g.K.Sink.written c.is_ready.new.out in
    let old = text_of g.K.Sink.written c.args.out.now in
    let before = text_of g.K.Sink.written c.events.out in
    let mid = text_of g.K.Sink.written c.is_ready.new.out in
    let ready = flushed_told told old m was first before mid c.is_ready.ensures.flushes kept.followed in
    let none : NoneComes told' answer m m' = none_comes told' m answer m' c.in_default.not-Event c.next_event.ensures.goes in
    let stops = stops_told told old told' (kept.contents name) m m' first mid ready c.next_event.ensures.fits answer none in
    let there =
    subst (λ (s : Spec). IfSome told (λ content. Stops s c.args.course.now.limits content (taken m'.reading) (end_by answer) old first mid)) kept.spec
    (subst (λ (z : Limits). IfSome told (λ content. Stops m.spec z content (taken m'.reading) (end_by answer) old first mid)) kept.limits stops) in
    subst (λ (e : SimEnd). IfSome told (λ content. Stops c.args.course.now.spec c.args.course.now.limits content (taken m'.reading) e old first mid)) (sym c.end_by.ensures) there

pub returns-in_default-clause-read : goal.returns-in_default-clause-read
returns-in_default-clause-read g c = λ is.
    let kept = c.events.invariant in
    let rose = c.next_event.ensures.read (ends_by_read c.next_event.result (sym c.end_by.ensures ∙ is)) kept.unanswered in
    let count = kept.count c.args.name.now in
    omega (arith, rose, count)

pub returns-in_default-clause-refused : goal.returns-in_default-clause-refused
returns-in_default-clause-refused g c = λ is. absurd (ends_by_no_write c.next_event.result (sym c.end_by.ensures ∙ is))
