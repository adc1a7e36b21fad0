-- A simulation between two events, and where it ends.
use Rattle.std.proofs.Common.{◌≡◌, ℕ, ◌+◌, true, List, [], ◌∷◌, ◌++◌, length, Option, None, refl, sym, ap, ◌∙◌, subst, append-nil}
use Rattle.rsml_syntax.specs.declared.syntax.Spec.{Spec}
use Rattle.rsml_meaning.specs.Certified.{Certified}
use Rattle.rsml_meaning.specs.EventLines.{Bytes, Message}
use Rattle.rsml_meaning.specs.EventFiles.{Line, FileFault, long_line, broken_line, long_file, messages, lines_of, lines_before, sound_lines}
use Rattle.rsml_meaning.specs.Instances.{globals_of}
use Rattle.rsml_meaning.specs.Laws.{WellFormedHasNoFault, FirstFaultIsOfLine}
use Rattle.rsml_meaning.specs.Runs.{Reaction, latched, IsRun}
use Rattle.rsml_meaning.specs.Trace.{reaction_text, trace_text}
use Rattle.rsml_meaning.specs.Scoped.{WellScoped}
use Rattle.rsml_meaning.specs.RunLaws.{LinesHaveOneRun}
use Rattle.text_writer.specs.Writes.{WriterState}
use Rattle.text_writer.proofs.WritingLemmas.{alike}
use Rattle.event_file.specs.Reading.{Reading, lines_ahead, taken}
use Rattle.event_lines.specs.Told.{rule_of}
use Rattle.text_writer.specs.Buffering.{Flushes}
use Rattle.simulator.specs.declared.sim_end.SimEnd.{SimEnd}
use Rattle.simulator.specs.declared.sim_end.SimEnd.TheVariants as end
use Rattle.simulator.specs.declared.upcoming.Upcoming.{Upcoming}
use Rattle.simulator.specs.declared.upcoming.Upcoming.TheVariants as upcoming
use Rattle.simulator.specs.Outputs.{Output, done, faulty, ReadOutput, end_of, fault_line, traces}
use Rattle.simulator.specs.Simulation.{Simulation, IsNew}
use Rattle.simulator.specs.Fitting.{FitsFile, EndsWith, StopsAt, lines_read}
use Rattle.simulator.specs.helpers.Reacting.{EventIsWritten}
use Rattle.simulator.specs.helpers.Series.{texts_from}
use Rattle.simulator.specs.Ends.{end_by, last_line}
use Rattle.simulator.specs.helpers.Progress.{Stands, Followed, Stops}
use Rattle.simulator.proofs.SeriesLemmas.{trace_both}
use Rattle.simulator.proofs.RunningLemmas.{run_starts, reaction, run_on, answered, taken_within, sound_before, run_of_lines}
use Rattle.simulator.proofs.StandsLemmas.{nothing_stands, one_more_stands, same_stands}
use Rattle.simulator.proofs.OutputLemmas.{begins_output, fault_again}
use Rattle.simulator.proofs.FittingLemmas.{unanswered_sound}

-- Between events.

-- nothing was read
pub starts : (content : Bytes) (m : Simulation) (state : WriterState) (text : Option (List ℕ)) → state.whole ≡ true → IsNew m → Followed content m text state text
starts content m state text whole new = record { run = []; has = run_starts content m new; stands = nothing_stands state text whole }

-- what waited was written
pub flushed : (content : Bytes) (m : Simulation) (first second : WriterState) (old mid new : Option (List ℕ)) → Flushes first mid second new
    → Followed content m old first mid → Followed content m old second new
flushed content m first second old mid new k h = record {
  run = h.run;
  has = h.has;
  stands = same_stands first second old mid new (trace_text m.spec h.run) k.text k.before h.stands;
}

-- An event came, and was written with its rounds.

module _ (content : Bytes) (m m' m'' : Simulation) (first second : WriterState) (old mid new : Option (List ℕ)) (h : Followed content m old first mid)
    (fits : FitsFile content m') (message : Message)
    (next : messages m.spec (lines_read content m') ≡ messages m.spec (lines_read content m) ++ (message ∷ []))
    (changes : m' ≡ record m { reading = m'.reading; world = latched m.spec m.world message; present = message.receive.raised ∷ []; events = m.events + 1 })
    (rest : m'' ≡ record m' { world = m''.world; present = m''.present; last = m''.last })
    (w : EventIsWritten m'.spec m'.events message.receive m'.world m'.present m''.world first mid second new)
  where
    abbrev one : Reaction
    one = reaction message w.rounds m''.world

    text : trace_text m.spec h.run ++ reaction_text (globals_of m.spec) (m.events + 1, one) ≡ trace_text m.spec (h.run ++ (one ∷ []))
    text =
        ap (λ (t : Bytes). trace_text m.spec h.run ++ t) (sym (append-nil (reaction_text (globals_of m.spec) (m.events + 1, one))))
        ∙ ap (λ (n : ℕ). trace_text m.spec h.run ++ texts_from m.spec (n + 1) (one ∷ [])) (sym h.has.count) ∙ sym (trace_both m.spec h.run (one ∷ []))

    alike_text : reaction_text (globals_of m'.spec) (m'.events, one) ≡ reaction_text (globals_of m.spec) (m.events + 1, one)
    alike_text =
        ap (λ (z : Simulation). reaction_text (globals_of z.spec) (z.events, one)) changes

    written : Stands old (trace_text m.spec (h.run ++ (one ∷ []))) second new
    written =
        subst (λ (bytes : Bytes). Stands old bytes second new) text
        (one_more_stands first second old mid new (trace_text m.spec h.run) (reaction_text (globals_of m.spec) (m.events + 1, one)) h.stands (alike alike_text w.writes))

    pub followed_on : Followed content m'' old second new
    followed_on = record {
      run = h.run ++ (one ∷ []);
      has = run_on content m m' m'' h.run h.has fits message next changes rest w.rounds w.is;
      stands =
          subst (λ (s : Spec). Stands old (trace_text s (h.run ++ (one ∷ []))) second new)
          (sym (ap (λ (z : Simulation). z.spec) rest ∙ ap (λ (z : Simulation). z.spec) changes)) written;
    }

-- Where there is no event.

module _ (content : Bytes) (m : Simulation) (r : Reading) (state : WriterState) (old new : Option (List ℕ)) (h : Followed content m old state new) where
  abbrev trace : Bytes
  trace = trace_text m.spec h.run

  -- the answer was given on a reader whose lines tell the same messages
  module _ (same : messages m.spec (lines_ahead r.at content) ≡ messages m.spec (lines_read content m)) where
    run_of : (ls : List Line) → messages m.spec (lines_ahead r.at content) ≡ messages m.spec ls → IsRun m.spec ls h.run
    run_of = run_of_lines content m r h.run h.has same

    at_fault : (answer : Upcoming) (f : FileFault) → StopsAt content (answered m r answer) f → (e : SimEnd) → e ≡ end_of f → Output traces m.spec m.limits content e (trace ++ fault_line f)
    at_fault answer f stops e is = faulty f h.run stops.first (run_of (sound_lines m.spec m.limits content) stops.came) is refl

    at_end : (n : ℕ) → EndsWith content (answered m r (upcoming.Ended n)) n → Output traces m.spec m.limits content (end.Ended n) (trace ++ last_line (end.Ended n))
    at_end n ends =
        let many : n ≡ length h.run = ends.count ∙ sym h.has.count in
        done h.run ends.formed (run_of (lines_of content) (ap (messages m.spec) ends.all)) (ap end.Ended many) (ap (λ (k : ℕ). trace ++ last_line (end.Ended k)) many)

    at_read : FitsFile content (answered m r upcoming.ReadFault) → ReadOutput traces m.spec m.limits content (taken r) (trace ++ last_line end.ReadFault)
    at_read fits = record {
      within = taken_within content r fits.reader;
      sound = sound_before content m r fits;
      run = h.run;
      is_run = run_of (lines_before (taken r) content) (ap (messages m.spec) (sym fits.right));
      text = refl;
    }

    -- it stops so
    pub stops_there : (answer : Upcoming) → FitsFile content (answered m r answer) → Stops m.spec m.limits content (taken r) (end_by answer) old state new
    stops_there (upcoming.Event k) fits = absurd (let no : ⊥ = fits.right in no)
    stops_there (upcoming.Ended n) fits = record { trace = trace; stands = h.stands; ends = at_end n fits.right }
    stops_there (upcoming.LineFault n fault) fits = record {
      trace = trace;
      stands = h.stands;
      ends = at_fault (upcoming.LineFault n fault) (broken_line n (rule_of fault)) fits.right (end.LineFault n fault) (ap (end.LineFault n) (sym (fault_again fault)));
    }
    stops_there (upcoming.LineTooLong n) fits = record { trace = trace; stands = h.stands; ends = at_fault (upcoming.LineTooLong n) (long_line n) fits.right (end.LineTooLong n) refl }
    stops_there upcoming.ReadFault fits = record { trace = trace; stands = h.stands; ends = at_read fits }
    stops_there upcoming.TooLong fits = record { trace = trace; stands = h.stands; ends = at_fault upcoming.TooLong long_file fits.right end.TooLong refl }

-- a write was refused
pub stops_refused : LinesHaveOneRun → WellFormedHasNoFault → FirstFaultIsOfLine → (content : Bytes) (m : Simulation) → WellScoped m.spec → Certified m.spec → m.answered ≡ None
    → (k : ℕ) (state : WriterState) (old new : Option (List ℕ)) → Followed content m old state new → Stops m.spec m.limits content k end.WriteFault old state new
stops_refused one_run well_formed first_is content m scoped certified none k state old new h = record {
  trace = trace_text m.spec h.run;
  stands = h.stands;
  ends = begins_output one_run well_formed first_is m.spec scoped certified m.limits content m.reading.at h.run (unanswered_sound content m none h.has.fits) h.has.is_run;
}
