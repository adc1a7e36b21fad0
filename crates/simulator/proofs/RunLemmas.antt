-- Runs of lines of an event file, one after another.
use Rattle.std.proofs.Common.{◌≡◌, ◌+◌, List, [], ◌∷◌, ◌++◌, length, refl, sym, ap, ◌∙◌, subst}
use Rattle.std.proofs.lemmas.List.Elements.{filter_map-append}
use Rattle.rsml_syntax.specs.declared.syntax.Spec.{Spec}
use Rattle.rsml_syntax.specs.declared.world.World.{World}
use Rattle.rsml_meaning.specs.Certified.{Certified}
use Rattle.rsml_meaning.specs.EventLines.{Bytes, Message}
use Rattle.rsml_meaning.specs.EventFiles.{Line, message, messages}
use Rattle.rsml_meaning.specs.Runs.{Reaction, first_world, IsRunFrom, IsRun}
use Rattle.rsml_meaning.specs.Trace.{trace_text}
use Rattle.rsml_meaning.specs.Scoped.{WellScoped}
use Rattle.rsml_meaning.specs.RunLaws.{LinesHaveOneRun}
use Rattle.simulator.specs.helpers.Series.{world_after, texts_from}
use Rattle.simulator.proofs.SeriesLemmas.{trace_both}

-- One run after another.

pub run_both : (s : Spec) (w : World) (ms ns : List Message) (rs qs : List Reaction) → IsRunFrom s w ms rs → IsRunFrom s (world_after w rs) ns qs → IsRunFrom s w (ms ++ ns) (rs ++ qs)
run_both s w [] ns [] qs h k = k
run_both s w (m ∷ ms) ns (r ∷ rs) qs h k = (h.0, run_both s r.world ms ns rs qs h.1 k)
run_both s w [] ns (r ∷ rs) qs h k = elim h [ ]
run_both s w (m ∷ ms) ns [] qs h k = elim h [ ]

pub messages_both : (s : Spec) (ls ms : List Line) → messages s (ls ++ ms) ≡ messages s ls ++ messages s ms
messages_both s ls ms = filter_map-append (message s) ls ms

-- a run of lines, and a run of the events that more of them tell
pub more_lines : (s : Spec) (ls ms : List Line) (rs qs : List Reaction) → IsRun s ls rs → IsRunFrom s (world_after (first_world s) rs) (messages s ms) qs → IsRun s (ls ++ ms) (rs ++ qs)
more_lines s ls ms rs qs h k =
    subst (λ (es : List Message). IsRunFrom s (first_world s) es (rs ++ qs)) (sym (messages_both s ls ms)) (run_both s (first_world s) (messages s ls) (messages s ms) rs qs h k)

-- The first reactions of a run are a run of the first lines.

record Front (s : Spec) (w : World) (ms : List Message) (rs : List Reaction) : Type 0 where
  front : List Reaction
  back : List Reaction
  same : rs ≡ front ++ back
  is_run : IsRunFrom s w ms front

front_of : (s : Spec) (w : World) (ms ns : List Message) (rs : List Reaction) → IsRunFrom s w (ms ++ ns) rs → Front s w ms rs
front_of s w [] ns rs h = record { front = []; back = rs; same = refl; is_run = tt }
front_of s w (m ∷ ms) ns [] h = elim h [ ]
front_of s w (m ∷ ms) ns (r ∷ rs) h =
    let f = front_of s r.world ms ns rs h.1 in
    record { front = r ∷ f.front; back = f.back; same = ap (λ (qs : List Reaction). r ∷ qs) f.same; is_run = (h.0, f.is_run) }

module _ (one_run : LinesHaveOneRun) (s : Spec) (scoped : WellScoped s) (certified : Certified s) where
  -- a run of more lines goes on where a run of these ends
  pub run_goes_on : (ls ms : List Line) (rs qs : List Reaction) → IsRun s ls rs → IsRun s (ls ++ ms) qs → (more : List Reaction) × (qs ≡ rs ++ more)
  run_goes_on ls ms rs qs h k =
      let f = front_of s (first_world s) (messages s ls) (messages s ms) qs (subst (λ (es : List Message). IsRunFrom s (first_world s) es qs) (messages_both s ls ms) k) in
      let one = one_run s ls scoped certified in
      (f.back, f.same ∙ ap (λ (z : List Reaction). z ++ f.back) (one.only f.front f.is_run ∙ sym (one.only rs h)))

  -- and so does its trace
  pub trace_goes_on : (ls ms : List Line) (rs qs : List Reaction) → IsRun s ls rs → IsRun s (ls ++ ms) qs → (more : Bytes) × (trace_text s qs ≡ trace_text s rs ++ more)
  trace_goes_on ls ms rs qs h k =
      let m = run_goes_on ls ms rs qs h k in
      (texts_from s (length rs + 1) m.0, ap (trace_text s) m.1 ∙ trace_both s rs m.0)
