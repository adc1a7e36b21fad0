-- What a simulation promises at its end.
use Rattle.std.proofs.Common.{◌≡◌, ◌≢◌, ℕ, ◌+◌, ◌⊎◌, inl, inr, Bool, true, false, List, [], ◌∷◌, ◌++◌, length, Option, Some, IfSome, refl, sym, ap, ◌∙◌, arith, subst, append-nil, length-append}
use Rattle.std.specs.Prelude.{codes, decimal}
use Rattle.rsml_io.specs.Counts.{Rose}
use Rattle.rsml_io.specs.Writing.{appended, AppendsProperPrefix}
use Rattle.rsml_syntax.specs.declared.syntax.Spec.{Spec}
use Rattle.rsml_meaning.specs.EventLines.{Bytes}
use Rattle.rsml_meaning.specs.EventFiles.{Limits, FileFault, long_line, broken_line, long_file}
use Rattle.rsml_meaning.specs.Texts.{text_line}
use Rattle.rsml_meaning.specs.Trace.{trace_text}
use Rattle.text_writer.specs.Writes.{WriterState, Writes}
use Rattle.text_writer.specs.Buffering.{Finishes, begins}
use Rattle.simulator.specs.declared.sim_end.SimEnd.{SimEnd}
use Rattle.simulator.specs.declared.sim_end.SimEnd.TheVariants as end
use Rattle.simulator.specs.Outputs.{Output, done, faulty, ReadOutput, traces, fault_line, read_line, rule_number}
use Rattle.simulator.specs.Simulating.{Meeting, ReadRefused, Simulates, StopsReading}
use Rattle.simulator.specs.Ends.{last_line}
use Rattle.simulator.specs.helpers.Progress.{Stands, Counted, EndsSo, Stops}
use Rattle.simulator.proofs.StandsLemmas.{one_more_stands, longer_stands, some_stand, counted_writes}

-- what a told fact says of what is told
pub of_told : {A : Type 0} (P : A → Type 0) (o : Option A) (x : A) → IfSome o P → o ≡ Some x → P x
of_told {A} P o x h e = let at : IfSome (Some x) P = subst (λ (z : Option A). IfSome z P) e h in at

-- Outputs have bytes.

pub ends_some : (front text : Bytes) → front ++ text_line text ≢ []
ends_some front text e =
    let none : length (front ++ text_line text) ≡ 0 = ap length e in
    let whole = length-append front (text_line text) in
    let line = length-append text (10 ∷ []) in
    let one : length (text_line text) ≡ length text + 1 = line in
    omega (arith, none, whole, one)

pub fault_some : (front : Bytes) (f : FileFault) → front ++ fault_line f ≢ []
fault_some front (long_line n) e = ends_some front (codes "fault line " ++ (decimal n ++ codes " long")) e
fault_some front (broken_line n rule) e = ends_some front (codes "fault line " ++ (decimal n ++ (codes " E" ++ decimal (rule_number rule)))) e
fault_some front long_file e = ends_some front (codes "fault long") e

along : (bytes other : Bytes) → bytes ≡ other → other ≢ [] → bytes ≢ []
along bytes other e some none = some (sym e ∙ none)

output_some : (s : Spec) (limits : Limits) (content : Bytes) (e : SimEnd) (bytes : Bytes) → Output traces s limits content e bytes → bytes ≢ []
output_some s limits content e bytes (done rs well run ended same) = along bytes _ same (ends_some (trace_text s rs) (codes "end " ++ decimal (length rs)))
output_some s limits content e bytes (faulty f rs first run ended same) = along bytes _ same (fault_some (trace_text s rs) f)

read_some : (s : Spec) (limits : Limits) (content : Bytes) (k : ℕ) (bytes : Bytes) → ReadOutput traces s limits content k bytes → bytes ≢ []
read_some s limits content k bytes o = along bytes (trace_text s o.run ++ read_line) o.text (ends_some (trace_text s o.run) (codes "fault read"))

-- with its last line it is the output
whole_output : (s : Spec) (limits : Limits) (content : Bytes) (k : ℕ) (e : SimEnd) (trace : Bytes) → e ≢ end.ReadFault → e ≢ end.WriteFault → EndsSo s limits content k e trace → Output traces s limits content e (trace ++ last_line e)
whole_output s limits content k (end.Ended n) trace no_read no_write h = h
whole_output s limits content k (end.LineFault n fault) trace no_read no_write h = h
whole_output s limits content k (end.LineTooLong n) trace no_read no_write h = h
whole_output s limits content k end.TooLong trace no_read no_write h = h
whole_output s limits content k end.ReadFault trace no_read no_write h = absurd (no_read refl)
whole_output s limits content k end.WriteFault trace no_read no_write h = absurd (no_write refl)

not_whole : (b : Bool) → b ≡ true → b ≡ false → ⊥
not_whole b h k = cc

-- What is known when the last line was written and the sink was given back.
pub record Closing (s : Spec) (limits : Limits) (m : Meeting) (k : ℕ) (e : SimEnd) (name : ℕ) (was mid last : WriterState) (mid_text last_text : Option (List ℕ)) (all : Bool) (held : ℕ) : Type 0 where
  pub told : (content : Bytes) → m.told ≡ Some content → Stops s limits content k e m.written mid mid_text
  pub read : e ≡ end.ReadFault → ReadRefused m
  pub reach : m.reach ≡ Some 0 → m.reach_after ≡ Some k
  pub refused : e ≡ end.WriteFault → mid.whole ≡ false
  pub begun : was ≡ begins name m.written m.writes_refused
  pub counted : Counted was mid
  pub line : Writes mid mid_text (last_line e) last last_text
  pub finishes : Finishes last last_text all held m.writes_refused_after m.written_after

module _ (s : Spec) (limits : Limits) (m : Meeting) (k : ℕ) (e : SimEnd) (name : ℕ) (was mid last : WriterState) (mid_text last_text : Option (List ℕ)) (all : Bool) (held : ℕ)
    (c : Closing s limits m k e name was mid last mid_text last_text all held)
  where
    abbrev output_of : Bytes → Bytes
    output_of trace = trace ++ last_line e

    stands : (content : Bytes) (h : m.told ≡ Some content) → Stands m.written (output_of (c.told content h).trace) last last_text
    stands content h = one_more_stands mid last m.written mid_text last_text (c.told content h).trace (last_line e) (c.told content h).stands c.line

    read_output : (content : Bytes) (trace : Bytes) → e ≡ end.ReadFault → EndsSo s limits content k e trace → ReadOutput traces s limits content k (output_of trace)
    read_output content trace is h =
        let there : EndsSo s limits content k end.ReadFault trace = subst (λ (z : SimEnd). EndsSo s limits content k z trace) is h in
        subst (λ (z : SimEnd). ReadOutput traces s limits content k (trace ++ last_line z)) (sym is) there

    stops_reading : (content : Bytes) (trace : Bytes) → e ≡ end.ReadFault → EndsSo s limits content k e trace → StopsReading traces s limits m content (output_of trace)
    stops_reading content trace is h = record { read = k; output = read_output content trace is h; reach = c.reach }

    -- all was written
    module _ (whole : all ≡ true) where
      mid_whole : mid.whole ≡ true
      mid_whole = c.line.before (c.finishes.earlier whole)

      written : (content : Bytes) (h : m.told ≡ Some content) → m.written_after ≡ appended m.written (output_of (c.told content h).trace)
      written content h = c.finishes.whole whole ∙ (stands content h).all (c.finishes.earlier whole)

      pub closes_whole : Simulates s limits m e
      closes_whole = record {
        output = λ no_read no_write content h.
            (output_of (c.told content h).trace, whole_output s limits content k e (c.told content h).trace no_read no_write (c.told content h).ends, written content h);
        read_fault = λ is. (c.read is, λ content h. (output_of (c.told content h).trace, stops_reading content (c.told content h).trace is (c.told content h).ends, written content h));
        prefix = λ is. absurd (not_whole mid.whole mid_whole (c.refused is));
      }

    -- a write was refused
    module _ (part : all ≡ false) where
      target : last.target ≡ was.target
      target = c.line.same ∙ c.counted.same

      rose : Rose m.writes_refused m.writes_refused_after
      rose = subst (λ (n : ℕ). Rose n m.writes_refused_after) (ap (λ (z : WriterState). z.refusals) c.begun) (by last.whole refl)
        where
          counted : Counted was last
          counted = counted_writes was mid last mid_text last_text (last_line e) c.counted c.line

          by : (b : Bool) → last.whole ≡ b → Rose was.refusals m.writes_refused_after
          by true w = let a = counted.count in let r = c.finishes.cause w part in omega (arith, a, r)
          by false w = let r = counted.cause w in let a = c.finishes.count in omega (arith, a, r)

      prefix : (bytes : Bytes) → bytes ≢ [] → Stands m.written bytes last last_text → AppendsProperPrefix m.written m.written_after bytes
      prefix bytes some h = c.finishes.part part was name m.writes_refused m.written bytes c.begun target some (some_stand last m.written last_text bytes h)

      abbrev Left : Bytes → Type 0
      Left content =
          ((wanted : SimEnd) × (bytes : Bytes) × Output traces s limits content wanted bytes × AppendsProperPrefix m.written m.written_after bytes)
          ⊎ (ReadRefused m × ((bytes : Bytes) × StopsReading traces s limits m content bytes × AppendsProperPrefix m.written m.written_after bytes))

      left_write : (content : Bytes) (h : m.told ≡ Some content) → e ≡ end.WriteFault → Left content
      left_write content h is =
          let st = c.told content h in
          let there : EndsSo s limits content k end.WriteFault st.trace = subst (λ (z : SimEnd). EndsSo s limits content k z st.trace) is st.ends in
          let none : output_of st.trace ≡ st.trace = ap (λ (z : SimEnd). st.trace ++ last_line z) is ∙ append-nil st.trace in
          let stood : Stands m.written st.trace last last_text = subst (λ (b : Bytes). Stands m.written b last last_text) none (stands content h) in
          inl (
            there.0,
            st.trace ++ there.1,
            there.2,
            prefix (st.trace ++ there.1) (output_some s limits content there.0 (st.trace ++ there.1) there.2)
                (longer_stands last m.written last_text st.trace there.1 (last_refused (c.refused is)) stood),
          )
        where
          last_refused : mid.whole ≡ false → last.whole ≡ false
          last_refused r = by last.whole refl
            where
              by : (b : Bool) → last.whole ≡ b → last.whole ≡ false
              by true w = absurd (not_whole mid.whole (c.line.before w) r)
              by false w = w

      left_read : (content : Bytes) (h : m.told ≡ Some content) → e ≡ end.ReadFault → Left content
      left_read content h is =
          let st = c.told content h in
          inr (c.read is, (output_of st.trace, stops_reading content st.trace is st.ends, prefix (output_of st.trace) (read_some s limits content k (output_of st.trace) (read_output content st.trace is st.ends)) (stands content h)))

      left_other : (content : Bytes) (h : m.told ≡ Some content) → e ≢ end.ReadFault → e ≢ end.WriteFault → Left content
      left_other content h no_read no_write =
          let st = c.told content h in
          let out = whole_output s limits content k e st.trace no_read no_write st.ends in
          inl (e, output_of st.trace, out, prefix (output_of st.trace) (output_some s limits content e (output_of st.trace) out) (stands content h))

      left : (content : Bytes) → m.told ≡ Some content → Left content
      left content h = by e refl
        where
          by : (z : SimEnd) → e ≡ z → Left content
          by end.WriteFault is = left_write content h is
          by end.ReadFault is = left_read content h is
          by (end.Ended n) is = left_other content h (λ q. let no : end.Ended n ≡ end.ReadFault → ⊥ = λ x. cc in no (sym is ∙ q)) (λ q. let no : end.Ended n ≡ end.WriteFault → ⊥ = λ x. cc in no (sym is ∙ q))
          by (end.LineFault n f) is = left_other content h (λ q. let no : end.LineFault n f ≡ end.ReadFault → ⊥ = λ x. cc in no (sym is ∙ q)) (λ q. let no : end.LineFault n f ≡ end.WriteFault → ⊥ = λ x. cc in no (sym is ∙ q))
          by (end.LineTooLong n) is = left_other content h (λ q. let no : end.LineTooLong n ≡ end.ReadFault → ⊥ = λ x. cc in no (sym is ∙ q)) (λ q. let no : end.LineTooLong n ≡ end.WriteFault → ⊥ = λ x. cc in no (sym is ∙ q))
          by end.TooLong is = left_other content h (λ q. let no : end.TooLong ≡ end.ReadFault → ⊥ = λ x. cc in no (sym is ∙ q)) (λ q. let no : end.TooLong ≡ end.WriteFault → ⊥ = λ x. cc in no (sym is ∙ q))

      pub closes_refused : Simulates s limits m end.WriteFault
      closes_refused = record {
        output = λ no_read no_write. absurd (no_write refl);
        read_fault = λ is. absurd (let no : end.WriteFault ≡ end.ReadFault → ⊥ = λ x. cc in no is);
        prefix = λ is. (rose, λ content h. left content h);
      }
