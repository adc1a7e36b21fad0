-- What counting promises at its end.
use Rattle.std.proofs.Common.{◌≡◌, ◌≢◌, ℕ, ◌+◌, ◌⊎◌, inl, inr, Bool, true, false, [], ◌++◌, length, Some, refl, sym, ap, ◌∙◌, subst, arith, length-append}
use Rattle.std.specs.Prelude.{codes}
use Rattle.rsml_io.specs.Writing.{appended, AppendsProperPrefix}
use Rattle.rsml_syntax.specs.declared.syntax.Spec.{Spec}
use Rattle.rsml_meaning.specs.EventLines.{Bytes, E1, E2, E3, E4, E5, E6, E7}
use Rattle.rsml_meaning.specs.EventFiles.{Limits, FileFault, long_line, broken_line, long_file}
use Rattle.rsml_meaning.specs.Texts.{text_line}
use Rattle.text_writer.specs.Buffering.{Written}
use Rattle.event_lines.specs.Told.{rule_of}
use Rattle.simulator.specs.Outputs.{Output, ReadOutput, done, faulty, fault_line, end_of}
use Rattle.simulator.specs.Simulating.{Follows, Meeting, ReadRefused, StopsReading}
use Rattle.simulator.specs.Ends.{last_line}
use Rattle.simulator.specs.declared.sim_end.SimEnd.{SimEnd}
use Rattle.simulator.specs.declared.sim_end.SimEnd.TheVariants as end
use Rattle.simulator.proofs.EndLemmas.{ends_some, fault_some}
use Rattle.coverage.specs.Coverage.{Coverage}
use Rattle.coverage.specs.Outputs.{IsCounted, EndsAtFault, text_of}
use Rattle.coverage.specs.Text.{covers, coverage_text}

-- Texts.

-- the end that tells a fault has its line
fault_text : (c : Coverage) (f : FileFault) → text_of c (end_of f) ≡ fault_line f
fault_text c (long_line n) = refl
fault_text c (broken_line n E1) = refl
fault_text c (broken_line n E2) = refl
fault_text c (broken_line n E3) = refl
fault_text c (broken_line n E4) = refl
fault_text c (broken_line n E5) = refl
fault_text c (broken_line n E6) = refl
fault_text c (broken_line n E7) = refl
fault_text c long_file = refl

-- an end but `Ended` has the line of a simulation
pub last_text : (c : Coverage) (e : SimEnd) → ((n : ℕ) → e ≡ end.Ended n → ⊥) → last_line e ≡ text_of c e
last_text c (end.Ended n) never = absurd (never n refl)
last_text c (end.LineFault n fault) never = refl
last_text c (end.LineTooLong n) never = refl
last_text c end.TooLong never = refl
last_text c end.ReadFault never = refl
last_text c end.WriteFault never = refl

begins_some : (a b : Bytes) → text_line a ++ b ≢ []
begins_some a b e =
    let none : length (text_line a ++ b) ≡ 0 = ap length e in
    let whole = length-append (text_line a) b in
    let line = length-append a (codes "\n") in
    let one : length (text_line a) ≡ length a + 1 = line in
    omega (arith, none, whole, one)

-- something is written
pub text_some : (c : Coverage) (e : SimEnd) → e ≢ end.WriteFault → text_of c e ≢ []
text_some c (end.Ended n) never = begins_some (codes "cover " ++ c.spec.name) _
text_some c (end.LineFault n fault) never = fault_some [] (broken_line n (rule_of fault))
text_some c (end.LineTooLong n) never = fault_some [] (long_line n)
text_some c end.TooLong never = fault_some [] long_file
text_some c end.ReadFault never = ends_some [] (codes "fault read")
text_some c end.WriteFault never = absurd (never refl)

-- Ends.

module _ (s : Spec) (limits : Limits) (m : Meeting) (k : ℕ) (e : SimEnd) (c : Coverage) (told : (content : Bytes) → m.told ≡ Some content → IsCounted s limits content k e c)
    (read : e ≡ end.ReadFault → ReadRefused m) (reach : m.reach ≡ Some 0 → m.reach_after ≡ Some k) (unwritten : e ≢ end.WriteFault) (all : Bool)
    (w : Written m.written m.writes_refused (text_of c e) all m.written_after m.writes_refused_after)
  where
    at_fault : (content : Bytes) (z : SimEnd) → EndsAtFault s limits content z → Output covers s limits content z (text_of c z)
    at_fault content z h = faulty h.fault h.run h.first h.is_run h.ends (ap (text_of c) h.ends ∙ fault_text c h.fault)

    output_of : (content : Bytes) (z : SimEnd) → z ≢ end.ReadFault → IsCounted s limits content k z c → Output covers s limits content z (text_of c z)
    output_of content (end.Ended n) never h = done h.run h.formed h.is_run (ap end.Ended h.count) (λ i. coverage_text (h.counted i) (h.count i))
    output_of content (end.LineFault n fault) never h = at_fault content (end.LineFault n fault) h
    output_of content (end.LineTooLong n) never h = at_fault content (end.LineTooLong n) h
    output_of content end.TooLong never h = at_fault content end.TooLong h
    output_of content end.ReadFault never h = absurd (never refl)
    output_of content end.WriteFault never h = absurd h

    stops : (content : Bytes) → m.told ≡ Some content → e ≡ end.ReadFault → StopsReading covers s limits m content (text_of c e)
    stops content h is =
        let there : IsCounted s limits content k end.ReadFault c = subst (λ (z : SimEnd). IsCounted s limits content k z c) is (told content h) in
        record { read = k; output = subst (λ (z : SimEnd). ReadOutput covers s limits content k (text_of c z)) (sym is) there; reach = reach }

    -- all was written
    pub covers_whole : all ≡ true → Follows covers s limits m e
    covers_whole whole = record {
      output = λ no_read no_write content h. (text_of c e, output_of content e no_read (told content h), w.whole whole);
      read_fault = λ is. (read is, λ content h. (text_of c e, stops content h is, w.whole whole));
      prefix = λ is. absurd (unwritten is);
    }

    -- a write was refused
    module _ (part : all ≡ false) where
      abbrev Left : Bytes → Type 0
      Left content =
          ((wanted : SimEnd) × (bytes : Bytes) × Output covers s limits content wanted bytes × AppendsProperPrefix m.written m.written_after bytes)
          ⊎ (ReadRefused m × ((bytes : Bytes) × StopsReading covers s limits m content bytes × AppendsProperPrefix m.written m.written_after bytes))

      other : (content : Bytes) → m.told ≡ Some content → e ≢ end.ReadFault → Left content
      other content h never = inl (e, text_of c e, output_of content e never (told content h), w.part part)

      left : (content : Bytes) → m.told ≡ Some content → (z : SimEnd) → e ≡ z → Left content
      left content h end.ReadFault is = inr (read is, (text_of c e, stops content h is, w.part part))
      left content h end.WriteFault is = absurd (unwritten is)
      left content h (end.Ended n) is = other content h (λ q. let no : end.Ended n ≡ end.ReadFault → ⊥ = λ x. cc in no (sym is ∙ q))
      left content h (end.LineFault n f) is = other content h (λ q. let no : end.LineFault n f ≡ end.ReadFault → ⊥ = λ x. cc in no (sym is ∙ q))
      left content h (end.LineTooLong n) is = other content h (λ q. let no : end.LineTooLong n ≡ end.ReadFault → ⊥ = λ x. cc in no (sym is ∙ q))
      left content h end.TooLong is = other content h (λ q. let no : end.TooLong ≡ end.ReadFault → ⊥ = λ x. cc in no (sym is ∙ q))

      pub covers_refused : Follows covers s limits m end.WriteFault
      covers_refused = record {
        output = λ no_read no_write. absurd (no_write refl);
        read_fault = λ is. absurd (let no : end.WriteFault ≡ end.ReadFault → ⊥ = λ x. cc in no is);
        prefix = λ is. (w.cause part, λ content h. left content h e refl);
      }
