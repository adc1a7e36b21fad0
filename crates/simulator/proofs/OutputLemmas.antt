-- Outputs of a simulation.
use Rattle.std.proofs.Common.{◌≡◌, ℕ, Bool, true, false, cond, List, [], ◌∷◌, ◌++◌, length, Option, Some, None, refl, sym, ap, ◌∙◌, subst, append_assoc}
use Rattle.std.specs.Prelude.{is_none, nat_lt, take_while}
use Rattle.std.proofs.lemmas.List.Sums.{take_while-cons}
use Rattle.rsml_syntax.specs.declared.syntax.Spec.{Spec}
use Rattle.rsml_meaning.specs.Words.{Each}
use Rattle.rsml_meaning.specs.Certified.{Certified}
use Rattle.rsml_meaning.specs.EventLines.{Bytes}
use Rattle.rsml_meaning.specs.EventFiles.{Limits, Line, FileFault, lines_of, fault_at, first_fault, sound_lines}
use Rattle.rsml_meaning.specs.Laws.{WellFormedHasNoFault, FirstFaultIsOfLine}
use Rattle.rsml_meaning.specs.Runs.{Reaction, IsRun}
use Rattle.rsml_meaning.specs.Trace.{trace_text, end_line}
use Rattle.rsml_meaning.specs.Scoped.{WellScoped}
use Rattle.rsml_meaning.specs.RunLaws.{LinesHaveOneRun}
use Rattle.event_file.specs.Reading.{lines_ahead}
use Rattle.event_lines.specs.declared.line_fault.LineFault.{LineFault}
use Rattle.event_lines.specs.declared.line_fault.LineFault.TheVariants.{NotUtf8, UnknownInterface, BadIndex, WrongField, ExtraWord, NotAValue, OutOfRange}
use Rattle.event_lines.specs.Told.{rule_of}
use Rattle.simulator.specs.declared.sim_end.SimEnd.{SimEnd}
use Rattle.simulator.specs.declared.sim_end.SimEnd.TheVariants as end
use Rattle.simulator.specs.Outputs.{Output, done, faulty, end_of, fault_of, fault_line, traces}
use Rattle.simulator.specs.helpers.Progress.{AreSound}
use Rattle.simulator.proofs.RunLemmas.{trace_goes_on}

-- What is left of a list behind a front.

rest_of : {A : Type 0} (p : A → Bool) (xs : List A) → (rest : List A) × (xs ≡ take_while p xs ++ rest)
rest_of p [] = ([], refl)
rest_of {A} p (x ∷ xs) = subst (λ (front : List A). (rest : List A) × ((x ∷ xs) ≡ front ++ rest)) (sym (take_while-cons p x xs)) (by (p x) (rest_of p xs))
  where
    by : (b : Bool) → (rest : List A) × (xs ≡ take_while p xs ++ rest) → (rest : List A) × ((x ∷ xs) ≡ cond b (x ∷ take_while p xs) [] ++ rest)
    by true r = (r.0, ap (λ (ys : List A). x ∷ ys) r.1)
    by false r = (x ∷ xs, refl)

all_ahead_of : (content : Bytes) (at : ℕ) → (rest : List Line) × (lines_of content ≡ lines_ahead at content ++ rest)
unfolding lines_ahead
all_ahead_of content at = rest_of (λ l. nat_lt l.start at) (lines_of content)

taken_past : {A B : Type 0} (f : A → Option B) (xs ys : List A) → Each (λ x. f x ≡ None) xs → take_while (λ x. is_none (f x)) (xs ++ ys) ≡ xs ++ take_while (λ x. is_none (f x)) ys
taken_past f [] ys h = refl
taken_past f (x ∷ xs) ys h =
    take_while-cons (λ z. is_none (f z)) x (xs ++ ys) ∙ ap (λ o. cond (is_none o) (x ∷ take_while (λ z. is_none (f z)) (xs ++ ys)) []) h.0
    ∙ ap (λ zs. x ∷ zs) (taken_past f xs ys h.1)

-- the fault of a rule's fault
pub fault_again : (fault : LineFault) → fault_of (rule_of fault) ≡ fault
fault_again NotUtf8 = refl
fault_again UnknownInterface = refl
fault_again BadIndex = refl
fault_again WrongField = refl
fault_again ExtraWord = refl
fault_again NotAValue = refl
fault_again OutOfRange = refl

-- The trace of lines without a fault begins an output.

module _ (one_run : LinesHaveOneRun) (well_formed : WellFormedHasNoFault) (first_is : FirstFaultIsOfLine)
    (s : Spec) (scoped : WellScoped s) (certified : Certified s) (limits : Limits) (content : Bytes) (at : ℕ) (rs : List Reaction)
    (sound : AreSound s limits content (lines_ahead at content)) (run : IsRun s (lines_ahead at content) rs)
  where
    abbrev fault : Line → Option FileFault
    fault l = fault_at s limits (length content) l

    -- a run of more lines goes on
    longer : (lines more : List Line) → lines ≡ lines_ahead at content ++ more → (qs : List Reaction) → IsRun s lines qs → (bytes : Bytes) × (trace_text s qs ≡ trace_text s rs ++ bytes)
    longer lines more same qs is = trace_goes_on one_run s scoped certified (lines_ahead at content) more rs qs run (subst (λ (ls : List Line). IsRun s ls qs) same is)

    abbrev Begun : Type 0
    Begun = (wanted : SimEnd) × (more : Bytes) × Output traces s limits content wanted (trace_text s rs ++ more)

    without : first_fault s limits content ≡ None → Begun
    without none =
        let rest = all_ahead_of content at in
        let one = one_run s (lines_of content) scoped certified in
        let more = longer (lines_of content) rest.0 rest.1 one.run one.is_run in (
          end.Ended (length one.run),
          more.0 ++ end_line one.run,
          done one.run ((well_formed s limits content).0 none) one.is_run refl (sym (append_assoc (trace_text s rs) more.0 (end_line one.run)) ∙ ap (λ (t : Bytes). t ++ end_line one.run) (sym more.1)),
        )

    with_fault : (f : FileFault) → first_fault s limits content ≡ Some f → Begun
    with_fault f is =
        let rest = all_ahead_of content at in
        let one = one_run s (sound_lines s limits content) scoped certified in
        let same : sound_lines s limits content ≡ lines_ahead at content ++ take_while (λ l. is_none (fault l)) rest.0 =
        ap (take_while (λ l. is_none (fault l))) rest.1 ∙ taken_past fault (lines_ahead at content) rest.0 sound in
        let more = longer (sound_lines s limits content) (take_while (λ l. is_none (fault l)) rest.0) same one.run one.is_run in (
          end_of f,
          more.0 ++ fault_line f,
          faulty f one.run ((first_is s limits content f).0 is) one.is_run refl (sym (append_assoc (trace_text s rs) more.0 (fault_line f)) ∙ ap (λ (t : Bytes). t ++ fault_line f) (sym more.1)),
        )

    pub begins_output : (wanted : SimEnd) × (more : Bytes) × Output traces s limits content wanted (trace_text s rs ++ more)
    begins_output = by (first_fault s limits content) refl
      where
        by : (o : Option FileFault) → first_fault s limits content ≡ o → Begun
        by None e = without e
        by (Some f) e = with_fault f e
