-- What `demo` leaves and promises.
use Rattle.std.proofs.Common.{◌≡◌, ℕ, ◌≤◌, Result, Ok, Err, Vec, sym, ◌∙◌, subst}
use Rattle.std.specs.Prelude.{IfOk}
use Rattle.std.specs.declared.alloc.Global.{Global}
use Rattle.rsml_lexer.specs.Laws.{AtMostOneTokenList, AtMostOneFirstFault, NeverBoth}
use Rattle.rsml_parser.specs.Laws.{HasOneAnswer}
use Rattle.rsml_ground.specs.Grounded.{IsShort}
use Rattle.rsml_syntax.specs.declared.syntax.Spec.{Spec}
use Rattle.rsml_meaning.specs.Certified.{Certified}
use Rattle.rsml_meaning.specs.EventFiles.{lines_of, program_limits, IsWellFormed}
use Rattle.rsml_meaning.specs.EventLines.{Bytes}
use Rattle.rsml_meaning.specs.Runs.{IsRun}
use Rattle.rsml_base.specs.declared.no_memory.NoMemory.{NoMemory}
use Rattle.demonstrating.specs.Events.{event_text}
use Rattle.demonstrating.specs.Laws.{IsDemo, DemoEventsAreWellFormed}
use Rattle.demonstrating.specs.Plant.{plant}
use Rattle.demonstrating.specs.Text.{text}
use Rattle.run_counts.specs.Counts.{HasCounts}
use Rattle.run_counts.specs.declared.counts.Counts.{Counts}
use Rattle.judging.specs.Headline.{IsRightReport}
use Rattle.judging.specs.Judgements.{IsJudgement}
use Rattle.judging.specs.Texts.{IsTextOf}
use Rattle.judging.specs.declared.judging.Judgement.{Judgement}
use Rattle.judging.specs.declared.judging.Judgement.TheVariants as judgement
use Rattle.judging.proofs.OneText.{one_text}
use Rattle.judging.proofs.ShortLemmas.{short_text}
use Rattle.answering.specs.Uses.{SinkUse}
use Rattle.answering.specs.declared.status.Status.{Status}
use Rattle.answering.specs.declared.status.Status.TheVariants as status
use Rattle.answering.proofs.AnswerLemmas.{Answers, wrote, without_memory, written_fits}
use Rattle.demonstrating.specs.Steps.{HasDemonstrated}
use Rattle.demonstrating.specs.Steps as steps
use Rattle.demonstrating.specs.Summary.{IsSummary, IsPlantOf, AreEventsOf, AreCountsOf, IsReportOf}

-- The plant.

-- the text reads as it
pub text_of : (n : ℕ) → IsDemo n → IsTextOf (text n) (plant n)
text_of n d = record { short = d.short; reads = d.reads }

-- it is short enough to be worked out over numbers
pub short_plant : (n : ℕ) (s : Spec) → IsPlantOf n s → IsShort s
short_plant n s p = subst (λ (t : Spec). IsShort t) (sym p.same) (short_text (text n) (plant n) (text_of n p.is_demo))

-- it is certified
pub certified_plant : (n : ℕ) (s : Spec) → IsPlantOf n s → Certified s
certified_plant n s p = subst (λ (t : Spec). Certified t) (sym p.same) p.is_demo.certified

-- the events are well-formed
pub events_formed : DemoEventsAreWellFormed → (n : ℕ) → 1 ≤ n → n ≤ 64 → (s : Spec) (bytes : Bytes) → IsPlantOf n s → AreEventsOf n bytes → IsWellFormed s program_limits bytes
events_formed law n some few s bytes p e =
    subst (λ (t : Spec). IsWellFormed t program_limits bytes) (sym p.same)
    (subst (λ (b : Bytes). IsWellFormed (plant n) program_limits b) (sym e.same) (law n some few).well_formed)

-- what is counted of them
counts_are : (n : ℕ) (s : Spec) (bytes : Bytes) (c : Counts) → IsPlantOf n s → AreEventsOf n bytes → HasCounts s bytes c → AreCountsOf n c
counts_are n s bytes c p e h = record {
  run = h.run;
  is_run = subst (λ (t : Spec). IsRun t (lines_of (event_text n)) h.run) p.same (subst (λ (b : Bytes). IsRun s (lines_of b) h.run) e.same h.is_run);
  counted = h.counted;
}

pub counts_answered : (n : ℕ) (s : Spec) (bytes : Bytes) (r : Result Counts NoMemory) → IsPlantOf n s → AreEventsOf n bytes → IfOk r (HasCounts s bytes) → IfOk r (AreCountsOf n)
counts_answered n s bytes (Ok c) p e h = counts_are n s bytes c p e h
counts_answered n s bytes (Err x) p e h = h

pub events_answered : {A : Type 0} (n : ℕ) (bytes : A → Bytes) (r : Result A NoMemory) → IfOk r (λ made. bytes made ≡ event_text n) → IfOk r (λ made. AreEventsOf n (bytes made))
events_answered n bytes (Ok made) h = record { same = h }
events_answered n bytes (Err x) h = h

module _ (faults : AtMostOneFirstFault) (lists : AtMostOneTokenList) (never : NeverBoth) (answers : HasOneAnswer) where
  -- the specification of a certificate of its text
  pub plant_is : (n : ℕ) (j : Judgement) (report : Vec ℕ Global) (checked : Spec) → IsDemo n → j ≡ judgement.Certified report checked → IsJudgement (text n) j
      → IsPlantOf n checked × IsReportOf n report.items
  plant_is n j report checked d e h =
      let is : IsJudgement (text n) (judgement.Certified report checked) = subst (IsJudgement (text n)) e h in
      let one : is.0 ≡ plant n = one_text faults lists never answers (text n) is.0 (plant n) is.1 (text_of n d) in
      let right : IsRightReport (plant n) report.items = subst (λ (s : Spec). IsRightReport s report.items) one is.2.2.report in
      (record { is_demo = d; same = is.2.0 ∙ one }, record { answers = right.answers; right = right.right; text = right.text })

-- What it promises, for any kind of contents.

module _ (n : ℕ) (k : SinkUse) (answer : Status) where
  pub demonstrated : (C : Type 0) (Tells : C → Type 0) (Output : C → Status → Bytes → Type 0) (Refused : Type 0) (Unread : C → Bytes → Type 0)
      → ((contents : C) (bytes : Bytes) → IsSummary n bytes → Output contents status.Done bytes) → HasDemonstrated n k answer
      → Answers C Tells Output Refused Unread k answer
  demonstrated C Tells Output Refused Unread out (steps.HasDemonstrated.no_memory e nothing) =
      without_memory C Tells Output Refused Unread k answer e nothing
  demonstrated C Tells Output Refused Unread out (steps.HasDemonstrated.summed bytes s w) =
      wrote C Tells Output Refused Unread k answer status.Done bytes w (λ e. absurd (cc e)) (λ e. absurd (cc e)) (λ contents _. out contents bytes s)

  -- which status it can be
  pub demonstrated_fits : (Fits : Status → Type 0) → Fits status.Done → Fits status.NoMemory → Fits status.WriteFault → HasDemonstrated n k answer → Fits answer
  demonstrated_fits Fits done no_memory write_fault (steps.HasDemonstrated.no_memory e nothing) = subst Fits (sym e) no_memory
  demonstrated_fits Fits done no_memory write_fault (steps.HasDemonstrated.summed bytes s w) =
      written_fits Fits k bytes status.Done answer w done write_fault
