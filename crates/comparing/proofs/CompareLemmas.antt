-- What `same` comes to on a second text, by what its steps answered.
use Rattle.std.proofs.Common.{◌≡◌, ℕ, Vec, Result, Ok, Err, Option, Some, None, MatchOption, refl, sym, subst}
use Rattle.std.specs.Prelude.{IfOk}
use Rattle.std.specs.declared.alloc.Global.{Global}
use Rattle.std.proofs.lemmas.Option.{MatchOption-at_none, MatchOption-at_some}
use Rattle.rsml_base.specs.declared.no_memory.NoMemory.{NoMemory}
use Rattle.rsml_syntax.specs.declared.syntax.Spec.{Spec}
use Rattle.rsml_meaning.specs.EventLines.{Bytes}
use Rattle.equal_frames.specs.Differences.{Difference, IsDifference, NoDifference}
use Rattle.same_spec.specs.Found.{IsFound}
use Rattle.same_spec.specs.declared.found.Found.{Found}
use Rattle.judging.specs.Judgements.{IsKept}
use Rattle.judging.specs.declared.kept_text.Kept.{Kept}
use Rattle.judging.specs.declared.kept_text.Kept.TheVariants as kept
use Rattle.answering.specs.Lines as lines
use Rattle.answering.specs.Outcomes.{answer_of, bytes_of}
use Rattle.answering.specs.Writing.{IsOfText}
use Rattle.answering.specs.declared.outcome.Outcome.{Outcome}
use Rattle.answering.specs.declared.status.Status.{Status}
use Rattle.answering.specs.declared.status.Status.TheVariants as status
use Rattle.answering.proofs.OutcomeLemmas.{done_of_text, refused_of_text}
use Rattle.checking.specs.Outputs.{TextFault}
use Rattle.checking.specs.Outputs as checks
use Rattle.checking.proofs.CheckLemmas.{fault_answers}
use Rattle.comparing.specs.DifferenceText.{difference_text}
use Rattle.comparing.specs.Outputs.{PairOutput, SameOutput}
use Rattle.comparing.specs.Outputs as output
use Rattle.comparing.specs.Steps.{TellsDifference, IsDifferenceText, IsComparison, IsUnfit, status_of, text_of}
use Rattle.comparing.specs.declared.comparison.Comparison.{Comparison}
use Rattle.comparing.specs.declared.comparison.Comparison.TheVariants as comparison

-- What was found of two specifications.

abbrev pub AreSought : Spec → Spec → Option Found → Type 0
AreSought s t found = MatchOption found (NoDifference s t) (λ x. (d : Difference) × IsFound s x d × IsDifference s t d)

pub none_found : (s t : Spec) (found : Option Found) → found ≡ None → AreSought s t found → NoDifference s t
none_found s t found e h = MatchOption-at_none (NoDifference s t) (λ x. (d : Difference) × IsFound s x d × IsDifference s t d) e h

pub one_found : (s t : Spec) (found : Option Found) (x : Found) → found ≡ Some x → AreSought s t found → (d : Difference) × IsFound s x d × IsDifference s t d
one_found s t found x e h = MatchOption-at_some (NoDifference s t) (λ x. (d : Difference) × IsFound s x d × IsDifference s t d) x e h

pub tells : (s t : Spec) (x : Found) → (d : Difference) × IsFound s x d × IsDifference s t d → TellsDifference s x
tells s t x h = record { difference = h.0; found = h.1; world = h.2.least.such.0 }

pub told : (s t : Spec) (x : Found) (text : Bytes) → (d : Difference) × IsFound s x d × IsDifference s t d → ((d : Difference) → IsFound s x d → text ≡ difference_text s d) → IsDifferenceText s t text
told s t x text h is = record { difference = h.0; first = h.2; text_is = is h.0 h.1 }

-- By what the comparison comes to.

pub pair_output : (s t : Spec) (c : Comparison) → IsComparison s t c → PairOutput s t (status_of c) (text_of c)
pair_output s t comparison.Unlike h = output.unlike h refl refl
pair_output s t (comparison.Uncertified report verdicts) h = output.uncertified report.items h.0 h.1 refl refl
pair_output s t (comparison.Different text) h = output.different h.2.difference h.0 h.1 h.2.first refl h.2.text_is
pair_output s t comparison.Same h = output.same h.0 h.1 h.2 refl refl

pub pair_told : (s t : Spec) (c : Comparison) (answer : Status) (text : Bytes) → IsComparison s t c → answer ≡ status_of c → text ≡ text_of c → PairOutput s t answer text
pair_told s t c answer text h e f = subst (λ (a : Status). PairOutput s t a text) (sym e) (subst (λ (x : Bytes). PairOutput s t (status_of c) x) (sym f) (pair_output s t c h))

-- By what the second text is.

pub checked_is : (text : Bytes) (k : Kept) (s : Spec) → k ≡ kept.Checked s → IsKept text k → IsKept text (kept.Checked s)
checked_is text k s e h = subst (IsKept text) e h

pub long_fault : (text : Bytes) (k : Kept) → k ≡ kept.TooLong → IsKept text k → TextFault text status.TooLong lines.long
long_fault text k e h = let is : IsKept text kept.TooLong = subst (IsKept text) e h in checks.TextFault.too_long is refl refl

pub unread_fault : (text line : Bytes) (k : Kept) (given : Vec ℕ Global) → k ≡ kept.Unread given → line ≡ given.items → IsKept text k → TextFault text status.SpecFault line
unread_fault text line k given e f h =
    let is : IsKept text (kept.Unread given) = subst (IsKept text) e h in
    subst (λ (x : Bytes). TextFault text status.SpecFault x) (sym f) (checks.TextFault.unread is refl)

pub broken_fault : (text line : Bytes) (k : Kept) (given : Vec ℕ Global) → k ≡ kept.Broken given → line ≡ given.items → IsKept text k → TextFault text status.SpecFault line
broken_fault text line k given e f h =
    let is : IsKept text (kept.Broken given) = subst (IsKept text) e h in
    subst (λ (x : Bytes). TextFault text status.SpecFault x) (sym f) (checks.broken is.0 is.1 is.2 refl)

pub unfit_output : (s : Spec) (text line : Bytes) (answer : Status) (r : Result Outcome NoMemory) → TextFault text answer line → IfOk r (IsUnfit answer line)
    → IfOk r (λ o. SameOutput s text (answer_of o) (bytes_of o))
unfit_output s text line answer (Ok o) f h = subst (λ (a : Status). SameOutput s text a (bytes_of o)) (sym h.0) (output.unfit line f h.1)
unfit_output s text line answer (Err x) f h = h

pub compared_output : (s t : Spec) (text : Bytes) (r : Result Outcome NoMemory) → IsKept text (kept.Checked t)
    → IfOk r (λ o. PairOutput s t (answer_of o) (bytes_of o)) → IfOk r (λ o. SameOutput s text (answer_of o) (bytes_of o))
compared_output s t text (Ok o) is h = output.compared t is.0 is.1 h
compared_output s t text (Err x) is h = h

-- It answers what may be answered of texts.

pair_answers : (s t : Spec) (answer : Status) (bytes : Bytes) → PairOutput s t answer bytes → IsOfText answer
pair_answers s t answer bytes (output.unlike _ e _) = refused_of_text answer e
pair_answers s t answer bytes (output.uncertified _ _ _ e _) = refused_of_text answer e
pair_answers s t answer bytes (output.different _ _ _ _ e _) = refused_of_text answer e
pair_answers s t answer bytes (output.same _ _ _ e _) = done_of_text answer e

pub same_answers : (s : Spec) (text : Bytes) (answer : Status) (bytes : Bytes) → SameOutput s text answer bytes → IsOfText answer
same_answers s text answer bytes (output.unfit line f _) = fault_answers text answer line f
same_answers s text answer bytes (output.compared t _ _ h) = pair_answers s t answer bytes h
