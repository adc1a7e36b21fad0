-- What `prove` comes to, by what its steps answered.
use Rattle.std.proofs.Common.{◌≡◌, ℕ, List, Vec, ◌++◌, Result, Ok, Err, sym, ap, ◌∙◌, subst}
use Rattle.std.specs.Prelude.{IfOk}
use Rattle.std.specs.List.{AllZip}
use Rattle.std.specs.declared.alloc.Global.{Global}
use Rattle.rsml_base.specs.declared.no_memory.NoMemory.{NoMemory}
use Rattle.rsml_syntax.specs.declared.syntax.Spec.{Spec}
use Rattle.rsml_meaning.specs.Certified.{Certified}
use Rattle.rsml_meaning.specs.EventLines.{Bytes}
use Rattle.explaining.specs.Outputs.{WithNotes}
use Rattle.answering.specs.Outcomes.{answer_of, bytes_of}
use Rattle.answering.specs.declared.outcome.Outcome.{Outcome}
use Rattle.answering.specs.declared.status.Status.{Status}
use Rattle.rsml_syntax.specs.limits.Limits.{Keeps}
use Rattle.rsml_meaning.specs.Words.{Each}
use Rattle.claim_syntax.specs.declared.claim.Claim.{Claim}
use Rattle.claim_syntax.specs.OfStates.{IsOfStates}
use Rattle.ground_claims.specs.declared.claim.GroundClaim.{GroundClaim}
use Rattle.ground_claims.specs.StandsFor.{ClaimIs}
use Rattle.invariants.specs.declared.proof.Proof.{Proof}
use Rattle.invariants.specs.Proof.{IsProof}
use Rattle.proving.specs.ClaimTexts.{AreKept}
use Rattle.proving.specs.Outputs.{ClaimsFault, ClaimsOutput, ProveOutput}
use Rattle.proving.specs.Outputs as output
use Rattle.proving.specs.Fitting.{FitsProof}
use Rattle.proving.specs.Numbers.{proof_text, status_of}
use Rattle.proving.specs.ProveText.{heading, of_second}
use Rattle.judging.specs.Texts.{IsTextOf}
use Rattle.ground_claims.specs.Checked.{AreChecked}
use Rattle.proving.proofs.ClaimLemmas.{checked_of}
use Rattle.proving.proofs.TextLemmas.{proof_fits, proof_told}
use Rattle.proving.specs.Steps.{AreJudged, IsUnfit, IsExplainedUnfit}
use Rattle.proving.specs.declared.keeping.KeptClaims.{KeptClaims}
use Rattle.proving.specs.declared.keeping.KeptClaims.TheVariants as kept

-- what is written before the comment lines is so
noted : (Is As : Bytes → Type 0) (bytes : Bytes) → (h : WithNotes Is bytes) → As h.report → WithNotes As bytes
noted Is As bytes h there = record { report = h.report; notes = h.notes; split = h.split; reported = there; comments = h.comments }

-- By what the claims are.

pub unfit_is : (s : Spec) (text : Bytes) (k : KeptClaims) (answer : Status) (line : Vec ℕ Global) → k ≡ kept.Unfit answer line → AreJudged s text k
    → ClaimsFault s text answer line.items
unfit_is s text k answer line e h = subst (AreJudged s text) e h

pub kept_is : (s : Spec) (text : Bytes) (k : KeptClaims) (cs : Vec Claim Global) → k ≡ kept.Kept cs → AreJudged s text k → AreKept s text cs.items
kept_is s text k cs e h = subst (AreJudged s text) e h

module _ (s : Spec) (text : Bytes) where
  pub fault_output : (answer : Status) (line : Bytes) (r : Result Outcome NoMemory) → ClaimsFault s text answer line → (told : Bytes) → told ≡ line → IfOk r (IsUnfit answer told)
      → IfOk r (λ o. ProveOutput s text (answer_of o) (bytes_of o))
  fault_output answer line (Ok o) f told same h = output.fault line (subst (λ (a : Status). ClaimsFault s text a line) (sym h.0) f) (h.1 ∙ ap of_second same)
  fault_output answer line (Err x) f told same h = h

  pub kept_output : (cs ds : List Claim) (r : Result Outcome NoMemory) → AreKept s text cs → ds ≡ cs → IfOk r (λ o. ClaimsOutput s ds (answer_of o) (bytes_of o))
      → IfOk r (λ o. ProveOutput s text (answer_of o) (bytes_of o))
  kept_output cs ds (Ok o) k same h = output.judged cs k (subst (λ (l : List Claim). ClaimsOutput s l (answer_of o) (bytes_of o)) same h)
  kept_output cs ds (Err x) k same h = h

  pub fault_explained : (answer : Status) (line : Bytes) (r : Result Outcome NoMemory) → ClaimsFault s text answer line → (told : Bytes) → told ≡ line
      → IfOk r (IsExplainedUnfit answer told) → IfOk r (λ o. WithNotes (ProveOutput s text (answer_of o)) (bytes_of o))
  fault_explained answer line (Ok o) f told same h =
      noted (λ bytes. bytes ≡ of_second told) (ProveOutput s text (answer_of o)) (bytes_of o) h.1
      (output.fault line (subst (λ (a : Status). ClaimsFault s text a line) (sym h.0) f) (h.1.reported ∙ ap of_second same))
  fault_explained answer line (Err x) f told same h = h

  pub kept_explained : (cs ds : List Claim) (r : Result Outcome NoMemory) → AreKept s text cs → ds ≡ cs
      → IfOk r (λ o. WithNotes (ClaimsOutput s ds (answer_of o)) (bytes_of o)) → IfOk r (λ o. WithNotes (ProveOutput s text (answer_of o)) (bytes_of o))
  kept_explained cs ds (Ok o) k same h =
      noted (ClaimsOutput s ds (answer_of o)) (ProveOutput s text (answer_of o)) (bytes_of o) h
      (output.judged cs k (subst (λ (l : List Claim). ClaimsOutput s l (answer_of o) h.report) same h.reported))
  kept_explained cs ds (Err x) k same h = h

-- claims that are kept are checked, as a slice of them
pub kept_checked : (text claims : Bytes) (s : Spec) (cs : Vec Claim Global) (ds : List Claim) → ds ≡ cs.items → IsTextOf text s → AreKept s claims cs.items → AreChecked s ds
kept_checked text claims s cs ds same t k = subst (AreChecked s) (sym same) (checked_of text claims s cs.items t k)

-- what was written of claims of a certified specification, by the machine of a specification that is the same
pub certified_output : (s m : Spec) (cs : List Claim) (p : Proof) (answer : Status) (bytes : Bytes) → Keeps s → Each IsOfStates cs → Certified s → m ≡ s → IsProof s cs p
    → answer ≡ status_of p → bytes ≡ heading m cs ++ proof_text m cs p → ClaimsOutput s cs answer bytes
certified_output s m cs p answer bytes keeps states certified same is ends text =
    subst (λ (a : Status). ClaimsOutput s cs a bytes) (sym ends)
    (subst (ClaimsOutput s cs (status_of p)) (sym (text ∙ ap (λ (t : Spec). heading t cs ++ proof_text t cs p) same)) (proof_told s cs keeps states certified p is))

pub fits_machine : (s m : Spec) (cs : List Claim) (p : Proof) → m ≡ s → IsProof s cs p → FitsProof m cs p
fits_machine s m cs p same is = subst (λ (t : Spec). FitsProof t cs p) (sym same) (proof_fits s cs p is)

-- claims over numbers, as a slice of them
pub stand_for : (s : Spec) (cs : List Claim) (gs hs : List GroundClaim) → hs ≡ gs → AllZip (ClaimIs s) cs gs → AllZip (ClaimIs s) cs hs
stand_for s cs gs hs same are = subst (AllZip (ClaimIs s) cs) (sym same) are
