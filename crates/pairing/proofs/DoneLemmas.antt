-- Where a command on two files ends with Done.
use Rattle.std.proofs.Common.{◌≡◌, List, subst}
use Rattle.rsml_meaning.specs.EventLines.{Bytes}
use Rattle.rsml_syntax.specs.declared.syntax.Spec.{Spec}
use Rattle.claim_syntax.specs.declared.claim.Claim.{Claim}
use Rattle.judging.specs.Texts.{IsTextOf}
use Rattle.answering.specs.declared.status.Status.{Status}
use Rattle.answering.specs.declared.status.Status.TheVariants as status
use Rattle.checking.proofs.HeadlineLemmas.{fault_is}
use Rattle.comparing.specs.Laws.{ReadsAsAlike, SameIsAlike}
use Rattle.comparing.specs.Outputs.{SameOutput, no_difference}
use Rattle.comparing.specs.Outputs as comparing
use Rattle.proving.specs.ClaimTexts.{AreKept}
use Rattle.proving.specs.Laws.{DoneIsProved, ReadsAsProved}
use Rattle.proving.specs.Outputs.{IsProved, ProveOutput}
use Rattle.proving.specs.ProveText.{proved_text}
use Rattle.pairing.specs.Kept.{IsKeptText}
use Rattle.pairing.specs.Outputs.{BareOutput, PairOutput, SecondOutput, Shows, looked_at}
use Rattle.pairing.specs.Outputs as output
use Rattle.pairing.specs.declared.pair_action.PairAction.{PairAction}
use Rattle.pairing.specs.declared.pair_action.PairAction.TheVariants as action
use Rattle.pairing.proofs.OnePair.{kept_checked}

-- the first text is kept
second_done : (does : PairAction) (text other : Bytes) (answer : Status) (report : Bytes) → answer ≡ status.Done → BareOutput does text other answer report
    → (s : Spec) × IsKeptText text s × SecondOutput does s other answer report
second_done does text other answer report e (output.BareOutput.fault f) = absurd ((fault_is text answer f.line f.fault).0 e)
second_done does text other answer report e (looked_at s is o) = (s, is, o)

-- `prove`.

module _ (law : DoneIsProved) where
  proved : (s : Spec) (claims : Bytes) (answer : Status) (bytes : Bytes) → answer ≡ status.Done → ProveOutput s claims answer bytes → ReadsAsProved s claims bytes
  proved s claims answer bytes e h = law s claims bytes (subst (λ (a : Status). ProveOutput s claims a bytes) e h)

  pub proved_output : (text claims : Bytes) (answer : Status) (bytes : Bytes) → answer ≡ status.Done → PairOutput action.Prove text claims answer bytes
      → (s : Spec) × (cs : List Claim) × IsTextOf text s × AreKept s claims cs × IsProved s cs × (bytes ≡ proved_text s cs)
  proved_output text claims answer bytes e h =
      let r = second_done action.Prove text claims answer bytes e h in
      let p = proved r.0 claims answer bytes e r.2 in
      (r.0, p.read, r.1.reads, p.kept, p.proved, p.text)

  pub explained_proof_output : (text claims : Bytes) (answer : Status) (bytes : Bytes) → answer ≡ status.Done
      → PairOutput action.ExplainProve text claims answer bytes
      → (s : Spec) × (cs : List Claim) × IsTextOf text s × AreKept s claims cs × IsProved s cs × Shows action.ExplainProve (λ b. b ≡ proved_text s cs) bytes
  explained_proof_output text claims answer bytes e h =
      let r = second_done action.ExplainProve text claims answer h.report e h.reported in
      let p = proved r.0 claims answer h.report e r.2 in (
        r.0,
        p.read,
        r.1.reads,
        p.kept,
        p.proved,
        record { report = h.report; notes = h.notes; split = h.split; reported = p.text; comments = h.comments },
      )

-- `same`.

compared_done : (s t : Spec) (answer : Status) (bytes : Bytes) → answer ≡ status.Done → comparing.PairOutput s t answer bytes → bytes ≡ no_difference
compared_done s t answer bytes e (comparing.unlike _ f _) = absurd (cc (e, f))
compared_done s t answer bytes e (comparing.uncertified _ _ _ f _) = absurd (cc (e, f))
compared_done s t answer bytes e (comparing.different _ _ _ _ f _) = absurd (cc (e, f))
compared_done s t answer bytes e (comparing.same _ _ _ _ h) = h

same_done : (s : Spec) (other : Bytes) (answer : Status) (bytes : Bytes) → answer ≡ status.Done → SameOutput s other answer bytes → bytes ≡ no_difference
same_done s other answer bytes e (comparing.unfit line f _) = absurd ((fault_is other answer line f).0 e)
same_done s other answer bytes e (comparing.compared t _ _ o) = compared_done s t answer bytes e o

module _ (law : SameIsAlike) where
  alike : (text : Bytes) (s : Spec) (other : Bytes) (answer : Status) (bytes : Bytes) → answer ≡ status.Done → IsKeptText text s → SameOutput s other answer bytes
      → ReadsAsAlike s other
  alike text s other answer bytes e is h =
      law s other bytes (kept_checked text s is) (subst (λ (a : Status). SameOutput s other a bytes) e h)

  pub same_output : (text other : Bytes) (answer : Status) (bytes : Bytes) → answer ≡ status.Done → PairOutput action.Same text other answer bytes
      → (s : Spec) × IsTextOf text s × ReadsAsAlike s other × (bytes ≡ no_difference)
  same_output text other answer bytes e h =
      let r = second_done action.Same text other answer bytes e h in
      (r.0, r.1.reads, alike text r.0 other answer bytes e r.1 r.2, same_done r.0 other answer bytes e r.2)

  pub explained_same_output : (text other : Bytes) (answer : Status) (bytes : Bytes) → answer ≡ status.Done → PairOutput action.ExplainSame text other answer bytes
      → (s : Spec) × IsTextOf text s × ReadsAsAlike s other × Shows action.ExplainSame (λ b. b ≡ no_difference) bytes
  explained_same_output text other answer bytes e h =
      let r = second_done action.ExplainSame text other answer h.report e h.reported in (
        r.0,
        r.1.reads,
        alike text r.0 other answer h.report e r.1 r.2,
        record { report = h.report; notes = h.notes; split = h.split; reported = same_done r.0 other answer h.report e r.2; comments = h.comments },
      )
