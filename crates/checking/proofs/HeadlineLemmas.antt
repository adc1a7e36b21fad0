-- The headline, from what `check` comes to.
use Rattle.std.proofs.Common.{◌≡◌, ◌≢◌}
use Rattle.rsml_syntax.specs.declared.syntax.Spec.{Spec}
use Rattle.rsml_meaning.specs.EventLines.{Bytes}
use Rattle.judging.specs.Headline.{IsCertificate, IsRefusal}
use Rattle.checking.specs.Outputs.{TextFault, SpecificationOutput, CheckOutput}
use Rattle.checking.specs.Outputs as output
use Rattle.judging.specs.Texts.{IsTextOf}
use Rattle.answering.specs.declared.status.Status.{Status}
use Rattle.answering.specs.declared.status.Status.TheVariants as status

-- a fault ends with neither Done nor Refused
pub fault_is : (text : Bytes) (answer : Status) (bytes : Bytes) → TextFault text answer bytes → (answer ≢ status.Done) × (answer ≢ status.Refused)
fault_is text answer bytes (output.TextFault.too_long _ e _) = (λ f. cc (e, f), λ f. cc (e, f))
fault_is text answer bytes (output.TextFault.unread _ e) = (λ f. cc (e, f), λ f. cc (e, f))
fault_is text answer bytes (output.broken _ _ _ e) = (λ f. cc (e, f), λ f. cc (e, f))

certified_so : (s : Spec) (answer : Status) (bytes : Bytes) → answer ≡ status.Done → SpecificationOutput s answer bytes → IsCertificate s bytes
certified_so s answer bytes e (output.refused _ f) = absurd (cc (e, f))
certified_so s answer bytes e (output.certified c _) = c

refused_so : (s : Spec) (answer : Status) (bytes : Bytes) → answer ≡ status.Refused → SpecificationOutput s answer bytes → IsRefusal s bytes
refused_so s answer bytes e (output.refused c _) = c
refused_so s answer bytes e (output.certified _ f) = absurd (cc (e, f))

pub certified_output : (text : Bytes) (answer : Status) (bytes : Bytes) → answer ≡ status.Done → CheckOutput text answer bytes → (s : Spec) × IsTextOf text s × IsCertificate s bytes
certified_output text answer bytes e (output.fault f) = absurd ((fault_is text answer bytes f).0 e)
certified_output text answer bytes e (output.judged s t _ o) = (s, t, certified_so s answer bytes e o)

pub refused_output : (text : Bytes) (answer : Status) (bytes : Bytes) → answer ≡ status.Refused → CheckOutput text answer bytes → (s : Spec) × IsTextOf text s × IsRefusal s bytes
refused_output text answer bytes e (output.fault f) = absurd ((fault_is text answer bytes f).1 e)
refused_output text answer bytes e (output.judged s t _ o) = (s, t, refused_so s answer bytes e o)
