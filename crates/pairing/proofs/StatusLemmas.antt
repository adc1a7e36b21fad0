-- The statuses of what is answered of texts: Done, Refused, SpecFault and TooLong alone.
use Rattle.std.proofs.Common.{◌≡◌, sym, subst}
use Rattle.rsml_meaning.specs.EventLines.{Bytes}
use Rattle.answering.specs.Writing.{IsOfText}
use Rattle.answering.specs.declared.status.Status.{Status}
use Rattle.answering.specs.declared.status.Status.TheVariants as status
use Rattle.answering.proofs.OutcomeLemmas.{fault_of_text, done_of_text, refused_of_text, long_of_text}
use Rattle.checking.specs.Outputs.{TextFault}
use Rattle.checking.specs.Outputs as output

-- one of these
pub data IsOfPair (answer : Status) : Type 0 where
  done : answer ≡ status.Done → IsOfPair answer
  refused : answer ≡ status.Refused → IsOfPair answer
  fault : answer ≡ status.SpecFault → IsOfPair answer
  long : answer ≡ status.TooLong → IsOfPair answer

-- it is the status of a text
pub is_of_text : (answer : Status) → IsOfPair answer → IsOfText answer
is_of_text answer (done e) = done_of_text answer e
is_of_text answer (refused e) = refused_of_text answer e
is_of_text answer (fault e) = fault_of_text answer e
is_of_text answer (long e) = long_of_text answer e

-- what holds of these holds of it
pub of_pair : (Fits : Status → Type 0) → Fits status.Done → Fits status.Refused → Fits status.SpecFault → Fits status.TooLong → (answer : Status) → IsOfPair answer
    → Fits answer
of_pair Fits d r f l answer (done e) = subst Fits (sym e) d
of_pair Fits d r f l answer (refused e) = subst Fits (sym e) r
of_pair Fits d r f l answer (fault e) = subst Fits (sym e) f
of_pair Fits d r f l answer (long e) = subst Fits (sym e) l

-- so is that of the line of a fault
pub fault_answers : (text : Bytes) (answer : Status) (bytes : Bytes) → TextFault text answer bytes → IsOfPair answer
fault_answers text answer bytes (output.TextFault.too_long _ e _) = long e
fault_answers text answer bytes (output.TextFault.unread _ e) = fault e
fault_answers text answer bytes (output.broken s t _ e) = fault e
