-- Comment lines behind what a command on two files writes.
use Rattle.std.proofs.Common.{◌≡◌, ◌++◌, refl, ap, ◌∙◌, append-nil}
use Rattle.rsml_meaning.specs.EventLines.{Bytes}
use Rattle.explaining.proofs.ExplainLemmas.{without_notes}
use Rattle.pairing.specs.Outputs.{Shows}
use Rattle.pairing.specs.Steps.{AreNotes}
use Rattle.pairing.specs.declared.pair_action.PairAction.{PairAction}
use Rattle.pairing.specs.declared.pair_action.PairAction.TheVariants as action

-- a text alone is what any action may make of it
pub shown_bare : (does : PairAction) (Is : Bytes → Type 0) (bytes : Bytes) → Is bytes → Shows does Is bytes
shown_bare action.Prove Is bytes h = h
shown_bare action.ExplainProve Is bytes h = without_notes Is bytes h
shown_bare action.Same Is bytes h = h
shown_bare action.ExplainSame Is bytes h = without_notes Is bytes h

-- so is the text with the comment lines of the action
pub shown_noted : (does : PairAction) (report notes bytes : Bytes) → AreNotes does notes → bytes ≡ report ++ notes → Shows does (λ b. b ≡ report) bytes
shown_noted action.Prove report notes bytes are e = e ∙ ap (λ (n : Bytes). report ++ n) are ∙ append-nil report
shown_noted action.ExplainProve report notes bytes are e = record { report = report; notes = notes; split = e; reported = refl; comments = are }
shown_noted action.Same report notes bytes are e = e ∙ ap (λ (n : Bytes). report ++ n) are ∙ append-nil report
shown_noted action.ExplainSame report notes bytes are e = record { report = report; notes = notes; split = e; reported = refl; comments = are }

-- of what is such and thus is something else
pub shown_as : (does : PairAction) (Is Be : Bytes → Type 0) → ((b : Bytes) → Is b → Be b) → (bytes : Bytes) → Shows does Is bytes → Shows does Be bytes
shown_as action.Prove Is Be f bytes h = f bytes h
shown_as action.ExplainProve Is Be f bytes h =
    record { report = h.report; notes = h.notes; split = h.split; reported = f h.report h.reported; comments = h.comments }
shown_as action.Same Is Be f bytes h = f bytes h
shown_as action.ExplainSame Is Be f bytes h =
    record { report = h.report; notes = h.notes; split = h.split; reported = f h.report h.reported; comments = h.comments }

-- what holds of the text that is shown
pub report_of : (does : PairAction) (Is : Bytes → Type 0) (bytes : Bytes) → Shows does Is bytes → (report : Bytes) × Is report
report_of action.Prove Is bytes h = (bytes, h)
report_of action.ExplainProve Is bytes h = (h.report, h.reported)
report_of action.Same Is bytes h = (bytes, h)
report_of action.ExplainSame Is bytes h = (h.report, h.reported)
