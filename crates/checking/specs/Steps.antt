-- What the steps of these commands leave.
use Rattle.std.specs.Prelude.{◌≡◌, ⊤}
use Rattle.rsml_syntax.specs.grammar.Grammar.{tokens_of}
use Rattle.rsml_syntax.specs.grammar.Layout.{layout}
use Rattle.rsml_syntax.specs.grammar.WellFormed.{WellFormed}
use Rattle.judging.specs.declared.judging.Judgement.{Judgement}
use Rattle.judging.specs.declared.judging.Judgement.TheVariants as judgement
use Rattle.judging.specs.declared.texts.ReadText.{ReadText}
use Rattle.judging.specs.declared.texts.ReadText.TheVariants as texts
use Rattle.answering.specs.Outcomes.{answer_of, bytes_of}
use Rattle.answering.specs.declared.outcome.Outcome.{Outcome}
use Rattle.answering.specs.declared.outcome.Outcome.TheVariants as outcome
use Rattle.answering.specs.declared.status.Status.TheVariants as status

-- what `check` comes to, by what the text is judged to be
abbrev pub outcome_of : Judgement → Outcome
outcome_of judgement.TooLong = outcome.Long
outcome_of (judgement.Unread line) = outcome.Text status.SpecFault line
outcome_of (judgement.Broken line) = outcome.Text status.SpecFault line
outcome_of (judgement.Refused report checked verdicts) = outcome.Text status.Refused report
outcome_of (judgement.Certified report checked) = outcome.Text status.Done report

-- a specification that was read is well-formed
abbrev pub IsFormed : ReadText → Type 0
IsFormed (texts.Specification s) = WellFormed s
IsFormed (texts.Fault line) = ⊤

-- it is laid out, or the line of its first fault is all
abbrev pub IsLaidOut : ReadText → Outcome → Type 0
IsLaidOut (texts.Specification s) o = (answer_of o ≡ status.Done) × (bytes_of o ≡ layout (tokens_of s))
IsLaidOut (texts.Fault line) o = o ≡ outcome.Text status.SpecFault line
