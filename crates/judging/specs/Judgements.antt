-- What the bytes of a specification are judged to be.
use Rattle.std.specs.Prelude.{◌≡◌, ℕ, ◌<◌, length, Some, None}
use Rattle.rsml_syntax.specs.declared.syntax.Spec.{Spec}
use Rattle.rsml_syntax.specs.limits.Limits.{Keeps, over}
use Rattle.rsml_syntax.specs.rules.Breaches.{Breach}
use Rattle.rsml_syntax.specs.rules.Rules.{broken_rule}
use Rattle.analysis.specs.Verdicts.{AreVerdicts}
use Rattle.rsml_meaning.specs.EventLines.{Bytes}
use Rattle.judging.specs.FaultLines as lines
use Rattle.judging.specs.Headline.{IsCertificate, IsRefusal}
use Rattle.judging.specs.Texts.{IsTextOf, IsUnread, greatest_text}
use Rattle.judging.specs.declared.judging.Judgement.{Judgement}
use Rattle.judging.specs.declared.judging.Judgement.TheVariants as judgement
use Rattle.judging.specs.declared.kept_text.Kept.{Kept}
use Rattle.judging.specs.declared.kept_text.Kept.TheVariants as kept

-- The specification breaks a rule, or keeps the rules and breaks a limit: the line tells the lowest.
pub data IsBroken (s : Spec) (line : Bytes) : Type 0 where
  rule : (b : Breach) → broken_rule s ≡ Some b → line ≡ lines.rule b → IsBroken s line
  limit : (count : ℕ × ℕ) → broken_rule s ≡ None → over s ≡ Some count → line ≡ lines.limit count → IsBroken s line

-- what the bytes of a specification are, without its analysis
abbrev pub IsKept : Bytes → Kept → Type 0
IsKept text kept.TooLong = greatest_text < length text
IsKept text (kept.Unread line) = IsUnread text line.items
IsKept text (kept.Broken line) = (s : Spec) × IsTextOf text s × IsBroken s line.items
IsKept text (kept.Checked s) = IsTextOf text s × Keeps s

-- what a specification is judged to be
abbrev pub IsJudged : Spec → Judgement → Type 0
IsJudged s judgement.TooLong = ⊥
IsJudged s (judgement.Unread line) = ⊥
IsJudged s (judgement.Broken line) = IsBroken s line.items
IsJudged s (judgement.Refused report checked verdicts) = (checked ≡ s) × Keeps s × IsRefusal s report.items × AreVerdicts s verdicts.items
IsJudged s (judgement.Certified report checked) = (checked ≡ s) × Keeps s × IsCertificate s report.items

-- the text reads as a specification that is judged so
abbrev pub ReadsAndIsJudged : Bytes → Judgement → Type 0
ReadsAndIsJudged text j = (s : Spec) × IsTextOf text s × IsJudged s j

-- what a text is judged to be
abbrev pub IsJudgement : Bytes → Judgement → Type 0
IsJudgement text judgement.TooLong = greatest_text < length text
IsJudgement text (judgement.Unread line) = IsUnread text line.items
IsJudgement text (judgement.Broken line) = ReadsAndIsJudged text (judgement.Broken line)
IsJudgement text (judgement.Refused report checked verdicts) = ReadsAndIsJudged text (judgement.Refused report checked verdicts)
IsJudgement text (judgement.Certified report checked) = ReadsAndIsJudged text (judgement.Certified report checked)
