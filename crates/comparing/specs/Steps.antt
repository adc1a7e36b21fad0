-- What the steps of a comparison leave.
use Rattle.std.specs.Prelude.{◌≡◌}
use Rattle.rsml_syntax.specs.declared.syntax.Spec.{Spec}
use Rattle.rsml_meaning.specs.Certified.{Certified}
use Rattle.rsml_meaning.specs.EventLines.{Bytes}
use Rattle.rsml_meaning.specs.Worlds.{IsWorld}
use Rattle.spec_frames.specs.Frames.{HaveSameFrame}
use Rattle.equal_frames.specs.Differences.{Difference, IsDifference, NoDifference}
use Rattle.same_spec.specs.Found.{IsFound}
use Rattle.same_spec.specs.declared.found.Found.{Found}
use Rattle.judging.specs.Headline.{IsRefusal}
use Rattle.answering.specs.Outcomes.{answer_of, bytes_of}
use Rattle.answering.specs.declared.outcome.Outcome.{Outcome}
use Rattle.answering.specs.declared.status.Status.{Status}
use Rattle.answering.specs.declared.status.Status.TheVariants as status
use Rattle.explaining.specs.Outputs.{WithNotes}
use Rattle.comparing.specs.DifferenceText.{difference_text}
use Rattle.comparing.specs.Outputs.{of_first, of_second, differ_frame, no_difference}
use Rattle.comparing.specs.declared.comparison.Comparison.{Comparison}
use Rattle.comparing.specs.declared.comparison.Comparison.TheVariants as comparison

-- What is found is a difference in a world of the specification.
pub record TellsDifference (s : Spec) (x : Found) : Type 0 where
  pub difference : Difference
  pub found : IsFound s x difference
  pub world : IsWorld s difference.world

-- the text tells the first difference
pub record IsDifferenceText (s t : Spec) (text : Bytes) : Type 0 where
  pub difference : Difference
  pub first : IsDifference s t difference
  pub text_is : text ≡ difference_text s difference

-- what a comparison comes to
abbrev pub IsComparison : Spec → Spec → Comparison → Type 0
IsComparison s t comparison.Unlike = HaveSameFrame s t → ⊥
IsComparison s t (comparison.Uncertified report verdicts) = HaveSameFrame s t × IsRefusal s report.items
IsComparison s t (comparison.Different text) = HaveSameFrame s t × Certified s × IsDifferenceText s t text.items
IsComparison s t comparison.Same = HaveSameFrame s t × Certified s × NoDifference s t

-- how `same` ends
abbrev pub status_of : Comparison → Status
status_of comparison.Unlike = status.Refused
status_of (comparison.Uncertified report verdicts) = status.Refused
status_of (comparison.Different text) = status.Refused
status_of comparison.Same = status.Done

-- what it writes
abbrev pub text_of : Comparison → Bytes
text_of comparison.Unlike = differ_frame
text_of (comparison.Uncertified report verdicts) = of_first report.items
text_of (comparison.Different text) = text.items
text_of comparison.Same = no_difference

-- the line of the second text is told, with this status
abbrev pub IsUnfit : Status → Bytes → Outcome → Type 0
IsUnfit answer line o = (answer_of o ≡ answer) × (bytes_of o ≡ of_second line)

-- the same, with comment lines behind it
abbrev pub IsExplainedUnfit : Status → Bytes → Outcome → Type 0
IsExplainedUnfit answer line o = (answer_of o ≡ answer) × WithNotes (λ bytes. bytes ≡ of_second line) (bytes_of o)
