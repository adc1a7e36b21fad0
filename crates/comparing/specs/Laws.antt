-- Laws of what `same` answers. Each is the contract of a function with no body.
use Rattle.std.specs.Prelude.{◌≡◌}
use Rattle.rsml_syntax.specs.declared.syntax.Spec.{Spec}
use Rattle.rsml_syntax.specs.limits.Checked.{IsChecked}
use Rattle.rsml_meaning.specs.Certified.{Certified}
use Rattle.rsml_meaning.specs.EventFiles.{Limits}
use Rattle.rsml_meaning.specs.EventLines.{Bytes}
use Rattle.equal_frames.specs.Alike.{AreTracedAlike}
use Rattle.judging.specs.Texts.{IsTextOf}
use Rattle.answering.specs.declared.status.Status.{Status}
use Rattle.answering.specs.declared.status.Status.TheVariants as status
use Rattle.comparing.specs.Outputs.{SameOutput}

-- The second text reads as a specification that is certified, as the first is, and every event file is traced alike.
pub record ReadsAsAlike (s : Spec) (other : Bytes) : Type 0 where
  pub second : Spec
  pub is_text : IsTextOf other second
  pub one : Certified s
  pub two : Certified second
  pub traced : (limits : Limits) (content : Bytes) → AreTracedAlike s second limits content

-- where `same` ends with `Done`, the second text reads as a specification that behaves as the first
abbrev pub SameIsAlike : Type 0
SameIsAlike = (s : Spec) (other bytes : Bytes) → IsChecked s → SameOutput s other status.Done bytes → ReadsAsAlike s other

-- a first specification and a second text have one status and one text
abbrev pub SameIsOne : Type 0
SameIsOne = (s : Spec) (other : Bytes) (a b : Status) (xs ys : Bytes) → SameOutput s other a xs → SameOutput s other b ys → (a ≡ b) × (xs ≡ ys)
