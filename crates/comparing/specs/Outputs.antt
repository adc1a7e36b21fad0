-- What `same` answers and writes of a first specification that keeps the rules and the limits, and the text of a second.
use Rattle.std.specs.Prelude.{◌≡◌, ◌++◌, codes}
use Rattle.rsml_syntax.specs.declared.syntax.Spec.{Spec}
use Rattle.rsml_syntax.specs.limits.Limits.{Keeps}
use Rattle.rsml_meaning.specs.Certified.{Certified}
use Rattle.rsml_meaning.specs.EventLines.{Bytes}
use Rattle.spec_frames.specs.Frames.{HaveSameFrame}
use Rattle.equal_frames.specs.Differences.{Difference, IsDifference, NoDifference}
use Rattle.judging.specs.Headline.{IsRefusal}
use Rattle.judging.specs.Texts.{IsTextOf}
use Rattle.answering.specs.declared.status.Status.{Status}
use Rattle.answering.specs.declared.status.Status.TheVariants as status
use Rattle.checking.specs.Outputs.{TextFault}
use Rattle.comparing.specs.DifferenceText.{difference_text}

-- bytes that are told of the first of the two files
abbrev pub of_first : Bytes → Bytes
of_first bytes = codes "file 1\n" ++ bytes

-- bytes that are told of the second
abbrev pub of_second : Bytes → Bytes
of_second bytes = codes "file 2\n" ++ bytes

-- the frames differ
abbrev pub differ_frame : Bytes
differ_frame = codes "differ frame\n"

-- no member differs
abbrev pub no_difference : Bytes
no_difference = codes "same\n"

-- What is answered and written of two specifications that keep the rules and the limits: that their frames differ; of one frame, the
-- report on the first, where it is not certified; where it is, the first difference, or that there is none.
pub data PairOutput (s t : Spec) (answer : Status) (bytes : Bytes) : Type 0 where
  unlike : (HaveSameFrame s t → ⊥) → answer ≡ status.Refused → bytes ≡ differ_frame → PairOutput s t answer bytes
  uncertified : (report : Bytes) → HaveSameFrame s t → IsRefusal s report → answer ≡ status.Refused → bytes ≡ of_first report → PairOutput s t answer bytes
  different : (d : Difference) → HaveSameFrame s t → Certified s → IsDifference s t d → answer ≡ status.Refused → bytes ≡ difference_text s d → PairOutput s t answer bytes
  same : HaveSameFrame s t → Certified s → NoDifference s t → answer ≡ status.Done → bytes ≡ no_difference → PairOutput s t answer bytes

-- What `same` answers and writes: the line of the second text, where it is too long, reads as no specification, or as one that breaks a rule
-- or a limit; else what is answered and written of the two specifications.
pub data SameOutput (s : Spec) (other : Bytes) (answer : Status) (bytes : Bytes) : Type 0 where
  unfit : (line : Bytes) → TextFault other answer line → bytes ≡ of_second line → SameOutput s other answer bytes
  compared : (t : Spec) → IsTextOf other t → Keeps t → PairOutput s t answer bytes → SameOutput s other answer bytes
