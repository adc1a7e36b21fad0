-- What the steps of `prove` leave.
use Rattle.std.specs.Prelude.{◌≡◌, List, Vec, ℕ, Option, Some, None, MatchOption}
use Rattle.std.specs.declared.alloc.Global.{Global}
use Rattle.rsml_syntax.specs.declared.syntax.Spec.{Spec}
use Rattle.rsml_syntax.specs.limits.Limits.{Keeps}
use Rattle.rsml_meaning.specs.EventLines.{Bytes}
use Rattle.claim_syntax.specs.declared.claim.Claim.{Claim}
use Rattle.claim_syntax.specs.OfStates.{first_other}
use Rattle.judging.specs.Judgements.{IsBroken}
use Rattle.answering.specs.Outcomes.{answer_of, bytes_of}
use Rattle.answering.specs.declared.outcome.Outcome.{Outcome}
use Rattle.answering.specs.declared.status.Status.{Status}
use Rattle.explaining.specs.Outputs.{WithNotes}
use Rattle.proving.specs.ClaimTexts.{AreKept}
use Rattle.proving.specs.Outputs.{ClaimsFault}
use Rattle.proving.specs.ProveText.{of_second, other_line}
use Rattle.proving.specs.declared.keeping.KeptClaims.{KeptClaims}
use Rattle.proving.specs.declared.keeping.KeptClaims.TheVariants as kept

-- the line tells the first claim that asks for more than states; there is none where all are of states
abbrev pub TellsOther : List Claim → Option (Vec ℕ Global) → Type 0
TellsOther cs found = MatchOption found (first_other cs ≡ None) (λ line. (c : Claim) × (first_other cs ≡ Some c) × (line.items ≡ other_line c))

-- the line tells which rule or limit the specification breaks; there is none where it keeps them all
abbrev pub TellsBroken : Spec → Option (Vec ℕ Global) → Type 0
TellsBroken s found = MatchOption found (Keeps s) (λ line. IsBroken s line.items)

-- claims are kept beside a specification, or the line tells why not
abbrev pub AreJudged : Spec → Bytes → KeptClaims → Type 0
AreJudged s text (kept.Unfit answer line) = ClaimsFault s text answer line.items
AreJudged s text (kept.Kept cs) = AreKept s text cs.items

-- the line of the claims is told, with this status
abbrev pub IsUnfit : Status → Bytes → Outcome → Type 0
IsUnfit answer line o = (answer_of o ≡ answer) × (bytes_of o ≡ of_second line)

-- the same, with comment lines behind it
abbrev pub IsExplainedUnfit : Status → Bytes → Outcome → Type 0
IsExplainedUnfit answer line o = (answer_of o ≡ answer) × WithNotes (λ bytes. bytes ≡ of_second line) (bytes_of o)
