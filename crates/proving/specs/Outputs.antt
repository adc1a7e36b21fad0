-- What `prove` answers and writes of a specification that keeps the rules and the limits, and of a text of claims.
use Rattle.std.specs.Prelude.{◌≡◌, ◌<◌, not, List, Option, Some, find, length, IsTrue}
use Rattle.rsml_syntax.specs.declared.syntax.Spec.{Spec}
use Rattle.rsml_syntax.specs.declared.world.World.{World}
use Rattle.rsml_meaning.specs.Certified.{Certified}
use Rattle.rsml_meaning.specs.EventFiles.{Line}
use Rattle.rsml_meaning.specs.EventLines.{Bytes}
use Rattle.rsml_meaning.specs.MicroSteps.{Result}
use Rattle.rsml_meaning.specs.Runs.{first_world, Reaction, IsRun}
use Rattle.claim_syntax.specs.declared.claim.Claim.{Claim}
use Rattle.claim_syntax.specs.Joined.{joined}
use Rattle.claim_syntax.specs.OfStates.{first_other}
use Rattle.claims.specs.Breaks.{IsLeastBreak}
use Rattle.claims.specs.Claims.{is_true, all_true}
use Rattle.claims.specs.Inductive.{Moment, ComesTo, AreInductive}
use Rattle.claims.specs.Throughout.{AlwaysTrue}
use Rattle.judging.specs.Headline.{IsRefusal}
use Rattle.judging.specs.Judgements.{IsBroken}
use Rattle.judging.specs.Texts.{greatest_text}
use Rattle.answering.specs.Lines as lines
use Rattle.answering.specs.declared.status.Status.{Status}
use Rattle.answering.specs.declared.status.Status.TheVariants as status
use Rattle.proving.specs.ClaimTexts.{AreOfText, AreUnread, AreOfStates, AreKept}
use Rattle.proving.specs.ProveText.{of_first, of_second, other_line, proved_text, initial_text, breaks_text}

-- the first claim that is false in a world, where there is one
abbrev pub first_false : Spec → List Claim → World → Option Claim
first_false s cs w = find (λ c. not (is_true s w c)) cs

-- What a proof is worth: the specification is certified, the claims are inductive, and so they are true in each world of each run.
pub record IsProved (s : Spec) (cs : List Claim) : Type 0 where
  pub certified : Certified s
  pub inductive : AreInductive s cs
  pub always : (lines : List Line) (rs : List Reaction) → IsRun s lines rs → AlwaysTrue s cs rs

-- All claims are true in the first world. The moment is their least break: the micro-step at it comes to this, and the claim is the first that
-- is false in the world that it leaves.
pub record IsLeast (s : Spec) (cs : List Claim) (c : Claim) (m : Moment) (r : Result) : Type 0 where
  pub initial : IsTrue (all_true s cs (first_world s))
  pub least : IsLeastBreak s cs m
  pub comes_to : ComesTo s m r
  pub claim : first_false s cs r.world ≡ Some c

-- What is answered of claims that cannot be looked at beside a specification, and the line that tells why: the text is too long, reads as no
-- claims, as ones that ask for more than states, or as ones with which the specification breaks a rule or a limit.
pub data ClaimsFault (s : Spec) (claims : Bytes) (answer : Status) (line : Bytes) : Type 0 where
  too_long : greatest_text < length claims → answer ≡ status.TooLong → line ≡ lines.long → ClaimsFault s claims answer line
  unread : AreUnread claims line → answer ≡ status.SpecFault → ClaimsFault s claims answer line
  other : (cs : List Claim) (c : Claim) → AreOfText claims cs → first_other cs ≡ Some c → answer ≡ status.SpecFault → line ≡ other_line c
      → ClaimsFault s claims answer line
  broken : (cs : List Claim) → AreOfStates claims cs → IsBroken (joined s cs) line → answer ≡ status.SpecFault → ClaimsFault s claims answer line

-- What is answered and written of claims that are kept, beside a specification that keeps the rules and the limits: the report on it, where it
-- is not certified; where it is, the first claim that is false in the first world; or else the least break; or else that all are proved.
pub data ClaimsOutput (s : Spec) (cs : List Claim) (answer : Status) (bytes : Bytes) : Type 0 where
  uncertified : (report : Bytes) → IsRefusal s report → answer ≡ status.Refused → bytes ≡ of_first report → ClaimsOutput s cs answer bytes
  initial : (c : Claim) → Certified s → first_false s cs (first_world s) ≡ Some c → answer ≡ status.Refused → bytes ≡ initial_text s cs c
      → ClaimsOutput s cs answer bytes
  breaks : (c : Claim) (m : Moment) (r : Result) → Certified s → IsLeast s cs c m r → answer ≡ status.Refused → bytes ≡ breaks_text s cs c m r.taken
      → ClaimsOutput s cs answer bytes
  proved : IsProved s cs → answer ≡ status.Done → bytes ≡ proved_text s cs → ClaimsOutput s cs answer bytes

-- What `prove` answers and writes: the line of the claims, where they cannot be looked at; else what is answered and written of them.
pub data ProveOutput (s : Spec) (claims : Bytes) (answer : Status) (bytes : Bytes) : Type 0 where
  fault : (line : Bytes) → ClaimsFault s claims answer line → bytes ≡ of_second line → ProveOutput s claims answer bytes
  judged : (cs : List Claim) → AreKept s claims cs → ClaimsOutput s cs answer bytes → ProveOutput s claims answer bytes
