-- What the bytes of claims read as, and when claims can be looked at beside a specification.
use Rattle.std.specs.Prelude.{◌≡◌, ℕ, ◌≤◌, List, length}
use Rattle.rsml_syntax.specs.declared.edition.Edition.TheVariants as edition
use Rattle.rsml_syntax.specs.declared.syntax.Spec.{Spec}
use Rattle.rsml_syntax.specs.declared.token.Placed.{Placed}
use Rattle.rsml_syntax.specs.limits.Limits.{Keeps}
use Rattle.rsml_syntax.specs.text.Lexing.{Fault, Lexes, LexFault, bare}
use Rattle.rsml_meaning.specs.EventLines.{Bytes}
use Rattle.rsml_meaning.specs.Words.{Each}
use Rattle.claim_syntax.specs.declared.claim.Claim.{Claim}
use Rattle.claim_syntax.specs.Grammar.{AreClaimsOf}
use Rattle.claim_syntax.specs.Joined.{joined}
use Rattle.claim_syntax.specs.OfStates.{IsOfStates}
use Rattle.claim_syntax.specs.Places.{IsClaimsFault}
use Rattle.judging.specs.FaultLines as lines
use Rattle.judging.specs.Texts.{greatest_text}

-- The text has at most so many bytes as a specification may have, and reads as these claims.
pub record AreOfText (text : Bytes) (cs : List Claim) : Type 0 where
  pub short : length text ≤ greatest_text
  pub tokens : List Placed
  pub lexes : Lexes edition.Second text tokens
  pub are : AreClaimsOf (bare tokens) cs

-- The text has at most so many bytes, and no tokens, or its tokens are no claims. The line tells the first fault.
pub data AreUnread (text line : Bytes) : Type 0 where
  no_tokens : (f : Fault) → length text ≤ greatest_text → LexFault edition.Second text f → line ≡ lines.lexical f → AreUnread text line
  no_syntax : (ts : List Placed) (place : ℕ) → length text ≤ greatest_text → Lexes edition.Second text ts → IsClaimsFault (bare ts) place
      → line ≡ lines.syntax place → AreUnread text line

-- The text reads as these claims, and each asks for states alone: rule C1 is kept.
pub record AreOfStates (text : Bytes) (cs : List Claim) : Type 0 where
  pub of_text : AreOfText text cs
  pub of_states : Each IsOfStates cs

-- The text reads as these claims, each asks for states alone, and with them the specification keeps the rules and the limits.
pub record AreKept (s : Spec) (text : Bytes) (cs : List Claim) : Type 0 where
  pub claims : AreOfStates text cs
  pub joined : Keeps (joined s cs)
