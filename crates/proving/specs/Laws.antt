-- Laws of what `prove` answers. Each is the contract of a function with no body.
use Rattle.std.specs.Prelude.{◌≡◌, List}
use Rattle.rsml_syntax.specs.declared.syntax.Spec.{Spec}
use Rattle.rsml_syntax.specs.limits.Limits.{Keeps}
use Rattle.rsml_meaning.specs.EventLines.{Bytes}
use Rattle.claim_syntax.specs.declared.claim.Claim.{Claim}
use Rattle.answering.specs.declared.status.Status.{Status}
use Rattle.answering.specs.declared.status.Status.TheVariants as status
use Rattle.proving.specs.ClaimTexts.{AreKept}
use Rattle.proving.specs.Outputs.{IsProved, ProveOutput}
use Rattle.proving.specs.ProveText.{proved_text}

-- The text reads as claims that are kept and proved, and the bytes tell so.
pub record ReadsAsProved (s : Spec) (claims bytes : Bytes) : Type 0 where
  pub read : List Claim
  pub kept : AreKept s claims read
  pub proved : IsProved s read
  pub text : bytes ≡ proved_text s read

-- where `prove` ends with `Done`, the claims are proved
abbrev pub DoneIsProved : Type 0
DoneIsProved = (s : Spec) (claims bytes : Bytes) → ProveOutput s claims status.Done bytes → ReadsAsProved s claims bytes

-- a specification and a text of claims have one status and one text
abbrev pub ProveIsOne : Type 0
ProveIsOne = (s : Spec) (claims : Bytes) (a b : Status) (xs ys : Bytes) → Keeps s → ProveOutput s claims a xs → ProveOutput s claims b ys → (a ≡ b) × (xs ≡ ys)
