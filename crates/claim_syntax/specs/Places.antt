-- The place of the fault of tokens that are no claims: tokens are counted from 1.
use Rattle.std.specs.Prelude.{◌≡◌, ℕ, ◌+◌, List, [], ◌∷◌, ◌++◌, length}
use Rattle.rsml_syntax.specs.text.Tokens.{Tokens}
use Rattle.claim_syntax.specs.declared.claim.Claim.{Claim}
use Rattle.claim_syntax.specs.Grammar.{AreClaimsOf}

-- the tokens are the first ones of some claims
abbrev pub BeginClaims : Tokens → Type 0
BeginClaims ts = (cs : List Claim) × (more : Tokens) × AreClaimsOf (ts ++ more) cs

-- after the prefix no claims go on with the rest: not with its first token, or, where nothing is left, not by ending
abbrev pub ClaimsStopAt : Tokens → Tokens → Type 0
ClaimsStopAt before [] = (cs : List Claim) → AreClaimsOf before cs → ⊥
ClaimsStopAt before (t ∷ _) = BeginClaims (before ++ t ∷ []) → ⊥

-- The tokens before the place begin claims, and those up to and with it begin none; or the place is one past the last
-- token, and all tokens begin claims and are none.
pub record IsClaimsFault (ts : Tokens) (place : ℕ) : Type 0 where
  pub before : Tokens
  pub rest : Tokens
  pub split : ts ≡ before ++ rest
  pub here : place ≡ length before + 1
  pub begin : BeginClaims before
  pub stop : ClaimsStopAt before rest
