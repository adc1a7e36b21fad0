-- Checked claims.
use Rattle.std.specs.Prelude.{List}
use Rattle.rsml_syntax.specs.declared.syntax.Spec.{Spec}
use Rattle.rsml_syntax.specs.limits.Checked.{IsChecked}
use Rattle.rsml_meaning.specs.Words.{Each}
use Rattle.rsml_ground.specs.Grounded.{IsShort}
use Rattle.claim_syntax.specs.declared.claim.Claim.{Claim}
use Rattle.claim_syntax.specs.Joined.{joined}
use Rattle.claim_syntax.specs.OfStates.{IsOfStates}

-- The claims ask for states alone, and joined to the specification they keep the rules and limits with it.
pub record AreChecked (s : Spec) (cs : List Claim) : Type 0 where
  pub of_states : Each IsOfStates cs
  pub checked : IsChecked (joined s cs)
  pub short : IsShort (joined s cs)
