-- The states that claims ask for are there.
use Rattle.std.specs.Prelude.{IsTrue, All}
use Rattle.rsml_syntax.specs.declared.syntax.Spec.{Spec}
use Rattle.rsml_syntax.specs.declared.syntax.Phrase.{Phrase}
use Rattle.rsml_syntax.specs.grammar.Written.{simple_of}
use Rattle.rsml_meaning.specs.Truth.{within}
use Rattle.rsml_ground.specs.Scoped.{PhraseIsScoped}
use Rattle.claim_syntax.specs.declared.claim.Claim.{Claim}
use Rattle.claim_syntax.specs.OfStates.{asks_a_state}

-- The phrase asks for states, and they are there.
pub record AskedStatesAreScoped (s : Spec) (p : Phrase) : Type 0 where
  pub asks : IsTrue (asks_a_state (simple_of p))
  pub scoped : PhraseIsScoped s 0 (within 0) p

-- so does each phrase of a claim
abbrev pub ClaimIsScoped : Spec → Claim → Type 0
ClaimIsScoped s c = All (λ row. AskedStatesAreScoped s row.phrase) c.rows
