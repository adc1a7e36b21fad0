-- Claims that ask for states alone, and the first one that does not.
use Rattle.std.specs.Prelude.{Bool, true, false, not, List, Option, find, IsTrue}
use Rattle.std.specs.List.{list_all}
use Rattle.rsml_syntax.specs.declared.syntax.Simple.{Simple}
use Rattle.rsml_syntax.specs.declared.syntax.Simple.TheVariants as simples
use Rattle.rsml_syntax.specs.grammar.Written.{simple_of}
use Rattle.claim_syntax.specs.declared.claim.Claim.{Claim}

-- it asks whether a state is active
abbrev pub asks_a_state : Simple → Bool
asks_a_state (simples.In path) = true
asks_a_state _ = false

-- each phrase of the claim asks whether a state is active, plainly or under a quantifier: so its truth is a matter of states alone
abbrev pub is_of_states : Claim → Bool
is_of_states c = list_all (λ r. asks_a_state (simple_of r.phrase)) c.rows

-- the claim is of states alone
abbrev pub IsOfStates : Claim → Type 0
IsOfStates c = IsTrue (is_of_states c)

-- the first claim that is not of states alone, where there is one: rule C1 is broken, and its name is shown
abbrev pub first_other : List Claim → Option Claim
first_other cs = find (λ c. not (is_of_states c)) cs
