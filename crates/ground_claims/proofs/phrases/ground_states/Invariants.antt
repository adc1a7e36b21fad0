use Rattle.rsml_syntax.specs.rules.Globals.{up_to}
use Rattle.rsml_meaning.specs.Truth.{within, quantified}
use Rattle.ground_claims.specs.StandsFor.{StatesAre}
use Rattle.ground_claims.proofs.phrases.ground_states.Given as goal

abbrev pub invariant-loop-before : goal.invariant-loop-before
invariant-loop-before l = StatesAre l.lookup (quantified (within 0) l.variable) l.simple (up_to l.before) l.nodes
