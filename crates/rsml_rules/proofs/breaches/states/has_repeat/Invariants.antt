use Rattle.std.proofs.Common.{◌≡◌, [], drop}
use Rattle.rsml_syntax.specs.rules.States as states
use Rattle.rsml_rules.proofs.breaches.states.has_repeat.Given as goal

abbrev pub invariant-loop-name : goal.invariant-loop-name
invariant-loop-name l = states.has_repeat l.earlier (drop l.name-index l.names) ≡ states.has_repeat [] l.names
