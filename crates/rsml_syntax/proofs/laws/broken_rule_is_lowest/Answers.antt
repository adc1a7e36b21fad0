use Rattle.rsml_syntax.specs.rules.Rules.{breaches}
use Rattle.rsml_syntax.proofs.Lowest.{none_iff, lowest_iff}
use Rattle.rsml_syntax.proofs.laws.broken_rule_is_lowest.Goals as goal

pub returns-clause-none : goal.returns-clause-none
returns-clause-none c = λ s. none_iff (breaches s)

pub returns-clause-some : goal.returns-clause-some
returns-clause-some c = λ s b. lowest_iff (breaches s) b
