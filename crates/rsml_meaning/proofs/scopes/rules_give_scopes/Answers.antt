use Rattle.rsml_meaning.proofs.rules.Scoped.{rules_give_scopes}
use Rattle.rsml_meaning.proofs.scopes.rules_give_scopes.Goals as goal

pub returns : goal.returns
returns c = rules_give_scopes
