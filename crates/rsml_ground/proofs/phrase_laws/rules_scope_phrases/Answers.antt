use Rattle.rsml_ground.proofs.PhraseScopes.{rules_scope_phrases}
use Rattle.rsml_ground.proofs.phrase_laws.rules_scope_phrases.Goals as goal

pub returns : goal.returns
returns c = rules_scope_phrases
