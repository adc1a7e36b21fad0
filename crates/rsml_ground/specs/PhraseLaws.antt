-- What the rules and limits give. The law is the contract of a function with no body.
use Rattle.rsml_syntax.specs.declared.syntax.Spec.{Spec}
use Rattle.rsml_syntax.specs.limits.Checked.{IsChecked}
use Rattle.rsml_ground.specs.Grounded.{IsShort}
use Rattle.rsml_ground.specs.Scoped.{PhrasesAreScoped}

-- in a short checked specification what each phrase names is there
abbrev pub RulesScopePhrases : Type 0
RulesScopePhrases = (s : Spec) → IsChecked s → IsShort s → PhrasesAreScoped s
