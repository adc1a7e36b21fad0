-- What the rules give. The law is the contract of a function with no body.
use Rattle.std.specs.Prelude.{◌≡◌, None}
use Rattle.rsml_syntax.specs.declared.syntax.Spec.{Spec}
use Rattle.rsml_syntax.specs.rules.Rules.{broken_rule}
use Rattle.rsml_meaning.specs.Scoped.{WellScoped}

-- a specification that keeps the rules S1 to S16 is well scoped
abbrev pub RulesGiveScopes : Type 0
RulesGiveScopes = (s : Spec) → broken_rule s ≡ None → WellScoped s
