-- The rules and limits scope phrases.
use Rattle.std.proofs.Common.{◌≡◌, [], length, sym, append-nil, arith}
use Rattle.rsml_syntax.specs.declared.syntax.Spec.{Spec}
use Rattle.rsml_syntax.specs.rules.Scopes.{Scope}
use Rattle.rsml_syntax.proofs.Clean.{names_in}
use Rattle.rsml_meaning.specs.Interfaces.{definitions}
use Rattle.rsml_ground.specs.PhraseLaws.{RulesScopePhrases}
use Rattle.rsml_ground.proofs.DefinitionScopes.{Stands}
use Rattle.rsml_ground.proofs.Earlier.{definition_scoped}
use Rattle.rsml_ground.proofs.Guards.{guard_scoped}
use Rattle.rsml_ground.proofs.Receives.{receives_scoped}
use Rattle.rsml_ground.proofs.Sends.{sends_scoped}
use Rattle.rsml_ground.proofs.Transitions.{transitions_scoped}
use Rattle.rsml_ground.proofs.Values.{few_values}

-- after all declarations
after_all : (s : Spec) (at : Scope) → at.before ≡ length (names_in s.decls) → Stands s at (length (definitions s))
after_all s at e = record { before = s.decls; after = []; is = sym (append-nil s.decls); names = e; enough = omega arith }

pub rules_scope_phrases : RulesScopePhrases
rules_scope_phrases s checked short =
    let few = few_values s short in
    record {
      definition = λ n d h. definition_scoped s checked few n d h;
      transitions_are = transitions_scoped s checked (λ at r o e g w clean table small. guard_scoped s checked few at r o (length (definitions s)) (after_all s at e) g w clean table small);
      sends_are = sends_scoped s checked few;
      receives_are = receives_scoped s checked few;
    }
