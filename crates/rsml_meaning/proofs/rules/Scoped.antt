-- A specification that keeps the rules is well scoped.
use Rattle.std.proofs.Common.{◌≡◌}
use Rattle.rsml_meaning.specs.Words.{Each}
use Rattle.rsml_meaning.specs.Instances.{components, globals_of}
use Rattle.rsml_meaning.specs.Truth.{within}
use Rattle.rsml_meaning.specs.Cells.{cells, input_type, is_of}
use Rattle.rsml_meaning.specs.Transitions.{transitions_of, transitions}
use Rattle.rsml_meaning.specs.Interfaces.{send_cases}
use Rattle.rsml_syntax.specs.text.Names.{is_in}
use Rattle.std.specs.Prelude.{IsTrue}
use Rattle.rsml_meaning.specs.Scoped.{IsState, IsEvent, AnswerIsScoped}
use Rattle.rsml_meaning.specs.ScopeLaws.{RulesGiveScopes}
use Rattle.rsml_meaning.proofs.Lists.{each_flat_map, each_more, each_one}
use Rattle.rsml_meaning.proofs.rules.Order.{is_in_order}
use Rattle.rsml_meaning.proofs.rules.Receives.{receives_scoped}
use Rattle.rsml_meaning.proofs.rules.Sends.{IsScopedCase, each_case_scoped}
use Rattle.rsml_meaning.proofs.rules.Cells.{IsTyped, each_typed}
use Rattle.rsml_meaning.proofs.rules.Components.{IsScopedTransition, IsScopedComponent}
use Rattle.rsml_meaning.proofs.rules.States.{components_scoped}

pub rules_give_scopes : RulesGiveScopes
rules_give_scopes s h =
    let cs = components_scoped s h in
    let ts = each_flat_map (IsScopedTransition s) (transitions_of (globals_of s)) (components s) (λ c m. (each_one (IsScopedComponent s) (components s) c cs m).transitions) in
    let sent = each_case_scoped s h in
    let typed = each_typed s h in
    record {
      in_order = is_in_order s h;
      sources = each_more (IsScopedTransition s) (λ t. IsState s t.source) (λ t k. k.source) (transitions s) ts;
      triggers = each_more (IsScopedTransition s) (λ t. IsEvent s t.event) (λ t k. k.trigger) (transitions s) ts;
      raises = each_more (IsScopedTransition s) (λ t. Each (IsEvent s) t.raises) (λ t k. k.raises) (transitions s) ts;
      receives = receives_scoped s h;
      send_triggers = each_more (IsScopedCase s) (λ c. IsEvent s c.event) (λ c k. k.trigger) (send_cases s) sent;
      answers = each_more (IsScopedCase s) (λ c. AnswerIsScoped s (within c.send.index) c.answer) (λ c k. k.answer) (send_cases s) sent;
      defaults = each_more (IsScopedComponent s) (λ c. IsTrue (is_in c.default c.children)) (λ c k. k.default) (components s) cs;
      initials = each_more (IsTyped s h) (λ c. IsTrue (is_of c.numbers c.initial)) (λ c k. k.initial) (cells s) typed;
      types = each_more (IsTyped s h) (λ c. c.numbers ≡ input_type (globals_of s) c.input.name) (λ c k. k.type_is) (cells s) typed;
    }
