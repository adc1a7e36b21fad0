use Rattle.std.proofs.Common.{◌≡◌, ◌++◌, List, map, IfOk, subst, sym, ap, ◌∙◌}
use Rattle.std.specs.Prelude.{flat_map}
use Rattle.rsml_syntax.specs.declared.syntax.Case.{Case}
use Rattle.rsml_syntax.specs.declared.syntax.SendCase.{SendCase}
use Rattle.rsml_syntax.specs.declared.syntax.Decl.{Decl}
use Rattle.rsml_syntax.specs.rules.Scopes.{Variable, variable_at}
use Rattle.rsml_syntax.specs.grammar.Written.{variables_in}
use Rattle.rsml_names.specs.Bound.{of_guard}
use Rattle.rsml_names.proofs.BoundLemmas.{of_cases}
use Rattle.rsml_names.proofs.variables.Variables.with.Goals as goal

pub returns-in-Function : goal.returns-in-Function
returns-in-Function c =
    subst (λ (vs : List Variable). IfOk c.with_guards.result (λ v. v ≡ c.args.self ++ vs))
    (ap (λ (cs : List Case). flat_map (λ (x : Case). of_guard c.args.place x.guard) cs) c.as_slice-in-Function.ensures
    ∙ sym (of_cases (λ (x : Case). x.guard) c.args.place c.in-Function.cases)
    ∙ ap (λ (d : Decl). map (variable_at c.args.place) (variables_in d)) (sym c.in-Function.is))
    c.with_guards.ensures

pub returns-in-Send : goal.returns-in-Send
returns-in-Send c =
    subst (λ (vs : List Variable). IfOk c.with_guards-in-Send.result (λ v. v ≡ c.args.self ++ vs))
    (ap (λ (cs : List SendCase). flat_map (λ (x : SendCase). of_guard c.args.place x.guard) cs) c.as_slice-in-Send.ensures
    ∙ sym (of_cases (λ (x : SendCase). x.guard) c.args.place c.in-Send.cases)
    ∙ ap (λ (d : Decl). map (variable_at c.args.place) (variables_in d)) (sym c.in-Send.is))
    c.with_guards-in-Send.ensures
