use Rattle.std.proofs.Common.{◌≡◌, ◌++◌, IfOk, List, sym, ap, ◌∙◌, subst}
use Rattle.rsml_syntax.specs.declared.syntax.Case.{Case}
use Rattle.rsml_syntax.specs.declared.syntax.Decl.{Decl}
use Rattle.rsml_syntax.specs.declared.syntax.SendCase.{SendCase}
use Rattle.rsml_syntax.specs.declared.syntax.Sum.{Sum}
use Rattle.rsml_names.specs.PreviousNames.{gathered, case_guards, case_values, send_guards, send_answers, sums_of_declaration}
use Rattle.rsml_names.proofs.PreviousGathering.{function_sums, send_sums}
use Rattle.rsml_names.proofs.previous.with_declaration.Goals as goal

pub returns-in-Function : goal.returns-in-Function
returns-in-Function c =
    let d = c.in-Function in
    let sums : (case_guards c.as_slice-in-Function.result.now ++ case_values c.as_slice-in-Function.result.now) ≡ sums_of_declaration c.args.decl.now =
    ap (λ (cs : List Case). case_guards cs ++ case_values cs) c.as_slice-in-Function.ensures ∙ sym (function_sums d.name d.size d.cases) ∙ ap (λ (x : Decl). sums_of_declaration x) (sym d.is) in
    subst (λ (ss : List Sum). IfOk c.with_cases.result (λ n. n ≡ gathered c.args.names ss)) sums c.with_cases.ensures

pub returns-in-Send : goal.returns-in-Send
returns-in-Send c =
    let d = c.in-Send in
    let sums : (send_guards c.as_slice-in-Send.result.now ++ send_answers c.as_slice-in-Send.result.now) ≡ sums_of_declaration c.args.decl.now =
    ap (λ (cs : List SendCase). send_guards cs ++ send_answers cs) c.as_slice-in-Send.ensures ∙ sym (send_sums d.name d.size d.fields d.cases) ∙ ap (λ (x : Decl). sums_of_declaration x) (sym d.is) in
    subst (λ (ss : List Sum). IfOk c.with_send_cases.result (λ n. n ≡ gathered c.args.names ss)) sums c.with_send_cases.ensures
