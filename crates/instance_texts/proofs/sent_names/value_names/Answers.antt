use Rattle.std.proofs.Common.{List, [], ◌∷◌, None, ap, sym, ◌∙◌}
use Rattle.rsml_syntax.specs.declared.syntax.Case.{Case}
use Rattle.rsml_syntax.specs.declared.syntax.Value.{Value}
use Rattle.rsml_syntax.specs.rules.Kinds.{sum_kind}
use Rattle.rsml_meaning.specs.Trace.{names_of_kind, value_kind}
use Rattle.instance_texts.proofs.sent_names.value_names.Goals as goal

pub returns-in-Function : goal.returns-in-Function
returns-in-Function c =
    let known = c.args.globals.now in
    c.first_names.ensures
    ∙ ap (λ (cases : List Case). names_of_kind known (elim cases [ [] ↦ None | d ∷ ds ↦ sum_kind known d.value ])) c.function_cases.ensures
    ∙ sym (ap (λ (v : Value). names_of_kind known (value_kind known v)) c.in-Function.is)
