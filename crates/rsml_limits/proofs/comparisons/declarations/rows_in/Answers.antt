use Rattle.std.proofs.Common.{◌≡◌, List, ap, ◌∙◌, sym, subst, OnOk}
use Rattle.std.specs.Prelude.{flat_map}
use Rattle.rsml_syntax.specs.declared.syntax.Row.{Row}
use Rattle.rsml_syntax.specs.declared.syntax.Case.{Case}
use Rattle.rsml_syntax.specs.declared.syntax.SendCase.{SendCase}
use Rattle.rsml_syntax.specs.limits.Comparisons.{rows_comparisons}
use Rattle.rsml_syntax.specs.grammar.Written.{rows_of, rows_in}
use Rattle.rsml_limits.specs.comparisons.Searched.{searched}
use Rattle.rsml_limits.proofs.WrittenLemmas.{rows_in_function, rows_in_send}
use Rattle.rsml_limits.proofs.comparisons.declarations.rows_in.Goals as goal

pub returns-in-Function : goal.returns-in-Function
returns-in-Function c =
    subst (λ (rows : List Row). OnOk c.each_guard.result (c.each_guard.new.search ≡ searched c.args.search.now (λ g. rows_comparisons g rows c.args.this)))
    (ap (flat_map (λ (d : Case). rows_of d.guard)) c.as_slice-in-Function.ensures ∙ sym (ap rows_in c.in-Function.is ∙ rows_in_function c.in-Function.name c.in-Function.size c.in-Function.cases))
    c.each_guard.ensures

pub returns-in-Send : goal.returns-in-Send
returns-in-Send c =
    subst (λ (rows : List Row). OnOk c.each_guard-in-Send.result (c.each_guard-in-Send.new.search ≡ searched c.args.search.now (λ g. rows_comparisons g rows c.args.this)))
    (ap (flat_map (λ (d : SendCase). rows_of d.guard)) c.as_slice-in-Send.ensures ∙ sym (ap rows_in c.in-Send.is ∙ rows_in_send c.in-Send.name c.in-Send.size c.in-Send.fields c.in-Send.cases))
    c.each_guard-in-Send.ensures
