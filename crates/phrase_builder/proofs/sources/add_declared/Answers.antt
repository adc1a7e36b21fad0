use Rattle.std.proofs.Common.{◌≡◌, ◌++◌, OnOk, ap, subst, rules}
use Rattle.std.specs.Option.{option_copied}
use Rattle.rsml_meaning.specs.Instances.{globals_of}
use Rattle.rsml_meaning.specs.Interfaces.{function_cases, new_function}
use Rattle.phrase_builder.specs.declared.sources.Content.TheVariants as content
use Rattle.phrase_builder.specs.Sources.{all_defined_by}
use Rattle.phrase_builder.proofs.Declared.{functions_made}
use Rattle.phrase_builder.proofs.sources.add_declared.Goals as goal

pub returns-in-Function : goal.returns-in-Function
returns-in-Function c =
    let name = c.in-Function.name in
    let size : option_copied c.as_ref-in-Function.result ≡ c.in-Function.size = search rules in
    subst (λ made. OnOk c.add_instances-in-Function.result (all_defined_by c.add_instances-in-Function.new.sources.items ≡ all_defined_by c.args.sources.now.items ++ made))
    (functions_made (globals_of c.args.lookup.now) c.args.decl.now name c.in-Function.size (option_copied c.as_ref-in-Function.result) c.in-Function.cases (content.Cases c.as_slice-in-Function.result) c.in-Function.is size (λ i. ap (λ cases. function_cases (new_function name cases i)) c.as_slice-in-Function.ensures))
    c.add_instances-in-Function.ensures
