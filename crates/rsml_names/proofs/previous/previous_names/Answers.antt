use Rattle.std.proofs.Common.{◌≡◌, IfOk, List, subst}
use Rattle.rsml_syntax.specs.text.Names.{Name}
use Rattle.rsml_names.proofs.SumsOfParts.{all_gathered}
use Rattle.rsml_names.proofs.previous.previous_names.Goals as goal

pub returns : goal.returns
returns c =
    let all = all_gathered c.args.spec.now c.new.result c.in_ok-names.names c.in_ok-names-2.names c.as_slice.result.now c.transitions_of.result.now
    c.new.ensures c.as_slice.ensures c.in_ok-names.ensures c.in_ok-names-2.ensures c.transitions_of.ensures in
    subst (λ (names : List Name). IfOk c.with_guards.result (λ n. n ≡ names)) all c.with_guards.ensures
