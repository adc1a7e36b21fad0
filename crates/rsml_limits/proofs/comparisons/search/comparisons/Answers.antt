use Rattle.std.proofs.Common.{◌≡◌, List, ap, ◌∙◌, subst, OnOk}
use Rattle.std.specs.Prelude.{flat_map}
use Rattle.rsml_syntax.specs.declared.syntax.Decl.{Decl}
use Rattle.rsml_syntax.specs.grammar.Parts.{Declared}
use Rattle.rsml_syntax.specs.limits.Comparisons.{comparisons}
use Rattle.rsml_limits.specs.comparisons.Searched.{Searched, searched}
use Rattle.rsml_limits.proofs.Walking.{searched_parts}
use Rattle.rsml_limits.proofs.comparisons.search.comparisons.Goals as goal

pub returns : goal.returns
returns c =
    subst (λ (w : Searched). OnOk c.state.result (c.state.new.search ≡ w))
    (searched_parts c.args.spec.now c.args.search.now c.each_declaration.new.search c.inside.new.search
    (c.in_ok-each_declaration.ensures ∙ ap (λ (ds : List Decl). searched c.args.search.now (λ g. flat_map (λ d. comparisons g (Declared 0 d)) ds)) c.as_slice.ensures)
    c.in_ok-inside.ensures)
    c.state.ensures
