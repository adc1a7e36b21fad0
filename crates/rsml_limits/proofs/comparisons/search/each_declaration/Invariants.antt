use Rattle.std.proofs.Common.{◌≡◌, drop}
use Rattle.std.specs.Prelude.{flat_map}
use Rattle.rsml_syntax.specs.declared.syntax.Decl.{Decl}
use Rattle.rsml_syntax.specs.grammar.Parts.{Declared}
use Rattle.rsml_syntax.specs.limits.Comparisons.{comparisons}
use Rattle.rsml_limits.specs.comparisons.Searched.{searched}
use Rattle.rsml_limits.proofs.comparisons.search.each_declaration.Given as goal

abbrev pub invariant-loop-decl : goal.invariant-loop-decl
invariant-loop-decl l =
    searched l.search (λ g. flat_map (λ (d : Decl). comparisons g (Declared 0 d)) (drop l.decl-index l.decls))
    ≡ searched l.fn.search (λ g. flat_map (λ (d : Decl). comparisons g (Declared 0 d)) l.decls)
