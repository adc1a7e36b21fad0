use Rattle.rsml_syntax.specs.declared.syntax.Decl.{Decl}
use Rattle.rsml_syntax.specs.rules.Globals.{Globals}
use Rattle.rsml_syntax.specs.grammar.Parts.{Declared}
use Rattle.rsml_syntax.specs.limits.Comparisons.{comparisons}
use Rattle.rsml_limits.proofs.AskGathering.{searched_turn}
use Rattle.rsml_limits.proofs.comparisons.search.each_declaration.Goals as goal

pub loop-decl-preserved : goal.loop-decl-preserved
loop-decl-preserved c =
    searched_turn (λ (g : Globals) (d : Decl). comparisons g (Declared 0 d)) _ _ _ _ _ _ c.loop-decl-test.true c.decl-item.is c.in_ok-declaration.ensures c.loop-decl.invariant
