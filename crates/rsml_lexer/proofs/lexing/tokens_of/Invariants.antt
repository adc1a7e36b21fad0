use Rattle.std.proofs.Common.{length}
use Rattle.rsml_lexer.proofs.ScanSteps.{Reached}
use Rattle.rsml_lexer.proofs.lexing.tokens_of.Given as goal

abbrev pub invariant-loop-rest : goal.invariant-loop-rest
invariant-loop-rest l = Reached l.edition l.text l.found.items l.rest

abbrev pub decreases-loop-rest : goal.decreases-loop-rest
decreases-loop-rest l = length l.rest
