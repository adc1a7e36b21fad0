use Rattle.std.proofs.Common.{sym, subst}
use Rattle.bdd_core.specs.Calls.{Represents}
use Rattle.bdd_core.proofs.CallLemmas.{represents-var}
use Rattle.bdd_core.proofs.arena.Arena.var.Goals as goal

pub returns-clause-answer : goal.returns-clause-answer
returns-clause-answer c =
    subst (Represents c.make.new.self (λ v. v c.args.level)) (sym c.at.ensures) (represents-var c.make.new.self c.args.level c.in_ok-place.place c.in_ok-place.ensures.node)
