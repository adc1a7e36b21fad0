use Rattle.std.proofs.Common.{sym, subst}
use Rattle.bdd_core.specs.Steps.{IsCut}
use Rattle.bdd_core.proofs.CallLemmas.{represents-cut}
use Rattle.bdd_core.proofs.arena.Arena.restrict.Goals as goal

pub returns-clause-answer : goal.returns-clause-answer
returns-clause-answer c =
    represents-cut c.args.self.now c.cut.new.self c.args.f c.args.level c.at.result c.args.value c.cut.ensures.keeps c.requires
    (subst (λ f. IsCut c.cut.new.self f c.args.level c.args.value c.at.result) c.place-f.ensures.place
    (subst (IsCut c.cut.new.self c.place-f.result c.args.level c.args.value) (sym c.at.ensures) c.in_ok-place.ensures.cut))
