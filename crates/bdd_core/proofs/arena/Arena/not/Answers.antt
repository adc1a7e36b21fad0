use Rattle.std.proofs.Common.{refl}
use Rattle.bdd_core.proofs.ChoiceLemmas.{choice-at}
use Rattle.bdd_core.proofs.CallLemmas.{represents-not}
use Rattle.bdd_core.proofs.arena.Arena.not.Goals as goal

pub returns-clause-answer : goal.returns-clause-answer
returns-clause-answer c =
    represents-not c.args.self.now c.choose.new.self c.args.f c.at.result c.choose.ensures.keeps c.requires
    (choice-at c.choose.new.self c.place-f.result c.args.f 0 0 1 1 c.in_ok-place.place c.at.result c.place-f.ensures.place refl refl c.at.ensures c.in_ok-place.ensures.choice)
