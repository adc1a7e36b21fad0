use Rattle.std.proofs.Common.{refl}
use Rattle.bdd_core.proofs.ChoiceLemmas.{choice-at}
use Rattle.bdd_core.proofs.CallLemmas.{represents-or}
use Rattle.bdd_core.proofs.arena.Arena.or.Goals as goal

pub returns-clause-answer : goal.returns-clause-answer
returns-clause-answer c =
    represents-or c.args.self.now c.choose.new.self c.args.f c.args.g c.at.result c.choose.ensures.keeps c.requires.f_ref c.requires.g_ref
    (choice-at c.choose.new.self c.place-f.result c.args.f 1 1 c.place-g.result c.args.g c.in_ok-place.place c.at.result
    c.place-f.ensures.place refl c.place-g.ensures.place c.at.ensures c.in_ok-place.ensures.choice)
