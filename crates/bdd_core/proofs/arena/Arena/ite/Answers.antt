use Rattle.bdd_core.proofs.ChoiceLemmas.{choice-at}
use Rattle.bdd_core.proofs.CallLemmas.{represents-ite}
use Rattle.bdd_core.proofs.arena.Arena.ite.Goals as goal

pub returns-clause-answer : goal.returns-clause-answer
returns-clause-answer c =
    represents-ite c.args.self.now c.choose.new.self c.args.f c.args.g c.args.h c.at.result c.choose.ensures.keeps c.requires.f_ref c.requires.g_ref c.requires.h_ref
    (choice-at c.choose.new.self c.place-f.result c.args.f c.place-g.result c.args.g c.place-h.result c.args.h c.in_ok-place.place c.at.result
    c.place-f.ensures.place c.place-g.ensures.place c.place-h.ensures.place c.at.ensures c.in_ok-place.ensures.choice)
