use Rattle.std.proofs.Common.{sym, subst}
use Rattle.bdd_core.specs.Steps.{IsWithout, AreRight}
use Rattle.bdd_core.proofs.ForgetLemmas.{greatest-most, right-none, represents-forgotten}
use Rattle.bdd_core.proofs.arena.Arena.forget.Goals as goal

pub without-requires-clause-last : goal.without-requires-clause-last
without-requires-clause-last c = greatest-most c.args.levels.now c.greatest.result c.greatest.ensures

pub without-requires-clause-answers : goal.without-requires-clause-answers
without-requires-clause-answers c = subst (AreRight c.args.self.now c.args.levels.now) (sym c.new-answers.ensures) (right-none c.args.self.now c.args.levels.now)

pub returns-clause-answer : goal.returns-clause-answer
returns-clause-answer c =
    represents-forgotten c.args.self.now c.without.new.self c.without.ensures.keeps c.args.f c.args.levels.now c.at.result c.requires
    (subst (λ f. IsWithout c.without.new.self f c.args.levels.now c.at.result) c.place-f.ensures.place
    (subst (IsWithout c.without.new.self c.place-f.result c.args.levels.now) (sym c.at.ensures) c.in_ok-place.ensures.without))
