use Rattle.std.proofs.Common.{refl, subst}
use Rattle.bdd_core.specs.Calls.{AddsConjunctions}
use Rattle.bdd_core.proofs.ChoiceLemmas.{choice-at}
use Rattle.bdd_core.proofs.CallLemmas.{represents-and}
use Rattle.bdd_core.proofs.BoundLemmas.{bound}
use Rattle.bdd_core.proofs.arena.Arena.and.Goals as goal

pub returns-clause-answer : goal.returns-clause-answer
returns-clause-answer c =
    represents-and c.args.self.now c.choose-place.new.self c.args.f c.args.g c.at.result c.choose-place.ensures.keeps c.requires.f_ref c.requires.g_ref
    (choice-at c.choose-place.new.self c.place-f.result c.args.f c.place-g.result c.args.g 0 0 c.in_ok-place.field-0 c.at.result
    c.place-f.ensures.place c.place-g.ensures.place refl c.at.ensures c.in_ok-place.ensures.choice)

pub returns-clause-few : goal.returns-clause-few
returns-clause-few c m n f_size g_size =
    bound c.args.self.now c.choose-place.new.self c.args.f c.args.g m n f_size g_size
    (subst (λ f. AddsConjunctions c.args.self.now c.choose-place.new.self f c.args.g) c.place-f.ensures.place
    (subst (AddsConjunctions c.args.self.now c.choose-place.new.self c.place-f.result) c.place-g.ensures.place (c.choose-place.ensures.added refl)))
    c.laws.ensures.reduced c.choose-place.ensures.keeps.longer

pub returns-in_err-place-clause-few : goal.returns-in_err-place-clause-few
returns-in_err-place-clause-few c m n f_size g_size =
    bound c.args.self.now c.choose-place.new.self c.args.f c.args.g m n f_size g_size
    (subst (λ f. AddsConjunctions c.args.self.now c.choose-place.new.self f c.args.g) c.place-f.ensures.place
    (subst (AddsConjunctions c.args.self.now c.choose-place.new.self c.place-f.result) c.place-g.ensures.place (c.choose-place.ensures.added refl)))
    c.laws.ensures.reduced c.choose-place.ensures.keeps.longer
