use Rattle.std.proofs.Common.{inl, inr}
use Rattle.bdd_core.proofs.ChoiceLemmas.{IsTrueWith, IsFalseWith, choice-true, choice-false, choice-same, choice-itself, true-constant, true-itself, false-constant, false-itself}
use Rattle.bdd_core.proofs.arena.choose.simple.Goals as goal

pub returns-then-g-h-clause-right : goal.returns-then-g-h-clause-right
returns-then-g-h-clause-right c d pf pg ph = elim c.if-g-h.either [
  | inl e ↦ choice-true d c.args.f c.args.g c.args.h pg e
  | inr e ↦ choice-same d c.args.f c.args.g c.args.h pg e.1
]

pub returns-then-f-eq-FALSE-clause-right : goal.returns-then-f-eq-FALSE-clause-right
returns-then-f-eq-FALSE-clause-right c d pf pg ph = choice-false d c.args.f c.args.g c.args.h ph c.if-f-eq-FALSE.true

pub returns-then-h-f-clause-right : goal.returns-then-h-f-clause-right
returns-then-h-f-clause-right c d pf pg ph =
    let true_with : IsTrueWith d c.args.f c.args.g = elim c.if-g-f.either [ inl e ↦ true-constant d c.args.f c.args.g e | inr e ↦ true-itself d c.args.f c.args.g e.1 ] in
    let false_with : IsFalseWith d c.args.f c.args.h = elim c.if-h-f.either [ inl e ↦ false-constant d c.args.f c.args.h e | inr e ↦ false-itself d c.args.f c.args.h e.1 ] in
    choice-itself d c.args.f c.args.g c.args.h pf true_with false_with
