use Rattle.std.proofs.Common.{◌∙◌, ap, sym, subst, Some}
use Rattle.rsml_ground.specs.Numbers.{IsWith}
use Rattle.rsml_ground.proofs.Equal.{phrase_same, added}
use Rattle.rsml_ground.proofs.numbered.Phrases.add.Goals as goal

pub returns-clause-number : goal.returns-clause-number
returns-clause-number c = let s = c.in_ok-place.ensures.stored in s.1 ∙ ap (λ p. Some p) (sym (phrase_same c.args.phrase s.0 s.2))

pub returns-clause-ok : goal.returns-clause-ok
returns-clause-ok c =
    subst (λ ps. IsWith ps c.args.phrase c.insert_full.new.self.keys) c.self.view_is
    (added c.self.inside.set.keys c.insert_full.new.self.keys c.args.phrase c.in_ok-place.ensures.keys)
