use Rattle.std.proofs.Common.{◌≡◌, ◌∙◌, ◌↔◌, ap, sym, subst, arith, eqb, ℕ, Bool, IsTrue, false}
use Rattle.bdd_core.specs.Diagram.{IsReduced, meaning}
use Rattle.bdd_core.proofs.MeaningLemmas.{meaning-false}
use Rattle.bdd_core.proofs.CallLemmas.{constant-exact}
use Rattle.bdd_core.proofs.arena.Arena.is_false.Goals as goal

pub returns : goal.returns
returns c =
    let is : IsReduced c.args.self.now = subst IsReduced c.self.view_is c.self.invariant.is_reduced in
    subst (λ b. IsTrue b ↔ ((v : ℕ → Bool) → meaning c.args.self.now c.args.f v ≡ false)) (sym (c.eq.ensures ∙ ap (λ k. eqb c.args.f k) c.at.ensures))
    (constant-exact c.args.self.now is c.args.f 0 false c.requires (omega (arith, is.at_least)) (meaning-false c.args.self.now))
