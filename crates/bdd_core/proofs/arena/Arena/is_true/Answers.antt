use Rattle.std.proofs.Common.{◌≡◌, ◌∙◌, ◌↔◌, ap, sym, subst, arith, eqb, ℕ, Bool, IsTrue, true}
use Rattle.bdd_core.specs.Diagram.{IsReduced, meaning}
use Rattle.bdd_core.proofs.MeaningLemmas.{meaning-true}
use Rattle.bdd_core.proofs.CallLemmas.{constant-exact}
use Rattle.bdd_core.proofs.arena.Arena.is_true.Goals as goal

pub returns : goal.returns
returns c =
    let is : IsReduced c.args.self.now = subst IsReduced c.self.view_is c.self.invariant.is_reduced in
    subst (λ b. IsTrue b ↔ ((v : ℕ → Bool) → meaning c.args.self.now c.args.f v ≡ true)) (sym (c.eq.ensures ∙ ap (λ k. eqb c.args.f k) c.at.ensures))
    (constant-exact c.args.self.now is c.args.f 1 true c.requires (omega (arith, is.at_least)) (meaning-true c.args.self.now))
