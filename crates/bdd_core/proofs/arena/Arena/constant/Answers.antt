use Rattle.std.proofs.Common.{◌∙◌, ap, sym, subst, arith}
use Rattle.bdd_core.specs.Diagram.{IsReduced, meaning}
use Rattle.bdd_core.proofs.MeaningLemmas.{meaning-false, meaning-true}
use Rattle.bdd_core.proofs.arena.Arena.constant.Goals as goal
use Rattle.bdd_core.proofs.arena.Arena.constant.Goals.{then-value, else-value}

pub returns : goal.returns
returns c =
    let is : IsReduced c.args.self.now = subst IsReduced c.self.view_is c.self.invariant.is_reduced in
    elim c.if-value.branch [
      | then-value w ↦ record {
        is_ref = omega (arith, is.at_least, c.at.ensures, w.at-is);
        means = λ v. ap (λ k. meaning c.args.self.now k v) (c.at.ensures ∙ w.at-is) ∙ meaning-true c.args.self.now v ∙ sym w.if-value.true;
      }
      | else-value w ↦ record {
        is_ref = omega (arith, is.at_least, c.at.ensures, w.at-is);
        means = λ v. ap (λ k. meaning c.args.self.now k v) (c.at.ensures ∙ w.at-is) ∙ meaning-false c.args.self.now v ∙ sym w.if-value.false;
      }
    ]
