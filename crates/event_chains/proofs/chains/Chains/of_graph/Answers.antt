use Rattle.std.proofs.Common.{sym, subst}
use Rattle.rsml_syntax.specs.declared.syntax.Spec.{Spec}
use Rattle.rsml_syntax.specs.limits.Checked.{IsChecked}
use Rattle.event_graph.specs.Graphs.{Graph}
use Rattle.event_chains.specs.Draws.{Draws}
use Rattle.event_chains.specs.Found.{AreExternals}
use Rattle.event_chains.proofs.chains.Chains.of_graph.Goals as goal

pub invariant_of-result : goal.invariant_of-result
invariant_of-result c = record {
  checked = subst (λ (s : Spec). IsChecked s) (sym c.spec-spec.ensures.same) c.spec-spec.ensures.checked;
  draws = subst (λ (s : Spec). Draws s c.in_ok-chains.chains) (sym c.spec-spec.ensures.same) (subst (λ (g : Graph). Draws c.args.checked.now g) (sym c.in_ok-chains.ensures) c.requires);
  externals = subst (λ (s : Spec). AreExternals s c.in_ok-externals.externals.items) (sym c.spec-spec.ensures.same) c.in_ok-externals.ensures;
}
