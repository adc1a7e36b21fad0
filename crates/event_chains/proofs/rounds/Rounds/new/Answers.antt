use Rattle.std.proofs.Common.{sym, subst}
use Rattle.rsml_syntax.specs.declared.syntax.Spec.{Spec}
use Rattle.rsml_syntax.specs.limits.Checked.{IsChecked}
use Rattle.event_graph.specs.Graphs.{Graph}
use Rattle.event_chains.specs.Draws.{Draws}
use Rattle.event_chains.proofs.rounds.Rounds.new.Goals as goal

pub invariant_of-result : goal.invariant_of-result
invariant_of-result c = record {
  checked = subst (λ (s : Spec). IsChecked s) (sym c.spec.ensures) c.graph.ensures.checked;
  draws = subst (λ (s : Spec). Draws s c.new.result.graph) (sym c.spec.ensures) (subst (λ (g : Graph). Draws c.args.chains.now g) (sym c.new.ensures.graph) c.graph.ensures.draws);
}
