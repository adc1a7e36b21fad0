use Rattle.std.proofs.Common.{ℕ, Some, ap, ◌∙◌}
use Rattle.rsml_syntax.specs.rules.Globals.{Globals}
use Rattle.rsml_syntax.specs.limits.Comparisons.{Indices, comparisons_in}
use Rattle.rsml_limits.specs.comparisons.Searched.{searched}
use Rattle.rsml_limits.proofs.AskGathering.{searched_next}
use Rattle.rsml_limits.proofs.comparisons.phrases.each_value.Goals as goal

pub loop-below-preserved : goal.loop-below-preserved
loop-below-preserved c =
    searched_next (λ (g : Globals) (n : ℕ). comparisons_in g (record { this = c.args.this; variable = Some (c.args.variable.now, n) }) c.args.body.now) _ _ _ _ c.loop-below.invariant
    (c.in_ok-simple.ensures ∙ ap (λ (r : Indices). searched c.loop-below.search (λ g. comparisons_in g r c.args.body.now)) c.quantified-indices.ensures)
