use Rattle.std.proofs.Common.{sym, ap, ◌∙◌}
use Rattle.std.specs.Option.{option_copied}
use Rattle.rsml_limits.proofs.SourceLemmas.{sources_by}
use Rattle.rsml_limits.proofs.counts.states.sources.Goals as goal

pub returns-in-Some : goal.returns-in-Some
returns-in-Some c = c.len.ensures ∙ sources_by c.args.transition.now c.args.buses.now _ (ap (λ o. option_copied o) (sym c.in-Some.is) ∙ c.bus.ensures)

pub returns-in-None : goal.returns-in-None
returns-in-None c = sources_by c.args.transition.now c.args.buses.now _ (ap (λ o. option_copied o) (sym c.in-None.is) ∙ c.bus.ensures)
