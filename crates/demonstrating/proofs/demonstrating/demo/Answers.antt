use Rattle.std.proofs.Common.{ℕ, List, refl, sym, subst}
use Rattle.demonstrating.specs.Steps as steps
use Rattle.demonstrating.specs.Summary.{IsSummary}
use Rattle.demonstrating.proofs.demonstrating.demo.Goals as goal

pub returns-in-Ok-clause-demonstrated : goal.returns-in-Ok-clause-demonstrated
returns-in-Ok-clause-demonstrated g c =
    steps.HasDemonstrated.summed c.as_slice.result.now (subst (λ (bytes : List ℕ). IsSummary c.args.units bytes) (sym c.as_slice.ensures.value) c.in-Ok.ensures) c.finish.ensures.written

pub returns-in-Err-clause-demonstrated : goal.returns-in-Err-clause-demonstrated
returns-in-Err-clause-demonstrated g c = steps.HasDemonstrated.no_memory refl refl
