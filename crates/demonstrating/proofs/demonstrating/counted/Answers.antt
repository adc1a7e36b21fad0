use Rattle.std.proofs.Common.{ℕ, List, sym, subst}
use Rattle.std.proofs.lemmas.Result.{IfOk-from_err}
use Rattle.demonstrating.specs.Summary.{AreCountsOf, AreEventsOf}
use Rattle.demonstrating.proofs.DemoLemmas.{short_plant}
use Rattle.demonstrating.proofs.demonstrating.counted.Goals as goal

pub elaborate-requires : goal.elaborate-requires
elaborate-requires c = short_plant c.args.units c.args.checked.now c.requires.plant

pub counted_on-requires-clause-machine : goal.counted_on-requires-clause-machine
counted_on-requires-clause-machine c = c.in_ok-machine.ensures

pub counted_on-requires-clause-events : goal.counted_on-requires-clause-events
counted_on-requires-clause-events c = subst (λ (bytes : List ℕ). AreEventsOf c.args.units bytes) (sym c.as_bytes.ensures.value) c.in_ok-events.ensures

pub returns-in_err-machine : goal.returns-in_err-machine
returns-in_err-machine c = IfOk-from_err c.from_residual.result (AreCountsOf c.args.units) c.from_residual.ensures.0

pub returns-in_err-events : goal.returns-in_err-events
returns-in_err-events c = IfOk-from_err c.from_residual-in_err-events.result (AreCountsOf c.args.units) c.from_residual-in_err-events.ensures.0
