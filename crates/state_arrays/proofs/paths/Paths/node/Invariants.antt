use Rattle.std.proofs.Common.{take}
use Rattle.state_arrays.proofs.PathLemmas.{IsAfter}
use Rattle.state_arrays.proofs.paths.Paths.node.Given as goal

abbrev pub invariant-loop-step : goal.invariant-loop-step
invariant-loop-step l = IsAfter l.self (take l.step-index l.path.steps) l.node
