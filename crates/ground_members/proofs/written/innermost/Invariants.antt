use Rattle.std.proofs.Common.{◌≡◌, take}
use Rattle.rsml_meaning.specs.Transitions as spec
use Rattle.ground_members.proofs.written.innermost.Given as goal

abbrev pub invariant-loop-step : goal.invariant-loop-step
invariant-loop-step l = l.index ≡ spec.innermost (take l.step-index l.path)
