use Rattle.std.proofs.Common.{◌≡◌, replicate}
use Rattle.worlds.proofs.first.zeros.Given as goal

abbrev pub invariant-loop-component : goal.invariant-loop-component
invariant-loop-component l = l.choices ≡ replicate l._component 0
