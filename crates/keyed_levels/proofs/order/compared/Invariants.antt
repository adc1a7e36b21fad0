use Rattle.std.proofs.Common.{◌<◌, All}
use Rattle.keyed_levels.proofs.order.compared.Given as goal

-- all numbers so far are those of phrases
abbrev pub invariant-loop-place : goal.invariant-loop-place
invariant-loop-place l = All (λ p. p < l.phrases) l.numbers.items
