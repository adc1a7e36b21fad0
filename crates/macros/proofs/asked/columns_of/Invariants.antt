use Rattle.std.proofs.Common.{◌≡◌, map}
use Rattle.macros.specs.Asked as spec
use Rattle.macros.proofs.asked.columns_of.Given as goal

abbrev pub invariant-loop-place : goal.invariant-loop-place
invariant-loop-place l = map (λ c. c.items) l.columns.items ≡ spec.columns_of l.place l.rows
