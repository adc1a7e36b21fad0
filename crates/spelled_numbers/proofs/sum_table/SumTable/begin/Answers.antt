use Rattle.std.proofs.Common.{arith}
use Rattle.spelled_numbers.proofs.sum_table.SumTable.begin.Goals as goal

pub returns-else-self : goal.returns-else-self
returns-else-self c = λ d terms. record { right = λ kept there e. absurd (omega (arith, c.self.invariant kept there, e)) }
