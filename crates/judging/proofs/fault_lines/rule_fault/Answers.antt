use Rattle.std.proofs.Common.{◌≡◌, ℕ, List, subst}
use Rattle.std.specs.Prelude.{IfOk}
use Rattle.judging.specs.FaultLines as lines
use Rattle.judging.proofs.TextLemmas.{rule_told, limit_told}
use Rattle.judging.proofs.fault_lines.rule_fault.Goals as goal

pub returns-in-Rule : goal.returns-in-Rule
returns-in-Rule c =
    rule_told _ _ _ _ c.in-Rule.is
    (subst (λ (name : List ℕ). IfOk c.rule_line.result (λ line. line.items ≡ lines.rule (record { rule = c.in-Rule.number; shown = name }))) c.bytes.ensures c.rule_line.ensures)

pub returns-in-Limit : goal.returns-in-Limit
returns-in-Limit c = limit_told _ _ _ _ c.in-Limit.is c.limit_line.ensures
