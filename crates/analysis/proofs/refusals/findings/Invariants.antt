use Rattle.std.proofs.Common.{◌≡◌, ◌≤◌, ◌+◌, drop, length, filter}
use Rattle.analysis.specs.Refusals.{is_found}
use Rattle.analysis.proofs.refusals.findings.Given as goal

abbrev pub invariant-loop-verdict : goal.invariant-loop-verdict
invariant-loop-verdict l = (l.count ≤ l.verdict-index) × (l.count + length (filter is_found (drop l.verdict-index l.verdicts)) ≡ length (filter is_found l.verdicts))
