use Rattle.rsml_meaning.specs.Words.{Each}
use Rattle.event_lines.specs.helpers.Kept.{IsKnown}
use Rattle.event_lines.proofs.receives.first_of.Given as goal

abbrev pub invariant-loop-decl : goal.invariant-loop-decl
invariant-loop-decl l = Each (IsKnown l.owners) l.first.items
