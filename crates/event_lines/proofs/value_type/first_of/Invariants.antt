use Rattle.rsml_meaning.specs.Words.{Each}
use Rattle.event_lines.specs.helpers.Kept.{IsPlaced}
use Rattle.event_lines.proofs.value_type.first_of.Given as goal

abbrev pub invariant-loop-name : goal.invariant-loop-name
invariant-loop-name l = Each (IsPlaced l.list) l.first.items
