use Rattle.std.proofs.Common.{◌≡◌, ◌-◌, ◌<◌, ◌++◌, length}
use Rattle.rsml_meaning.specs.Words.{Each}
use Rattle.state_tree.specs.Tables.{in_row}
use Rattle.state_tree.proofs.family.in_row.Given as goal

abbrev pub invariant-loop-child : goal.invariant-loop-child
invariant-loop-child l = record {
  whole : l.numbers.items ++ in_row l.ends l.place (l.count - l._child) ≡ in_row l.ends l.first l.count;
  within : Each (λ k. k < length l.ends) (in_row l.ends l.place (l.count - l._child));
}
