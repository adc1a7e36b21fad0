use Rattle.std.proofs.Common.{◌≡◌, ℕ, ◌-◌, ◌<◌, ◌≤◌, true, length}
use Rattle.rsml_syntax.specs.text.Names.{is_in}
use Rattle.rsml_syntax.specs.text.Renaming.{names_of, numbered_name}
use Rattle.rsml_syntax.proofs.renaming.unused_name.Given as goal

abbrev pub invariant-loop-name : goal.invariant-loop-name
invariant-loop-name l = record {
  positive : 1 ≤ l.number;
  used : (j : ℕ) → 1 ≤ j → j < l.number → is_in (numbered_name j) (names_of l.tokens) ≡ true;
}

abbrev pub decreases-loop-name : goal.decreases-loop-name
decreases-loop-name l = length l.tokens - l.number
