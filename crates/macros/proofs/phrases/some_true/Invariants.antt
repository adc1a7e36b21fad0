use Rattle.std.proofs.Common.{◌≡◌, false, take}
use Rattle.std.specs.List.{list_any}
use Rattle.and_or_tables.specs.Ground.{known}
use Rattle.macros.proofs.phrases.some_true.Given as goal

abbrev pub invariant-loop-number : goal.invariant-loop-number
invariant-loop-number l = list_any (known l.truths) (take l.number-index l.numbers) ≡ false
