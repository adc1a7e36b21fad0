use Rattle.std.proofs.Common.{◌≡◌, true, take}
use Rattle.std.specs.List.{list_all}
use Rattle.and_or_tables.specs.Ground.{known}
use Rattle.macros.proofs.phrases.each_true.Given as goal

abbrev pub invariant-loop-number : goal.invariant-loop-number
invariant-loop-number l = list_all (known l.truths) (take l.number-index l.numbers) ≡ true
