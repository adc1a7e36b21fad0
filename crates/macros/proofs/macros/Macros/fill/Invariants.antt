use Rattle.std.proofs.Common.{◌≡◌, [], fold, length, take}
use Rattle.rsml_ground.specs.Truths.{with_next}
use Rattle.macros.proofs.macros.Macros.fill.Given as goal

-- the first phrases have their truths
abbrev pub invariant-loop-number : goal.invariant-loop-number
invariant-loop-number l = record {
  many : length l.truths ≡ length l.self.phrases;
  filled : take l.number l.truths ≡ fold (with_next l.self l.world) [] (take l.number l.self.phrases);
}
