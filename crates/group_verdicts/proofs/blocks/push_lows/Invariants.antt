use Rattle.std.proofs.Common.{◌≡◌, ◌++◌, length}
use Rattle.group_verdicts.specs.Narrowing.{lows}
use Rattle.group_verdicts.proofs.blocks.push_lows.Given as goal

-- the least numbers of the cells so far
abbrev pub invariant-loop-place : goal.invariant-loop-place
invariant-loop-place l = l.numbers ≡ l.fn.numbers ++ lows l.worlds (length l.fn.numbers) l.place
