use Rattle.std.proofs.Common.{◌≡◌, take}
use Rattle.event_lines.proofs.known.behind.Given as goal

abbrev pub invariant-loop-place : goal.invariant-loop-place
invariant-loop-place l = take l.place l.front ≡ take l.place l.name
