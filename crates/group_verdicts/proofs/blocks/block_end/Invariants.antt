use Rattle.std.proofs.Common.{◌≡◌, ◌-◌, ◌≤◌}
use Rattle.group_verdicts.proofs.blocks.block_end.Given as goal

-- as long as no cell has been passed, none has been counted
abbrev pub invariant-loop-end : goal.invariant-loop-end
invariant-loop-end l = record {
  from : l.from ≤ l.end;
  within : l.end ≤ l.cells;
  none : l.end ≤ l.from → l.left ≡ l.many;
}

abbrev pub decreases-loop-end : goal.decreases-loop-end
decreases-loop-end l = l.cells - l.end
