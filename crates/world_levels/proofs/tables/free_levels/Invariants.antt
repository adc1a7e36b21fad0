use Rattle.std.proofs.Common.{◌≡◌, ◌++◌, drop}
use Rattle.world_levels.specs.Spelling.{free_from}
use Rattle.world_levels.proofs.tables.free_levels.Given as goal

abbrev pub invariant-loop-level : goal.invariant-loop-level
invariant-loop-level l = l.free.items ++ free_from (drop l.level l.slots) l.level ≡ free_from l.slots 0
