use Rattle.std.proofs.Common.{◌≡◌, map, take}
use Rattle.macros.specs.Guards.{guards_of}
use Rattle.macros.proofs.fast.tables_of.Given as goal

abbrev pub invariant-loop-definition : goal.invariant-loop-definition
invariant-loop-definition l = l.tables.items ≡ map guards_of (take l.definition-index l.definitions)
