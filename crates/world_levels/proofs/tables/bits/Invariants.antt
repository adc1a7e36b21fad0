use Rattle.world_levels.proofs.TableLemmas.{BitsUntil}
use Rattle.world_levels.proofs.tables.bits.Given as goal

abbrev pub invariant-loop-level : goal.invariant-loop-level
invariant-loop-level l = BitsUntil l.parts l.slots l.level l.bits.items
