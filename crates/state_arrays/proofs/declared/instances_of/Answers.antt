use Rattle.state_arrays.proofs.MadeLemmas.{admits_turn}
use Rattle.state_arrays.proofs.declared.instances_of.Goals as goal

pub with_declaration-requires : goal.with_declaration-requires
with_declaration-requires c = admits_turn _ _ _ _ _ _ c.requires c.loop-decl-test.true c.decl-item.is c.loop-decl.invariant
