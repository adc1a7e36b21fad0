-- A guard over phrases that there are has the shape of a table.
use Rattle.std.proofs.Common.{ℕ}
use Rattle.macros.specs.Guards.{HasShape}
use Rattle.rsml_ground.specs.declared.definitions.GroundGuard.{GroundGuard}
use Rattle.rsml_ground.specs.declared.definitions.GroundGuard.TheVariants as guards
use Rattle.rsml_ground.specs.Rests.{GuardFits}

pub guard_shape : (n : ℕ) (g : GroundGuard) → GuardFits n g → HasShape g
guard_shape n guards.Always f = tt
guard_shape n (guards.Table table) f = f.shape
