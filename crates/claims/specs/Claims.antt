-- What a claim says of a world.
use Rattle.std.specs.Prelude.{Bool, List}
use Rattle.std.specs.List.{list_all}
use Rattle.rsml_syntax.specs.declared.syntax.Spec.{Spec}
use Rattle.rsml_syntax.specs.declared.world.World.{World}
use Rattle.claim_syntax.specs.declared.claim.Claim.{Claim}
use Rattle.rsml_meaning.specs.Truth.{view, within, table}

-- a claim is true in a world: its table is, read in no instance
abbrev pub is_true : Spec → World → Claim → Bool
is_true s w c = table (view s w) (within 0) c.rows

-- all claims are true in a world
abbrev pub all_true : Spec → List Claim → World → Bool
all_true s cs w = list_all (is_true s w) cs
