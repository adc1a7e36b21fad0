-- Where a group fails: its condition holds, and not exactly one of its members is enabled.
use Rattle.std.specs.Prelude.{Bool, ◌&&◌, ◌==◌, nat_lt}
use Rattle.rsml_syntax.specs.declared.syntax.Spec.{Spec}
use Rattle.rsml_syntax.specs.declared.world.World.{World}
use Rattle.rsml_meaning.specs.Truth.{view}
use Rattle.rsml_meaning.specs.Groups.{Group, meets, enabled_count}

-- the world meets the condition and enables no member
abbrev pub enables_none : Spec → Group → World → Bool
enables_none s g w = meets s (view s w) g && (enabled_count s g (view s w) == 0)

-- the world meets the condition and enables two members or more
abbrev pub enables_two : Spec → Group → World → Bool
enables_two s g w = meets s (view s w) g && nat_lt 1 (enabled_count s g (view s w))
