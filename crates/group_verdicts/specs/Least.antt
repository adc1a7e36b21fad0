-- The least world in which something is true.
use Rattle.std.specs.Prelude.{Bool, IsTrue}
use Rattle.rsml_syntax.specs.declared.syntax.Spec.{Spec}
use Rattle.rsml_syntax.specs.declared.world.World.{World}
use Rattle.rsml_meaning.specs.Worlds.{IsWorld}
use Rattle.rsml_meaning.specs.Findings.{IsLeast}

-- w is a world in which this is true, and this is true in none before it
abbrev pub IsLeastWorld : Spec → (World → Bool) → World → Type 0
IsLeastWorld s truth = IsLeast (λ w. IsWorld s w × IsTrue (truth w))
