-- Reactions in series, and their texts.
use Rattle.std.specs.Prelude.{ℕ, List, [], ◌∷◌, flat_map}
use Rattle.rsml_syntax.specs.declared.syntax.Spec.{Spec}
use Rattle.rsml_syntax.specs.declared.world.World.{World}
use Rattle.rsml_meaning.specs.Words.{numbered_from}
use Rattle.rsml_meaning.specs.Instances.{globals_of}
use Rattle.rsml_meaning.specs.Runs.{Reaction}
use Rattle.rsml_meaning.specs.Texts.{Text}
use Rattle.rsml_meaning.specs.Trace.{reaction_text}

-- the world that reactions leave, from a world on
abbrev pub world_after : World → List Reaction → World
world_after w [] = w
world_after w (r ∷ rs) = world_after r.world rs

-- the texts of reactions, of which the first has this number
abbrev pub texts_from : Spec → ℕ → List Reaction → Text
texts_from s n rs = flat_map (reaction_text (globals_of s)) (numbered_from n rs)
