-- The values of the levels in one world. No public clause speaks of them.
use Rattle.std.specs.Prelude.{ℕ, ◌==◌, Bool, false, find, slice_get}
use Rattle.std.specs.Option.{option_map_or}
use Rattle.rsml_syntax.specs.declared.world.World.{World}
use Rattle.world_levels.specs.Spelling.{spelled_world}
use Rattle.keyed_levels.specs.Keyed.{KeyedWorlds, comparison, phrases_of}

-- the truth of the comparison for which a level stands; false where it stands for none
abbrev pub key_truth : KeyedWorlds → World → ℕ → Bool
key_truth k w level = option_map_or (λ x. comparison w (slice_get (phrases_of k) x.phrase)) (find (λ x. x.level == level) k.keyed) false

-- the levels of parts as the world is spelled, and those of comparisons with their truths
unfoldable pub values_in : KeyedWorlds → World → ℕ → Bool
values_in k w level = spelled_world k.base.spec k.slots w (key_truth k w) level
