-- Phrases that are about states alone, by the children that are to be chosen.
use Rattle.std.specs.Prelude.{◌≡◌, ℕ, ◌<◌, Bool, List, map, length, All}
use Rattle.std.specs.List.{list_any}
use Rattle.rsml_syntax.specs.declared.world.World.{World}
use Rattle.rsml_meaning.specs.Worlds.{IsWorld}
use Rattle.and_or_tables.specs.Ground.{known}
use Rattle.rsml_ground.specs.Truths.{Grounded, truths_in}
use Rattle.rsml_ground.specs.declared.choices.Choice.{Choice}
use Rattle.macros.specs.declared.state_phrases.StatePhrase.{StatePhrase}
use Rattle.rsml_ground.specs.Choices.{AreOfComponents, are_chosen}

-- the component of each choice of one of these lists has its child
abbrev pub some_chosen : List ℕ → List (List Choice) → Bool
some_chosen chosen ways = list_any (are_chosen chosen) ways

-- The phrase of a number is true exactly where the component of each choice has its child.
pub record IsWay (g : Grounded) (phrase : ℕ) (choices : List Choice) : Type 0 where
  pub components : AreOfComponents g.spec choices
  pub right : (w : World) → IsWorld g.spec w → are_chosen w.choices choices ≡ known (truths_in g w) phrase

-- The phrase of a number is true exactly where one of these lists is chosen.
pub record AreWays (g : Grounded) (phrase : ℕ) (ways : List (List Choice)) : Type 0 where
  pub components : All (AreOfComponents g.spec) ways
  pub right : (w : World) → IsWorld g.spec w → some_chosen w.choices ways ≡ known (truths_in g w) phrase

-- There is such a phrase, and its ways are right.
pub record IsStatePhrase (g : Grounded) (x : StatePhrase) : Type 0 where
  pub there : x.phrase < length g.phrases
  pub ways : AreWays g x.phrase (map (λ c. c.items) x.ways.items)
