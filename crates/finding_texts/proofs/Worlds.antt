-- The choices of a world.
use Rattle.std.specs.Cmp.{first_so}
use Rattle.std.specs.Cmp.Lexicographic.{pointwise}
use Rattle.rsml_syntax.specs.declared.syntax.Spec.{Spec}
use Rattle.rsml_syntax.specs.declared.world.World.{World}
use Rattle.rsml_meaning.specs.Instances.{components}
use Rattle.rsml_meaning.specs.Cells.{cells, is_of}
use Rattle.rsml_meaning.specs.Worlds.{IsWorld, is_choice}
use Rattle.state_tree.specs.Numbers.{AreChoices}

-- a world has a child for each component
pub choices_are : (s : Spec) (w : World) → IsWorld s w → AreChoices s w.choices
choices_are s w is = first_so (pointwise is_choice (components s) w.choices) (pointwise (λ c n. is_of c.numbers n) (cells s) w.cells) is
