-- What is kept of the worlds of a specification.
use Rattle.std.specs.Prelude.{◌≡◌, List, map}
use Rattle.rsml_syntax.specs.declared.syntax.Spec.{Spec}
use Rattle.rsml_syntax.specs.limits.Checked.{IsChecked}
use Rattle.rsml_meaning.specs.Cells.{cells}
use Rattle.worlds.specs.Ends.{Ends, ends_of}

-- The specification keeps the rules and limits, and these are the ends and first numbers of its cells.
pub record AreWorlds (s : Spec) (ends : List Ends) : Type 0 where
  pub checked : IsChecked s
  pub cells_are : ends ≡ map ends_of (cells s)
