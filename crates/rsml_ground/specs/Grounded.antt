-- The phrases and definitions of a checked specification.
use Rattle.std.specs.Prelude.{◌<◌, ◌≤◌, ◌^◌, length}
use Rattle.std.specs.List.{AllZip}
use Rattle.rsml_syntax.specs.declared.syntax.Spec.{Spec}
use Rattle.rsml_syntax.specs.grammar.Grammar.{tokens_of}
use Rattle.rsml_syntax.specs.limits.Checked.{IsChecked}
use Rattle.rsml_meaning.specs.Cells.{cells}
use Rattle.rsml_meaning.specs.Interfaces.{definitions}
use Rattle.rsml_ground.specs.Numbers.{HaveOneNumber}
use Rattle.rsml_ground.specs.Truths.{Grounded}
use Rattle.rsml_ground.specs.Rests.{Rest}
use Rattle.rsml_ground.specs.StandsFor.{DefinitionIs}

-- the specification is written with at most so many tokens as two texts of the greatest size can have
abbrev pub IsShort : Spec → Type 0
IsShort s = length (tokens_of s) ≤ 2097152

-- The specification keeps the rules and limits. Each phrase rests on those before it, no phrase has two numbers, and the
-- definitions stand for the macro and function instances of the specification, one for each, in order.
pub record IsGrounded (g : Grounded) : Type 0 where
  pub checked : IsChecked g.spec
  pub short : IsShort g.spec
  pub rest : Rest (length (cells g.spec)) g.definitions g.phrases
  pub one_number : HaveOneNumber g.phrases
  pub stand : AllZip (DefinitionIs g.phrases g.spec) (definitions g.spec) g.definitions
  pub few : length g.phrases < 2 ^ 32
