-- What is stored of the phrases and definitions of a specification.
use Rattle.std.specs.Prelude.{◌≡◌, List, map, Option}
use Rattle.rsml_syntax.specs.declared.syntax.Spec.{Spec}
use Rattle.rsml_ground.specs.declared.definitions.GroundGuard.{GroundGuard}
use Rattle.rsml_ground.specs.declared.definitions.Definition.{Definition}
use Rattle.rsml_ground.specs.declared.phrases.GroundPhrase.{GroundPhrase}
use Rattle.rsml_ground.specs.Truths.{Grounded}
use Rattle.rsml_ground.specs.Grounded.{IsGrounded}
use Rattle.macros.specs.Guards.{guards_of}
use Rattle.macros.specs.declared.pairs.Pair.{Pair}
use Rattle.macros.specs.Pairs.{pair_of}

-- a specification with its phrases and definitions
abbrev pub with_parts : Spec → List GroundPhrase → List Definition → Grounded
with_parts spec phrases definitions = record { spec = spec; phrases = phrases; definitions = definitions }

-- The phrases and definitions are those of a checked specification, the tables are the guards of the definitions, and the pairs
-- are the comparisons of one term with one term among the phrases.
pub record AreMacros (g : Grounded) (tables : List (List GroundGuard)) (pairs : List (Option Pair)) : Type 0 where
  pub grounded : IsGrounded g
  pub guards : tables ≡ map guards_of g.definitions
  pub comparisons : pairs ≡ map pair_of g.phrases
