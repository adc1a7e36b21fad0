-- Phrases that grow.
use Rattle.std.specs.Prelude.{ℕ, ◌<◌, ◌≤◌, List, length, ⊤}
use Rattle.rsml_ground.specs.declared.definitions.Definition.{Definition}
use Rattle.rsml_ground.specs.declared.phrases.GroundPhrase.{GroundPhrase}
use Rattle.rsml_ground.specs.declared.phrases.GroundPhrase.TheVariants as phrases
use Rattle.rsml_ground.specs.Numbers.{Keeps}
use Rattle.rsml_ground.specs.Rests.{Rest, SumFits}

-- Each phrase keeps its number, and still rests on those before it.
pub record Grew (cells : ℕ) (definitions : List Definition) (old new : List GroundPhrase) : Type 0 where
  pub keeps : Keeps old new
  pub longer : length old ≤ length new
  pub rest : Rest cells definitions new

-- a phrase with no other phrases in it names one of these cells, or one of the first n definitions
abbrev pub SimpleFits : ℕ → ℕ → GroundPhrase → Type 0
SimpleFits cells n (phrases.In node) = ⊤
SimpleFits cells n (phrases.Macro number) = number < n
SimpleFits cells n (phrases.Any numbers) = ⊥
SimpleFits cells n (phrases.Every numbers) = ⊥
SimpleFits cells n (phrases.Compare left relation right) = SumFits cells left × SumFits cells right
SimpleFits cells n (phrases.Function number relation constant) = number < n
