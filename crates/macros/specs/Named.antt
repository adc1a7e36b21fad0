-- The phrases that a phrase names, also through its definition.
use Rattle.std.specs.Prelude.{ℕ, List, Option, Some, None, slice_get, ⊤}
use Rattle.rsml_meaning.specs.Words.{Each}
use Rattle.rsml_ground.specs.declared.definitions.Definition.{Definition}
use Rattle.rsml_ground.specs.declared.phrases.GroundPhrase.{GroundPhrase}
use Rattle.rsml_ground.specs.declared.phrases.GroundPhrase.TheVariants as phrases
use Rattle.macros.specs.Guards.{phrases_of, guards_of}

-- the fact holds of each phrase that the definition names, if there is one
abbrev pub NamedBy : (ℕ → Type 0) → Option Definition → Type 0
NamedBy P None = ⊤
NamedBy P (Some d) = Each (λ g. Each P (phrases_of g)) (guards_of d)

-- the fact holds of each phrase that the phrase names
abbrev pub Named : (ℕ → Type 0) → List Definition → GroundPhrase → Type 0
Named P ds (phrases.In node) = ⊤
Named P ds (phrases.Macro number) = NamedBy P (slice_get ds number)
Named P ds (phrases.Any numbers) = Each P numbers
Named P ds (phrases.Every numbers) = Each P numbers
Named P ds (phrases.Compare left relation right) = ⊤
Named P ds (phrases.Function number relation constant) = NamedBy P (slice_get ds number)
