-- Diagrams that tell where states are active. The public clauses cite none of these.
use Rattle.std.specs.Prelude.{◌≡◌, ℕ, Bool, List, Some, slice_get}
use Rattle.rsml_syntax.specs.declared.syntax.Spec.{Spec}
use Rattle.state_tree.specs.Numbers.{AreChoices}
use Rattle.rsml_ground.specs.Truths.{is_active}
use Rattle.bdd_core.specs.Diagram.{Diagram}
use Rattle.world_levels.specs.Spelling.{WorldLevels, world_of}
use Rattle.phrase_diagrams.specs.Tells.{Tells}

-- each diagram tells where the state at its place is active
abbrev pub AreActive : Diagram → WorldLevels → Spec → List ℕ → Type 0
AreActive d levels s fs = (node f : ℕ) → slice_get fs node ≡ Some f → Tells d levels (λ w. is_active s w node) f

-- all values of the levels spell one child for each component
abbrev pub SpellChoices : Spec → WorldLevels → Type 0
SpellChoices s levels = (values : ℕ → Bool) → AreChoices s (world_of levels.spec levels.slots values).choices
