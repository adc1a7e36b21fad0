-- Which children the components around a state must have for it to be active.
use Rattle.std.specs.Prelude.{◌≡◌, ℕ, ◌<◌, Bool, true, ◌==◌, List, [], ◌∷◌, length, Option, Some, None, All, slice_index_or}
use Rattle.std.specs.List.{list_all}
use Rattle.rsml_syntax.specs.declared.syntax.Spec.{Spec}
use Rattle.rsml_syntax.specs.declared.world.World.{World}
use Rattle.rsml_meaning.specs.Instances.{components}
use Rattle.state_tree.specs.Numbers.{AreChoices}
use Rattle.rsml_ground.specs.Truths.{is_active}
use Rattle.rsml_ground.specs.declared.choices.Choice.{Choice}

-- the component of a choice has its child, where these children are chosen
abbrev pub is_chosen : List ℕ → Choice → Bool
is_chosen chosen c = slice_index_or chosen c.component 0 == c.child

-- the component of each choice has its child
abbrev pub are_chosen : List ℕ → List Choice → Bool
are_chosen chosen choices = list_all (is_chosen chosen) choices

-- a choice, where there is one
abbrev pub some_choice : Option Choice → List Choice
some_choice None = []
some_choice (Some c) = c ∷ []

-- each choice is of a component that there is
abbrev pub AreOfComponents : Spec → List Choice → Type 0
AreOfComponents s choices = All (λ c. c.component < length (components s)) choices

-- the state of a number is active exactly where the component of each choice has its child
abbrev pub TellActivity : Spec → ℕ → List Choice → Type 0
TellActivity s node choices = (w : World) → AreChoices s w.choices → are_chosen w.choices choices ≡ is_active s w node
