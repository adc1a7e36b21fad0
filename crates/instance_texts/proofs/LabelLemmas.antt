-- The text of a label, part by part.
use Rattle.std.proofs.Common.{◌≡◌, ℕ, [], ◌∷◌, ◌++◌, refl, sym, ap, ◌∙◌, append_assoc, decimal}
use Rattle.rsml_meaning.specs.Words.{Instance, Path}
use Rattle.rsml_meaning.specs.Transitions.{TransitionInstance}
use Rattle.rsml_meaning.specs.Texts.{last_name, path_text, action_text, label}
use Rattle.state_arrays.proofs.PathLemmas.{same_last}
use Rattle.instance_texts.specs.Sources.{StartsBelow}

-- the component is the source without its last step
pub component_is : (t : TransitionInstance) (component : Path) (step : Instance) → StartsBelow t → t.source ≡ component ++ (step ∷ []) → component ≡ t.component
component_is t component step below e = (same_last component t.component step below.0 (sym e ∙ below.1)).0

last_step : (p : Path) (x : Instance) → last_name (p ++ (x ∷ [])) ≡ x.name
last_step [] x = refl
last_step (y ∷ []) x = refl
last_step (y ∷ z ∷ p) x = last_step (z ∷ p) x

-- the name of the last step
pub last_is : (t : TransitionInstance) (component : Path) (step : Instance) → t.source ≡ component ++ (step ∷ []) → last_name t.source ≡ step.name
last_is t component step e = ap (λ (p : Path). last_name p) e ∙ last_step component step

-- the component with the ordinal, and what the transition does, are its label
pub label_joined : (t : TransitionInstance) (component : Path) (ordinal : ℕ) → component ≡ t.component → ordinal ≡ t.ordinal
    → (path_text component ++ (32 ∷ decimal ordinal)) ++ action_text t ≡ label t
label_joined t component ordinal e f =
    append_assoc (path_text component) (32 ∷ decimal ordinal) (action_text t)
    ∙ ap (λ (p : Path). path_text p ++ (32 ∷ (decimal ordinal ++ action_text t))) e
    ∙ ap (λ (n : ℕ). path_text t.component ++ (32 ∷ (decimal n ++ action_text t))) f
