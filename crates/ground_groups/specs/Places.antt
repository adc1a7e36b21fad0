-- Where groups are stored.
use Rattle.std.specs.Prelude.{◌≡◌, ℕ, ◌+◌, ◌<◌, List, map, Some, slice_get}
use Rattle.rsml_syntax.specs.declared.syntax.Spec.{Spec}
use Rattle.rsml_meaning.specs.Transitions.{TransitionInstance, transitions}
use Rattle.ground_groups.specs.declared.place.Place.{Place}
use Rattle.ground_groups.specs.declared.place.Place.TheVariants as places
use Rattle.ground_groups.specs.declared.stored.Stored.{Stored}
use Rattle.ground_groups.specs.Stored.{AreStored}

-- what is stored is right for the specification
abbrev pub IsStored : Spec → Stored → Type 0
IsStored s x = AreStored s x.states.heads.keys (map (λ l. l.items) x.states.places.items) x.lines.items
    (map (λ l. l.items) x.below.items) x.sends.heads.keys (map (λ l. l.items) x.sends.places.items) x.functions.items x.count

-- the place of a group of these many of states, sends and functions
abbrev pub IsPlaceOf : ℕ → ℕ → ℕ → ℕ → Place → Type 0
IsPlaceOf states sends functions group (places.State place) = (group ≡ place) × (place < states)
IsPlaceOf states sends functions group (places.Send place) = (group ≡ states + place) × (place < sends)
IsPlaceOf states sends functions group (places.Function place) = (group ≡ states + (sends + place)) × (place < functions)

-- the number is that of the transition at a place of these
abbrev pub IsTransitionAt : Spec → List TransitionInstance → ℕ → ℕ → Type 0
IsTransitionAt s ts place number = (t : TransitionInstance) × (slice_get ts place ≡ Some t) × (slice_get (transitions s) number ≡ Some t)
