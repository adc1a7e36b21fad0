-- What is kept of each receive: where the cells of its inputs are, and the event that it raises.
use Rattle.std.specs.Prelude.{◌≡◌, ℕ, ◌+◌, ◌≤◌, List, [], ◌∷◌, map, flat_map, length, take, drop, Option, Some}
use Rattle.rsml_syntax.specs.declared.syntax.Spec.{Spec}
use Rattle.rsml_syntax.specs.declared.syntax.Mention.{Mention}
use Rattle.rsml_syntax.specs.limits.Checked.{IsChecked}
use Rattle.rsml_syntax.specs.rules.Globals.{Globals}
use Rattle.rsml_meaning.specs.Words.{Instance, Each, place_in}
use Rattle.rsml_meaning.specs.Instances.{events}
use Rattle.rsml_meaning.specs.Interfaces.{ReceiveInstance, receives}
use Rattle.rsml_meaning.specs.Truth.{within, instance}
use Rattle.state_arrays.specs.Places.{cell_place, previous_place}
use Rattle.rsml_ground.specs.Grounded.{IsShort}
use Rattle.rsml_ground.specs.Scoped.{InputIsScoped}
use Rattle.interfaces.specs.declared.field.Field.{Field}
use Rattle.interfaces.specs.declared.receive.Receive.{Receive}

-- What is there.

-- an event instance has a place, and an index that an array can have
abbrev pub EventIsThere : Spec → Instance → Type 0
EventIsThere s x = (event : ℕ) × (place_in (events s) x ≡ Some event) × (x.index ≤ 64)

-- The inputs and the event that a receive of this index names are there.
pub record IsThere (s : Spec) (g : Globals) (inputs : List Mention) (raised : Mention) (this : ℕ) : Type 0 where
  pub inputs_are : Each (InputIsScoped s) (map (instance g (within this)) inputs)
  pub event_is : EventIsThere s (instance g (within this) raised)

-- What is kept.

-- the places of the cell and of the previous cell of an input
abbrev pub places : Spec → Instance → Option ℕ × Option ℕ
places s x = (cell_place s x, previous_place s x)

-- those of a field
abbrev pub written : Field → Option ℕ × Option ℕ
written f = (Some f.cell, f.previous)

-- fields are those of inputs
abbrev pub FieldsAre : Spec → List Instance → List Field → Type 0
FieldsAre s inputs fields = map written fields ≡ map (places s) inputs

-- the inputs of receives, one behind another
abbrev pub inputs_of : List ReceiveInstance → List Instance
inputs_of xs = flat_map (λ x. x.inputs) xs

-- where the fields of each receive begin, how many they are, and the place of the event that it raises
abbrev pub entries : Spec → ℕ → List ReceiveInstance → List (ℕ × (ℕ × Option ℕ))
entries s first [] = []
entries s first (x ∷ xs) = (first, (length x.inputs, place_in (events s) x.raised)) ∷ entries s (first + length x.inputs) xs

-- the same of what is kept
abbrev pub entry : Receive → ℕ × (ℕ × Option ℕ)
entry r = (r.first, (r.count, Some r.raised))

-- What is known of a receive and of what is kept of it.
pub record AreFields (s : Spec) (fields : List Field) (r : Receive) (x : ReceiveInstance) : Type 0 where
  pub count : r.count ≡ length x.inputs
  pub raised : place_in (events s) x.raised ≡ Some r.raised
  pub within : r.first + r.count ≤ length fields
  pub are : FieldsAre s x.inputs (take r.count (drop r.first fields))

-- The fields and what is kept are those of these receives.
pub record AreKept (s : Spec) (fields : List Field) (kept : List Receive) (xs : List ReceiveInstance) : Type 0 where
  pub fields_are : map written fields ≡ map (places s) (inputs_of xs)
  pub kept_are : map entry kept ≡ entries s 0 xs

-- What is known of the receives of a checked specification.
pub record AreInterfaces (s : Spec) (names : List Instance) (fields : List Field) (kept : List Receive) : Type 0 where
  pub checked : IsChecked s
  pub short : IsShort s
  pub names_are : names ≡ map (λ x. x.receive) (receives s)
  pub are_kept : AreKept s fields kept (receives s)
