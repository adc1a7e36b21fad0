-- Which inputs have a cell for their previous number, and how two specifications are compared by these cells.
use Rattle.std.specs.Prelude.{ℕ, Bool, false, not, ◌&&◌, List, Option, is_some, if◌then◌else◌}
use Rattle.std.specs.List.{list_all}
use Rattle.rsml_syntax.specs.declared.syntax.Spec.{Spec}
use Rattle.rsml_syntax.specs.declared.syntax.Amount.{Amount}
use Rattle.rsml_syntax.specs.declared.syntax.Decl.{Decl}
use Rattle.rsml_syntax.specs.declared.syntax.Decl.TheVariants as decl
use Rattle.rsml_meaning.specs.Words.{at}
use Rattle.state_arrays.specs.Places.{previous_place}
use Rattle.spec_frames.specs.helpers.Sameness.{same_spec}

-- the index of the first instance of a name with this size
abbrev pub first_index : Option Amount → ℕ
first_index size = if is_some size then 1 else 0

-- the input that a declaration declares, if any, has a cell for its previous number
abbrev pub has_previous : Spec → Decl → Bool
has_previous s (decl.Input name size _ _) = is_some (previous_place s (at name (first_index size)))
has_previous s _ = false

-- the input of each declaration has such a cell in both or in neither
abbrev pub previous_alike : Spec → Spec → List Decl → Bool
previous_alike s t ds = list_all (λ d. if has_previous s d then has_previous t d else not (has_previous t d)) ds

-- specifications are the same but for names, macros and guards, and so is which inputs have such cells
abbrev pub alike : Spec → Spec → Bool
alike s t = same_spec s t && previous_alike s t s.decls
