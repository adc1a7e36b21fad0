-- The instances of names, each name with the place of its first instance and its indices.
use Rattle.std.specs.Prelude.{◌≡◌, ℕ, Bool, List, map, flat_map, length, Option}
use Rattle.std.specs.Option.{option_and_then}
use Rattle.std.specs.List.{list_any}
use Rattle.std.specs.Borrow.{Bor}
use Rattle.indexmap.specs.IndexMap.{IndexMap, get_by}
use Rattle.rsml_syntax.specs.text.Names.{Name, same}
use Rattle.rsml_meaning.specs.Words.{Instance, at, place_in}
use Rattle.state_arrays.specs.Ranges.{range, place_from}
use Rattle.state_arrays.specs.declared.array.Array.{Array}

-- the instances of a name and its array
abbrev pub array_instances : Bor Name × Array → List Instance
array_instances e = map (at e.0.now) (range e.1.indices.low e.1.indices.high)

-- the instances of all names, in order
abbrev pub instances_of : List (Bor Name × Array) → List Instance
instances_of es = flat_map array_instances es

-- an instance has this name
abbrev pub has_name : List Instance → Name → Bool
has_name xs name = list_any (λ x. same name x.name) xs

-- the place of an instance by the array of its name
abbrev pub found : {S : Type 0} → IndexMap (Bor Name) Array S → Name → ℕ → Option ℕ
found m name index =
    option_and_then (λ a. place_from a.first (range a.indices.low a.indices.high) index) (get_by (λ x. same name x.now) m)

-- Each instance is found at its place, and there are so many.
pub record AreFound {S : Type 0} (m : IndexMap (Bor Name) Array S) (count : ℕ) : Type 0 where
  pub places : (name : Name) (index : ℕ) → found m name index ≡ place_in (instances_of m.entries) (at name index)
  pub is_count : count ≡ length (instances_of m.entries)
