-- Worlds, activity and truth, computed.
use Rattle.std.specs.Prelude.{◌≡◌, refl, ℕ, Bool, true, false, List, [], ◌∷◌, map, length, ℤ, pos, codes}
use Prim.Native.String.{String}
use Rattle.rsml_syntax.specs.declared.syntax.Spec.{Spec}
use Rattle.rsml_syntax.specs.declared.world.World.{World}
use Rattle.rsml_meaning.specs.Words.{at, Path}
use Rattle.rsml_meaning.specs.Instances.{states}
use Rattle.rsml_meaning.specs.Cells.{cells}
use Rattle.rsml_meaning.specs.Worlds.{is_world}
use Rattle.rsml_meaning.specs.Active.{active}
use Rattle.rsml_meaning.specs.Truth.{view, within, simple}
use Rattle.rsml_meaning.specs.Runs.{first_world}
use Rattle.rsml_meaning.specs.Texts.{Text, path_text, cell_text}
use Rattle.rsml_meaning.proofs.Written.{plain, in_state}
use Rattle.rsml_meaning.proofs.values.Deep.{deep}
use Rattle.rsml_meaning.proofs.values.Lamp.{lamp}
use Rattle.rsml_meaning.proofs.values.Nest.{nest}
use Rattle.rsml_meaning.proofs.values.Plant.{plant}
use Rattle.rsml_meaning.proofs.values.Rise.{rise}
use Rattle.rsml_meaning.proofs.values.Tcas.{tcas}
use Rattle.rsml_meaning.proofs.values.Top.{top}
use Rattle.rsml_meaning.proofs.values.Tracks.{tracks}

abbrev pub world : List ℕ → List ℤ → World
world choices numbers = record { choices = choices; cells = numbers }

abbrev pub state_at : List String → Path
state_at names = map (λ name. at (codes name) 0) names

abbrev state_texts : Spec → List Text
state_texts s = map (λ x. path_text x.path) (states s)

abbrev cell_texts : Spec → List Text
cell_texts s = map cell_text (cells s)

a_state_stands_before_what_is_inside_it : state_texts top ≡ map codes ("Top" ∷ "Top.A" ∷ "Top.A.B" ∷ "Top.C" ∷ [])
a_state_stands_before_what_is_inside_it = refl

an_array_stands_once_for_each_index : state_texts tracks ≡ map codes ("Sky"
    ∷ "Sky.Other[1]" ∷ "Sky.Other[1].Far" ∷ "Sky.Other[1].Near"
    ∷ "Sky.Other[2]" ∷ "Sky.Other[2].Far" ∷ "Sky.Other[2].Near"
    ∷ "Sky.Other[3]" ∷ "Sky.Other[3].Far" ∷ "Sky.Other[3].Near" ∷ [])
unfolding Rattle.std.specs.Fmt.digits
an_array_stands_once_for_each_index = refl

previous_cells_stand_last : cell_texts rise ≡ map codes ("Alt" ∷ "previous Alt" ∷ [])
previous_cells_stand_last = refl

-- an input that a function names after `previous` has previous cells at all its indices
an_array_of_inputs_has_previous_cells : cell_texts deep ≡ map codes ("X[1]" ∷ "X[2]" ∷ "Col" ∷ "previous X[1]" ∷ "previous X[2]" ∷ [])
unfolding Rattle.std.specs.Fmt.digits
an_array_of_inputs_has_previous_cells = refl

tcas_has_124_states : length (states tcas) ≡ 124
tcas_has_124_states = refl

tcas_has_32_cells : length (cells tcas) ≡ 32
tcas_has_32_cells = refl

-- the lamp is on and the lever is down, from the start or never: the definitions do not ask
a_world_need_not_be_reachable : is_world lamp (world (1 ∷ []) (pos 0 ∷ [])) ≡ true
a_world_need_not_be_reachable = refl

a_world_has_no_third_child : is_world lamp (world (2 ∷ []) (pos 0 ∷ [])) ≡ false
a_world_has_no_third_child = refl

a_world_has_no_number_beyond_the_type : is_world lamp (world (1 ∷ []) (pos 2 ∷ [])) ≡ false
a_world_has_no_number_beyond_the_type = refl

-- B is the chosen child of A, and A is not the chosen child of Top
abbrev in_c : World
in_c = world (1 ∷ 0 ∷ []) (pos 0 ∷ [])

a_state_below_an_inactive_one_is_not_active : active top in_c (state_at ("Top" ∷ "A" ∷ "B" ∷ [])) ≡ false
a_state_below_an_inactive_one_is_not_active = refl

in_a_state_below_an_inactive_one_is_false : simple (view top in_c) (within 0) (in_state (plain "Top" ∷ plain "A" ∷ plain "B" ∷ [])) ≡ false
in_a_state_below_an_inactive_one_is_false = refl

at_first_the_default_children_are_active : map (λ x. active nest (first_world nest) x.path) (states nest) ≡ true ∷ true ∷ true ∷ false ∷ []
at_first_the_default_children_are_active = refl

-- Quantified macros.

abbrev full : World → Bool
full w = (view plant w).holds (at (codes "Full") 0)

abbrev high : World → Bool
high w = (view plant w).holds (at (codes "High") 0)

every_is_true_where_each_is : full (world (1 ∷ 1 ∷ 1 ∷ []) (pos 0 ∷ pos 0 ∷ pos 0 ∷ [])) ≡ true
every_is_true_where_each_is = refl

every_is_false_where_one_is_not : full (world (1 ∷ 0 ∷ 1 ∷ []) (pos 0 ∷ pos 0 ∷ pos 0 ∷ [])) ≡ false
every_is_false_where_one_is_not = refl

some_is_true_where_one_is : high (world (1 ∷ 1 ∷ 1 ∷ []) (pos 0 ∷ pos 0 ∷ pos 500 ∷ [])) ≡ true
some_is_true_where_one_is = refl

some_is_false_where_none_is : high (world (1 ∷ 1 ∷ 1 ∷ []) (pos 0 ∷ pos 0 ∷ pos 499 ∷ [])) ≡ false
some_is_false_where_none_is = refl
