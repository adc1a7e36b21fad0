-- How many cells there are.
use Rattle.std.proofs.Common.{◌≡◌, ◌≤◌, Bool, true, false, List, [], ◌∷◌, flat_map, filter, cond, length, refl, arith, length-append}
use Rattle.std.proofs.lemmas.List.{length-map}
use Rattle.rsml_syntax.specs.declared.syntax.Spec.{Spec}
use Rattle.rsml_syntax.specs.declared.syntax.Decl.{Decl}
use Rattle.rsml_syntax.specs.declared.syntax.Decl.TheVariants as decl
use Rattle.rsml_syntax.specs.rules.Globals.{Globals}
use Rattle.rsml_syntax.specs.limits.Checked.{IsChecked}
use Rattle.rsml_syntax.specs.limits.Previous.{names_previous}
use Rattle.rsml_meaning.specs.Instances.{globals_of, instances}
use Rattle.rsml_meaning.specs.Cells.{InputCell, new_cell, type_named, initial_number, cells_of, own_cells, as_previous, previous_cells, cells}
use Rattle.state_arrays.specs.Made.{inputs_of}
use Rattle.state_arrays.proofs.Room.{few, inputs_few}

of_decl : (g : Globals) (d : Decl) → length (cells_of g d) ≡ length (inputs_of g d)
of_decl g (decl.Input name size type_name initial) = length-map (instances g name size) (new_cell (type_named g type_name) (initial_number g initial))
of_decl g _ = refl

of_decls : (g : Globals) (ds : List Decl) → length (flat_map (cells_of g) ds) ≡ length (flat_map (inputs_of g) ds)
of_decls g [] = refl
of_decls g (d ∷ ds) =
    let here = of_decl g d in
    let rest = of_decls g ds in
    let one = length-append (cells_of g d) (flat_map (cells_of g) ds) in
    let other = length-append (inputs_of g d) (flat_map (inputs_of g) ds) in
    omega (arith, here, rest, one, other)

no_more : (t : InputCell → Bool) (cs : List InputCell) → length (filter t cs) ≤ length cs
no_more t [] = omega arith
no_more t (c ∷ cs) = by (t c) (no_more t cs)
  where
    by : (b : Bool) → length (filter t cs) ≤ length cs → length (cond b (c ∷ filter t cs) (filter t cs)) ≤ length (c ∷ cs)
    by true h = omega (arith, h)
    by false h = omega (arith, h)

-- at most 1,024 that hold the numbers of inputs, and at most as many previous cells
pub few_cells : (s : Spec) → IsChecked s → length (cells s) ≤ 2048
few_cells s checked =
    let own = of_decls (globals_of s) s.decls in
    let inputs = inputs_few s (few s checked.keeps.limits) in
    let all = length-append (own_cells s) (previous_cells s) in
    let previous = length-map (filter (λ c. names_previous s c.input.name) (own_cells s)) as_previous in
    let some = no_more (λ c. names_previous s c.input.name) (own_cells s) in
    omega (arith, own, inputs, all, previous, some)
