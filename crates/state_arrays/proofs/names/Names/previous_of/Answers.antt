use Rattle.std.proofs.Common.{refl, sym, ◌∙◌, arith}
use Rattle.state_arrays.proofs.CellLemmas.{previous_found}
use Rattle.state_arrays.proofs.names.Names.previous_of.Goals as goal

pub returns-in_err-place : goal.returns-in_err-place
returns-in_err-place c =
    c.from_residual.ensures
    ∙ previous_found c.self.inside.spec.now _ c.self.inside.cells.inputs _ _ _ _ c.self.view_is c.self.invariant.are_inputs c.self.invariant.are_previous refl (sym c.in_err-place.was ∙ c.place.ensures.at)

pub overflow_add-result : goal.overflow_add-result
overflow_add-result c =
    let l = c.in_ok-place.ensures.within in
    let k = c.count.ensures in
    let inputs = c.self.invariant.few_inputs in
    let previous = c.self.invariant.few_previous in
    omega (arith, l, k, inputs, previous)

pub returns : goal.returns
returns c = previous_found c.self.inside.spec.now _ c.self.inside.cells.inputs _ _ c.count.result _ c.self.view_is c.self.invariant.are_inputs c.self.invariant.are_previous c.count.ensures (sym c.in_ok-place.was ∙ c.place.ensures.at)
