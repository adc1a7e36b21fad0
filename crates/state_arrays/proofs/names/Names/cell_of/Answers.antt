use Rattle.state_arrays.proofs.CellLemmas.{cell_found}
use Rattle.state_arrays.proofs.names.Names.cell_of.Goals as goal

pub returns : goal.returns
returns c = cell_found c.self.inside.spec.now _ _ _ _ c.self.view_is c.self.invariant.are_inputs c.place.ensures.at
