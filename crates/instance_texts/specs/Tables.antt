-- What is listed of a specification.
use Rattle.std.specs.Prelude.{◌≡◌, List, map}
use Rattle.rsml_syntax.specs.declared.syntax.Spec.{Spec}
use Rattle.rsml_meaning.specs.Cells.{InputCell, cells}
use Rattle.instance_texts.specs.declared.sorts.Sort.TheVariants as sorts
use Rattle.instance_texts.specs.Listing.{Listed, all_listed}
use Rattle.instance_texts.specs.InputCells.{without_first}

-- the events, the cells, the macros and functions, the receives and the sends, in order
pub record AreTables (s : Spec) (event_list : List Listed) (cell_list : List InputCell) (definition_list receive_list send_list : List Listed) : Type 0 where
  pub are_events : event_list ≡ all_listed sorts.Event s
  pub are_cells : cell_list ≡ map without_first (cells s)
  pub are_definitions : definition_list ≡ all_listed sorts.Definition s
  pub are_receives : receive_list ≡ all_listed sorts.Receive s
  pub are_sends : send_list ≡ all_listed sorts.Send s
