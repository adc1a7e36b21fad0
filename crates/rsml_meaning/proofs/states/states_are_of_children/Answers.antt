use Rattle.rsml_meaning.proofs.Children.{states_are_of_children}
use Rattle.rsml_meaning.proofs.states.states_are_of_children.Goals as goal

pub returns : goal.returns
returns c = states_are_of_children
