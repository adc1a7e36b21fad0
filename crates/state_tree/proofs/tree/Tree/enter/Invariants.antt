use Rattle.rsml_meaning.specs.Active.{enter}
use Rattle.state_tree.specs.Numbers.{path_of, component_path}
use Rattle.state_tree.proofs.Entry.{IsEntered}
use Rattle.state_tree.proofs.tree.Tree.enter.Given as goal

abbrev pub invariant-loop-below : goal.invariant-loop-below
invariant-loop-below l = IsEntered l.fn.choices l.choices (enter l.self (component_path l.self l.component) (path_of l.self l.target) l.fn.choices) l.below
