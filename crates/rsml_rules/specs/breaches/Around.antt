-- The state that transitions stand in.
use Rattle.std.specs.Prelude.{◌≡◌, List}
use Rattle.rsml_syntax.specs.grammar.Parts.{children_of}
use Rattle.rsml_syntax.specs.rules.States.{child_names, bus_names}
use Rattle.rsml_names.specs.Kin.{Family, Holds}
use Rattle.rsml_rules.specs.declared.breaches.transitions.Around.{Around}

-- its children are that family, and the names are those of its children and buses
pub record IsAround (fs : List Family) (x : Around) : Type 0 where
  pub family_holds : Holds fs x.family (children_of x.body.now)
  pub children_named : x.children.now ≡ child_names x.body.now
  pub buses_named : x.buses.now ≡ bus_names x.body.now
