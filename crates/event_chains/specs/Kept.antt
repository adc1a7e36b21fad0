-- What is kept of chains and of rounds.
use Rattle.std.specs.Prelude.{List}
use Rattle.rsml_syntax.specs.declared.syntax.Spec.{Spec}
use Rattle.rsml_syntax.specs.limits.Checked.{IsChecked}
use Rattle.event_graph.specs.Graphs.{Graph}
use Rattle.event_graph.specs.Rounds.{Round}
use Rattle.event_chains.specs.declared.external.External.{External}
use Rattle.event_chains.specs.Draws.{Draws}
use Rattle.event_chains.specs.Found.{AreExternals}

-- the graph stands for the specification, and the external events are there in order
pub record AreKept (s : Spec) (g : Graph) (rs : List External) : Type 0 where
  pub checked : IsChecked s
  pub draws : Draws s g
  pub externals : AreExternals s rs

-- the graph of the rounds stands for the specification
pub record AreRounds (s : Spec) (r : Round) : Type 0 where
  pub checked : IsChecked s
  pub draws : Draws s r.graph
