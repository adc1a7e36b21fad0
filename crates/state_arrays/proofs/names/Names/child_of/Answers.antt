use Rattle.std.proofs.Common.{ap, ◌∙◌}
use Rattle.rsml_meaning.specs.Words.{at}
use Rattle.rsml_meaning.specs.Instances.{states}
use Rattle.state_arrays.proofs.PathLemmas.{child_known}
use Rattle.state_arrays.proofs.names.Names.child_of.Goals as goal

pub returns : goal.returns
returns c =
    child_known c.self.inside.paths (states c.args.self.now) c.args.node (at c.args.name.now c.args.index) c.child.result (c.self.invariant.are_states ∙ ap states c.self.view_is) c.child.ensures.place
