use Rattle.std.proofs.Common.{◌≡◌}
use Rattle.rsml_syntax.specs.rules.Globals.{Globals}
use Rattle.rsml_meaning.specs.Instances.{states}
use Rattle.ground_members.specs.Written.{all_made_by, ArePlaced}
use Rattle.ground_members.proofs.Adding.{made_before}
use Rattle.ground_members.proofs.written.written_transitions.Given as goal

abbrev pub invariant-loop-node : goal.invariant-loop-node
invariant-loop-node l = ((g : Globals) → all_made_by g l.written.items ≡ made_before g l.tree l.node) × ArePlaced (states l.tree) l.written.items
