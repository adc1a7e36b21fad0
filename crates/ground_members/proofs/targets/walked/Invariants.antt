use Rattle.std.proofs.Common.{◌≡◌, Some, take}
use Rattle.rsml_meaning.specs.Words.{Path}
use Rattle.rsml_meaning.specs.Instances.{states}
use Rattle.rsml_meaning.specs.Transitions.{target_path}
use Rattle.state_arrays.specs.Places.{path_at}
use Rattle.ground_members.proofs.targets.walked.Given as goal

abbrev pub invariant-loop-name : goal.invariant-loop-name
invariant-loop-name l = (path : Path) → path_at (states l.lookup) l.from ≡ Some path → path_at (states l.lookup) l.node ≡ Some (target_path path (take l.name-index l.names))
