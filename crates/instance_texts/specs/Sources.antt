-- Where a transition starts.
use Rattle.std.specs.Prelude.{◌≡◌}
use Rattle.rsml_meaning.specs.Words.{Instance, child_path}
use Rattle.rsml_meaning.specs.Transitions.{TransitionInstance}

-- the source is a child of the component
abbrev pub StartsBelow : TransitionInstance → Type 0
StartsBelow t = (step : Instance) × (t.source ≡ child_path t.component step)
