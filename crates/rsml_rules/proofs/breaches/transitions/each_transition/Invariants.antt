use Rattle.std.proofs.Common.{◌≡◌, drop}
use Rattle.std.specs.Prelude.{flat_map}
use Rattle.rsml_rules.specs.breaches.Noting.{noted}
use Rattle.rsml_syntax.specs.rules.States as states
use Rattle.rsml_rules.proofs.breaches.transitions.each_transition.Given as goal

abbrev pub invariant-loop-transition : goal.invariant-loop-transition
invariant-loop-transition l =
    noted l.worst (flat_map (states.transition l.setting.tables l.scope l.around.body.now) (drop l.transition-index l.transitions))
    ≡ noted l.fn.worst (flat_map (states.transition l.setting.tables l.scope l.around.body.now) l.transitions)
