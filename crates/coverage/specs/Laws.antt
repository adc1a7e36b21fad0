-- What reacts in a round is what the round takes and asks for.
use Rattle.std.specs.Prelude.{◌↔◌, IsTrue, List, map}
use Rattle.rsml_syntax.specs.declared.syntax.Spec.{Spec}
use Rattle.rsml_syntax.specs.declared.world.World.{World}
use Rattle.rsml_meaning.specs.Words.{Instance, IsOne}
use Rattle.rsml_meaning.specs.Transitions.{TransitionInstance, transitions}
use Rattle.rsml_meaning.specs.Interfaces.{SendCaseInstance, send_cases}
use Rattle.rsml_meaning.specs.Steps.{Round, IsRound}
use Rattle.coverage.specs.Coverage.{of_transition, of_case, reacts}

-- a round takes a transition exactly where that reacts, and the cases of sends likewise
abbrev pub WhatReactsIsTaken : Type 0
WhatReactsIsTaken = (s : Spec) (w w' : World) (es raised : List Instance) (r : Round) → IsRound s w es r w' raised
    → ((t : TransitionInstance) → IsOne t (transitions s) → IsTrue (reacts s (of_transition t) r) ↔ IsOne t r.taken)
    × ((c : SendCaseInstance) → IsOne c (send_cases s) → IsTrue (reacts s (of_case c) r) ↔ IsOne c (map (λ x. x.send_case) r.sent))
