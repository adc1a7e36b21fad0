use Rattle.claims.proofs.Next.{next_worlds_are_left, breaks_turn_false}
use Rattle.claims.proofs.next_worlds.next_worlds_tell_breaks.Goals as goal

pub returns-clause-left : goal.returns-clause-left
returns-clause-left c = next_worlds_are_left

pub returns-clause-breaks : goal.returns-clause-breaks
returns-clause-breaks c = breaks_turn_false
