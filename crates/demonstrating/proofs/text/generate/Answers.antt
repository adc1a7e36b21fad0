use Rattle.demonstrating.proofs.Joined.{two_put}
use Rattle.demonstrating.proofs.text.generate.Goals as goal

pub returns : goal.returns
returns c = two_put _ _ _ _ _ c.new-text.ensures.bytes c.in_ok-put_declarations.ensures c.in_ok-put_states.ensures
