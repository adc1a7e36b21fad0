use Rattle.comparing.proofs.OneSame.{same_alike}
use Rattle.comparing.proofs.laws.same_texts_behave_alike.Goals as goal

pub returns : goal.returns
returns c = same_alike c.equal_guards_trace_alike.ensures
