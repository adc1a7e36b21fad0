use Rattle.checking.proofs.CheckLemmas.{check_output}
use Rattle.checking.proofs.checking.check.Goals as goal

pub returns : goal.returns
returns c = check_output c.args.text.now c.in_ok-judgement.judgement _ c.judged.ensures c.in_ok-judgement.ensures
