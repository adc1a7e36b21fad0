use Rattle.comparing.proofs.CompareLemmas.{pair_told}
use Rattle.comparing.proofs.comparing.compare_checked.Goals as goal

pub returns : goal.returns
returns c = pair_told c.args.one.now c.args.two.now c.in_ok-comparison.comparison _ _ c.in_ok-comparison.ensures c.status_of-status.ensures c.in_ok-text.ensures
