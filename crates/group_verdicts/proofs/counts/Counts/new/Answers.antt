use Rattle.group_verdicts.specs.Counts.{TellsMember, TellsUpTo}
use Rattle.group_verdicts.proofs.KeptLemmas.{nothing_kept}
use Rattle.group_verdicts.proofs.counts.Counts.new.Goals as goal

pub returns : goal.returns
returns c = λ e same. record {
  enabled_is = nothing_kept TellsMember c.args.machine.now c.transitions-transitions.result _ c.law.ensures c.transitions-transitions.ensures c.in_ok-enabled.ensures e same;
  some_is = nothing_kept (TellsUpTo 0) c.args.machine.now c.transitions-transitions.result _ c.law.ensures c.transitions-transitions.ensures c.in_ok-some.ensures e same;
  two_is = nothing_kept (TellsUpTo 1) c.args.machine.now c.transitions-transitions.result _ c.law.ensures c.transitions-transitions.ensures c.in_ok-two.ensures e same;
}
