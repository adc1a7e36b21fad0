use Rattle.std.proofs.Common.{sym, ltb-true}
use Rattle.micro_step.proofs.RisingLemmas.{past_last, past_none}
use Rattle.micro_step.proofs.rising.is_above.Goals as goal

pub returns-in-Some : goal.returns-in-Some
returns-in-Some c = λ h. past_last c.args.items.now c.args.number c.in-Some.last.now c.requires (sym c.in-Some.ensures.value) (ltb-true c.in-Some.last.now c.args.number h)

pub returns-in-None : goal.returns-in-None
returns-in-None c = λ h. past_none c.args.items.now c.args.number (sym c.in-None.ensures.value)
