use Rattle.std.proofs.Common.{◌+◌, refl, arith}
use Rattle.event_graph.specs.Sets.{has}
use Rattle.micro_step.proofs.PlaceLemmas.{none_left}
use Rattle.reactions.proofs.events.lone.Goals as goal

pub returns-in-None-clause-before : goal.returns-in-None-clause-before
returns-in-None-clause-before c = λ q l. c.in-Some.ensures.some.3 q (omega arith) l

pub returns-in-None-clause-behind : goal.returns-in-None-clause-behind
returns-in-None-clause-behind c =
    none_left (has c.args.present.now) c.args.count (c.in-Some.event + 1) (λ k h. c.requires.present k h) (c.in-None.ensures.none refl)
