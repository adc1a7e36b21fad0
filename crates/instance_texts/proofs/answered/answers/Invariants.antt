use Rattle.std.proofs.Common.{◌≡◌, flat_map, take}
use Rattle.instance_texts.specs.SentCases.{cases_in}
use Rattle.instance_texts.proofs.answered.answers.Given as goal

abbrev pub invariant-loop-send : goal.invariant-loop-send
invariant-loop-send l = l.cases.items ≡ flat_map (λ x. cases_in l.globals x.decl) (take l.send-index l.sends)
