use Rattle.std.proofs.Common.{◌≡◌, map, take}
use Rattle.instance_texts.specs.SentCases.{names_of_value}
use Rattle.instance_texts.proofs.answered.answer_names.Given as goal

abbrev pub invariant-loop-value : goal.invariant-loop-value
invariant-loop-value l = map (λ n. n.now) l.names.items ≡ map (names_of_value l.globals) (take l.value-index l.values)
