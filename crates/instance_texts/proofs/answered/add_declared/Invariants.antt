use Rattle.std.proofs.Common.{◌≡◌, ◌++◌, map, take}
use Rattle.instance_texts.specs.SentCases.{answered_by}
use Rattle.instance_texts.proofs.answered.add_declared.Given as goal

abbrev pub invariant-loop-case : goal.invariant-loop-case
invariant-loop-case l = l.cases.items ≡ l.initial.cases.items ++ map (answered_by l.globals l.fields) (take l.case-index l.declared)
