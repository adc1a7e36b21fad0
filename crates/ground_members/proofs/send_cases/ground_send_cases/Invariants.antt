use Rattle.std.proofs.Common.{[], flat_map, take}
use Rattle.rsml_meaning.specs.Instances.{globals_of}
use Rattle.rsml_meaning.specs.Interfaces.{send_cases_of}
use Rattle.ground_members.proofs.Grown.{Grown}
use Rattle.ground_members.proofs.send_cases.ground_send_cases.Given as goal

abbrev pub invariant-loop-decl : goal.invariant-loop-decl
invariant-loop-decl l = Grown l.lookup l.definitions l.initial.phrases l.phrases (flat_map (send_cases_of (globals_of l.lookup)) (take l.decl-index l.decls)) [] l.cases.items
