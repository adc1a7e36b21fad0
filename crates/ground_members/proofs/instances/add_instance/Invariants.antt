use Rattle.std.proofs.Common.{take}
use Rattle.rsml_meaning.specs.Instances.{globals_of}
use Rattle.ground_members.specs.CaseLists.{cases_of}
use Rattle.ground_members.proofs.Grown.{Grown}
use Rattle.ground_members.proofs.instances.add_instance.Given as goal

abbrev pub invariant-loop-place : goal.invariant-loop-place
invariant-loop-place l =
    Grown l.lookup l.definitions l.initial.phrases l.phrases (cases_of (globals_of l.lookup) l.send.name.now l.send.fields.now (take l.place l.send.cases.now) l.index) l.initial.cases.items l.cases.items
