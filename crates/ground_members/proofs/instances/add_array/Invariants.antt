use Rattle.std.proofs.Common.{flat_map}
use Rattle.std.specs.List.{AllZip}
use Rattle.rsml_syntax.specs.rules.Globals.{up_to}
use Rattle.rsml_meaning.specs.Instances.{globals_of}
use Rattle.ground_members.specs.CaseLists.{cases_at}
use Rattle.ground_members.specs.Members.{SendCaseIs}
use Rattle.ground_members.proofs.Grown.{Grown}
use Rattle.ground_members.proofs.instances.add_array.Given as goal

abbrev pub invariant-loop-before : goal.invariant-loop-before
invariant-loop-before l =
    Grown l.lookup l.definitions l.fn.phrases l.phrases (flat_map (cases_at (globals_of l.lookup) l.send) (up_to l.before)) l.fn.cases.items l.cases.items
    × AllZip (SendCaseIs l.phrases l.lookup) (cases_at (globals_of l.lookup) l.send 1) l.first.items
