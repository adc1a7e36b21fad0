use Rattle.std.proofs.Common.{◌≡◌, drop}
use Rattle.std.specs.Prelude.{flat_map}
use Rattle.rsml_rules.specs.breaches.Noting.{noted}
use Rattle.rsml_syntax.specs.rules.Declarations as declarations
use Rattle.rsml_rules.proofs.breaches.contents.each_case.Given as goal

abbrev pub invariant-loop-case : goal.invariant-loop-case
invariant-loop-case l =
    noted l.worst (flat_map (declarations.case_used l.setting.tables l.scope) (drop l.case-index l.cases))
    ≡ noted l.fn.worst (flat_map (declarations.case_used l.setting.tables l.scope) l.cases)
