use Rattle.std.proofs.Common.{◌≡◌, drop, []}
use Rattle.rsml_rules.specs.breaches.Noting.{noted}
use Rattle.rsml_syntax.specs.rules.Declarations as declarations
use Rattle.rsml_rules.proofs.breaches.contents.repeats.Given as goal

abbrev pub invariant-loop-name : goal.invariant-loop-name
invariant-loop-name l = noted l.worst (declarations.repeats l.rule l.earlier (drop l.name-index l.names)) ≡ noted l.fn.worst (declarations.repeats l.rule [] l.names)
