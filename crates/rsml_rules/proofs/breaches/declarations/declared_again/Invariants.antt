use Rattle.std.proofs.Common.{◌≡◌, ◌+◌, drop}
use Rattle.rsml_rules.specs.breaches.Noting.{noted}
use Rattle.rsml_syntax.specs.rules.Declarations as declarations
use Rattle.rsml_rules.proofs.breaches.declarations.declared_again.Given as goal

abbrev pub invariant-loop-name : goal.invariant-loop-name
invariant-loop-name l =
    (l.at ≡ l.place + l.name-index)
    × (noted l.worst (declarations.declared_again l.tables l.at (drop l.name-index l.names)) ≡ noted l.fn.worst (declarations.declared_again l.tables l.place l.names))
