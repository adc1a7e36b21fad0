use Rattle.std.proofs.Common.{◌≡◌, [], drop, take}
use Rattle.std.specs.Prelude.{flat_map}
use Rattle.std.specs.Option.{option_copied}
use Rattle.rsml_rules.specs.breaches.Noting.{noted}
use Rattle.rsml_syntax.specs.grammar.Parts as parts
use Rattle.rsml_syntax.specs.rules.Rules as rules
use Rattle.rsml_rules.proofs.breaches.states.+walk.Given as goal

abbrev pub invariant-each_child-loop-place : goal.invariant-each_child-loop-place
invariant-each_child-loop-place l =
    noted l.worst (flat_map (rules.judged l.setting.tables) (parts.child_parts l.in_one (option_copied l.array) (take l.place l.names) (drop l.place l.children)))
    ≡ noted l.fn.worst (flat_map (rules.judged l.setting.tables) (parts.child_parts l.in_one (option_copied l.array) [] l.children))
