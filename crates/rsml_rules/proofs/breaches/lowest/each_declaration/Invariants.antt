use Rattle.std.proofs.Common.{◌≡◌, ◌+◌, drop, length}
use Rattle.std.specs.Prelude.{flat_map}
use Rattle.rsml_rules.specs.breaches.Noting.{noted}
use Rattle.rsml_syntax.specs.rules.Globals.{names_of}
use Rattle.rsml_syntax.specs.grammar.Parts as parts
use Rattle.rsml_syntax.specs.rules.Rules as rules
use Rattle.rsml_rules.proofs.breaches.lowest.each_declaration.Given as goal

abbrev pub invariant-loop-decl : goal.invariant-loop-decl
invariant-loop-decl l =
    (l.place + length (flat_map names_of (drop l.decl-index l.decls)) ≡ length (flat_map names_of l.decls))
    × (noted l.worst (flat_map (rules.judged l.setting.tables) (parts.declared l.place (drop l.decl-index l.decls))) ≡ noted l.fn.worst (flat_map (rules.judged l.setting.tables) (parts.declared 0 l.decls)))
