-- The rules S1 to S16: all breaches of a specification in the order of its tokens, and the lowest broken rule. The words on
-- what a specification means and counts give some answer for any specification; where a rule is broken it is of no use.
use Rattle.std.specs.Prelude.{List, flat_map, Option}
use Rattle.rsml_syntax.specs.declared.syntax.Spec.{Spec}
use Rattle.rsml_syntax.specs.rules.Globals.{globals}
use Rattle.rsml_syntax.specs.rules.Breaches.{Breach, lowest}
use Rattle.rsml_syntax.specs.grammar.Parts.{Part, Declared, Opens, Closes, parts, children_of}
use Rattle.rsml_syntax.specs.rules.Scopes.{NameTables, variables}
use Rattle.rsml_syntax.specs.rules.Declarations.{declaration}
use Rattle.rsml_syntax.specs.rules.States.{opening, closing}

-- what all judging looks at
abbrev pub name_tables : Spec → NameTables
name_tables s = record { globals = globals s.decls; variables = variables s.decls; top = s.top; children = children_of s.body }

-- the breaches of a part
abbrev pub judged : NameTables → Part → List Breach
judged w (Declared place d) = declaration w place d
judged w (Opens s) = opening w s
judged w (Closes s) = closing w s

-- All breaches. Those of one rule stand in the order of the tokens at which they are shown.
abbrev pub breaches : Spec → List Breach
breaches s = flat_map (judged (name_tables s)) (parts s)

-- the first breach of the lowest rule that has one
abbrev pub broken_rule : Spec → Option Breach
broken_rule s = lowest (breaches s)
