-- The marks: how they are written, and which one a text begins with. The constant MARKS holds each mark once.
use Rattle.std.specs.Prelude.{ℕ, Bool, List, Option, codes, find, nat_eq}
use Rattle.std.specs.List.{starts_with}
use denote.Enum.Bare.{sameb}
use Rattle.rsml_syntax.specs.contracts.token.Mark as marks
use Rattle.rsml_syntax.specs.declared.token.Mark.{Mark}
use Rattle.rsml_syntax.specs.declared.token.Mark.TheVariants as mark
use Rattle.rsml_syntax.specs.declared.token.TheConstants.{MARKS}

-- how a mark is written
unfoldable pub spelling : Mark → List ℕ
spelling mark.Semicolon = codes ";"
spelling mark.OpenBrace = codes "{"
spelling mark.CloseBrace = codes "}"
spelling mark.Comma = codes ","
spelling mark.DotDot = codes ".."
spelling mark.Dot = codes "."
spelling mark.Equal = codes "="
spelling mark.NotEqual = codes "!="
spelling mark.Less = codes "<"
spelling mark.LessEqual = codes "<="
spelling mark.Greater = codes ">"
spelling mark.GreaterEqual = codes ">="
spelling mark.OpenBracket = codes "["
spelling mark.CloseBracket = codes "]"
spelling mark.OpenParen = codes "("
spelling mark.CloseParen = codes ")"
spelling mark.Colon = codes ":"
spelling mark.Arrow = codes "->"
spelling mark.Minus = codes "-"
spelling mark.Plus = codes "+"
spelling mark.Bar = codes "|"

-- The mark that a text begins with, if any: the first of MARKS, in which a longer one stands before each that begins it.
unfoldable pub mark_at : List ℕ → Option Mark
mark_at bytes = find (λ m. starts_with nat_eq bytes (spelling m)) MARKS

-- whether two marks are one
abbrev pub same_mark : Mark → Mark → Bool
same_mark = sameb marks.the_type
