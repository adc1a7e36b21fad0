-- What a printer has written, and what tokens add to it.
use Rattle.std.specs.Prelude.{◌≡◌, ℕ, List, [], ◌∷◌, ◌++◌, Option, Some}
use Rattle.rsml_syntax.specs.declared.printing.printer.Printer.{Printer}
use Rattle.rsml_syntax.specs.declared.printing.spacing.Kind.{Kind}
use Rattle.rsml_syntax.specs.helpers.TokenKinds.{token_kind, space_before}
use Rattle.rsml_syntax.specs.grammar.Layout.{text_of, open_after}
use Rattle.rsml_syntax.specs.text.Tokens.{Tokens}

-- what tokens add after the last one, where so many braces are open
abbrev pub added : ℕ → Option Kind → Tokens → List ℕ
added depth last [] = []
added depth last (t ∷ ts) = space_before depth last t ++ (text_of t ++ added (open_after depth t) (Some (token_kind t)) ts)

-- the text of a printer once these tokens are written too
unfoldable pub with_tokens : Printer → Tokens → List ℕ
with_tokens p ts = p.text.items ++ added p.depth p.last ts

-- the printer wrote the tokens that f puts before others
abbrev pub Writes : Printer → Printer → (Tokens → Tokens) → Type 0
Writes old new f = (rest : Tokens) → with_tokens old (f rest) ≡ with_tokens new rest
