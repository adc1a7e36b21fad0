-- Tokens as their layout sees them.
use Rattle.std.specs.Prelude.{ℕ, List, [], Option, Some, None}
use Rattle.rsml_syntax.specs.declared.printing.spacing.Kind.{Kind}
use Rattle.rsml_syntax.specs.declared.printing.spacing.Kind.TheVariants as kinds
use Rattle.rsml_syntax.specs.declared.token.Token.{Token}
use Rattle.rsml_syntax.specs.declared.token.Token.TheVariants as token
use Rattle.rsml_syntax.specs.grammar.Layout.{space_between}

-- the kind of a token
abbrev pub token_kind : Token → Kind
token_kind (token.Word w) = kinds.Word w
token_kind (token.Name _) = kinds.Name
token_kind (token.Number _) = kinds.Number
token_kind (token.Mark m) = kinds.Mark m

-- some token of the kind
abbrev pub token_like : Kind → Token
token_like (kinds.Word w) = token.Word w
token_like kinds.Name = token.Name []
token_like kinds.Number = token.Number 0
token_like (kinds.Mark m) = token.Mark m

-- what stands before a token that follows the last one, if there is one
abbrev pub space_before : ℕ → Option Kind → Token → List ℕ
space_before depth None t = []
space_before depth (Some last) t = space_between depth (token_like last) t
