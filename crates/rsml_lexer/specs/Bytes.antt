-- Bytes of ASCII, and words by their first byte.
use Rattle.std.specs.Prelude.{ℕ, Bool, ◌||◌, ◌==◌, List, filter}
use Rattle.std.specs.Char.{is_ascii_alphanumeric}
use Rattle.rsml_syntax.specs.declared.token.Word.{Word}
use Rattle.rsml_syntax.specs.declared.token.TheConstants.{WORDS}
use Rattle.rsml_syntax.specs.text.Tokens.{first_is}
use Rattle.rsml_syntax.specs.text.Words.{spelling}

-- a byte of ASCII that may follow in a name
abbrev pub is_ascii_continuing : ℕ → Bool
is_ascii_continuing b = is_ascii_alphanumeric b || b == 95

-- the reserved words that begin with a byte
unfoldable pub words_from : ℕ → List Word
words_from b = filter (λ w. first_is (λ c. b == c) (spelling w)) WORDS
