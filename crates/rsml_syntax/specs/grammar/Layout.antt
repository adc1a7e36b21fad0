-- How a specification is laid out: the text of its tokens, with white space between each two.
use Rattle.std.specs.Prelude.{ℕ, ◌+◌, ◌-◌, ◌*◌, Bool, true, false, not, ◌&&◌, ◌||◌, List, [], ◌∷◌, ◌++◌, if◌then◌else◌, replicate}
use Rattle.std.specs.Fmt.{decimal}
use Rattle.std.specs.List.{fold}
use Rattle.rsml_syntax.specs.declared.token.Token.{Token}
use Rattle.rsml_syntax.specs.declared.token.Token.TheVariants as token
use Rattle.rsml_syntax.specs.declared.token.Word.{Word}
use Rattle.rsml_syntax.specs.declared.token.Word.TheVariants as words
use Rattle.rsml_syntax.specs.declared.token.Mark.{Mark}
use Rattle.rsml_syntax.specs.declared.token.Mark.TheVariants as marks
use Rattle.rsml_syntax.specs.text.Marks as mark
use Rattle.rsml_syntax.specs.text.Marks.{same_mark}
use Rattle.rsml_syntax.specs.text.Tokens.{Tokens}
use Rattle.rsml_syntax.specs.text.Words as word
use Rattle.rsml_syntax.specs.text.Words.{same_word}

-- how a token is written: a number without leading zeros
abbrev pub text_of : Token → List ℕ
text_of (token.Word w) = word.spelling w
text_of (token.Name n) = n
text_of (token.Number n) = decimal n
text_of (token.Mark m) = mark.spelling m

-- the token is this mark
abbrev pub is_mark : Mark → Token → Bool
is_mark m (token.Mark x) = same_mark m x
is_mark m _ = false

-- the token is this word
abbrev pub is_the_word : Word → Token → Bool
is_the_word w (token.Word x) = same_word w x
is_the_word w _ = false

-- the token is a name
abbrev pub is_a_name : Token → Bool
is_a_name (token.Name _) = true
is_a_name _ = false

-- how many braces are open after the token, of those that are open before it
abbrev pub open_after : ℕ → Token → ℕ
open_after depth t = if is_mark marks.OpenBrace t then depth + 1 else if is_mark marks.CloseBrace t then depth - 1 else depth

-- how many braces are open after some tokens
abbrev pub open_braces : Tokens → ℕ
open_braces ts = fold open_after 0 ts

-- what goes on in the line in which a brace closes
abbrev pub follows_brace : Token → Bool
follows_brace t = is_mark marks.Semicolon t || is_the_word words.Raise t || is_the_word words.Quiet t || is_mark marks.OpenParen t

-- a new line begins between the two tokens
abbrev pub breaks_line : Token → Token → Bool
breaks_line a b = is_mark marks.OpenBrace a || is_mark marks.CloseBrace b || is_mark marks.Semicolon a || (is_mark marks.CloseBrace a && not (follows_brace b))

-- nothing stands between the two tokens
abbrev pub joins : Token → Token → Bool
joins a b = is_mark marks.Semicolon b || is_mark marks.Comma b || is_mark marks.OpenBracket b || is_mark marks.CloseBracket b || is_mark marks.CloseParen b
    || is_mark marks.OpenBracket a || is_mark marks.OpenParen a
    || (is_mark marks.Dot b && (is_a_name a || is_mark marks.CloseBracket a)) || (is_mark marks.Dot a && is_a_name b)

-- a line feed, and two spaces for each open brace
abbrev pub new_line : ℕ → List ℕ
new_line depth = 10 ∷ replicate (2 * depth) 32

-- what stands between two tokens, where so many braces are open after the first
abbrev pub space_between : ℕ → Token → Token → List ℕ
space_between depth a b =
    if breaks_line a b then new_line (if is_mark marks.CloseBrace b then depth - 1 else depth)
    else if joins a b then [] else 32 ∷ []

-- the text from a token on, where so many braces are open before it
abbrev pub layout_from : ℕ → Token → Tokens → List ℕ
layout_from depth a [] = text_of a ++ (10 ∷ [])
layout_from depth a (b ∷ ts) = text_of a ++ (space_between (open_after depth a) a b ++ layout_from (open_after depth a) b ts)

-- the layout of tokens
abbrev pub layout : Tokens → List ℕ
layout [] = []
layout (a ∷ ts) = layout_from 0 a ts
