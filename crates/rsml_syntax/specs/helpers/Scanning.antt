-- The next token of some characters, as a function of them.
use Rattle.std.specs.Prelude.{◌≡◌, ℕ, ◌+◌, Bool, List, [], ◌∷◌, length, drop, Option, Some, None, if◌then◌else◌, nat_le, ◌==◌}
use Rattle.std.specs.Str.{encode_utf8_all}
use Rattle.rsml_syntax.specs.declared.edition.Edition.{Edition}
use Rattle.rsml_syntax.specs.declared.token.Placed.{Placed}
use Rattle.rsml_syntax.specs.declared.token.Word.{Word}
use Rattle.rsml_syntax.specs.declared.token.Mark.{Mark}
use Rattle.rsml_syntax.specs.declared.token.Token.{Token}
use Rattle.rsml_syntax.specs.declared.token.Token.TheVariants as token
use Rattle.rsml_syntax.specs.text.Characters.{is_white, is_start, is_continuing, is_digit, passing, digits_at, digits_value}
use Rattle.rsml_syntax.specs.text.Lexing.{Scans, bytes_of}
use Rattle.rsml_syntax.specs.text.Marks as marks
use Rattle.rsml_syntax.specs.text.Marks.{mark_at}
use Rattle.rsml_syntax.specs.text.Names.{Name}
use Rattle.rsml_syntax.specs.text.Tokens.{greatest_number, is_reserved}
use Rattle.rsml_syntax.specs.text.Words.{word_of}

-- What is left after the white space and the comments at the front. A comment without a line feed goes to the end.
abbrev mutual
  pub after_blanks : List ℕ → List ℕ
  after_blanks [] = []
  after_blanks (c ∷ cs) = if c == 35 then after_comment cs else if is_white c then after_blanks cs else c ∷ cs

  pub after_comment : List ℕ → List ℕ
  after_comment [] = []
  after_comment (c ∷ cs) = if c == 10 then after_blanks cs else after_comment cs

-- what is left after those at the front that pass the test
abbrev pub after_passing : (ℕ → Bool) → List ℕ → List ℕ
after_passing test [] = []
after_passing test (c ∷ cs) = if test c then after_passing test cs else c ∷ cs

-- the word, where the edition reserves it, and else the name
abbrev pub word_or_name : Edition → Option Word → Name → Token
word_or_name e (Some w) name = if is_reserved e w then token.Word w else token.Name name
word_or_name e None name = token.Name name

-- what is written like a name: a reserved word of the edition, or a name
unfoldable pub named : Edition → Name → Token
named e name = word_or_name e (word_of name) name

-- What stands at the front: nothing, a token with its spelling and what follows it, a number that is too big, or
-- a character that begins no token.
pub data Front : Type 0 where
  Nothing : Front
  Cut : Token → List ℕ → List ℕ → Front
  TooBig : Front
  Bad : Front

-- a word or a name stands at the front
abbrev pub front_named : Edition → List ℕ → Front
front_named e cs = Cut (named e (encode_utf8_all (passing is_continuing cs))) (passing is_continuing cs) (after_passing is_continuing cs)

-- a number stands at the front, maybe too big
abbrev pub front_number : List ℕ → Front
front_number cs = if nat_le (digits_value (digits_at cs)) greatest_number
    then Cut (token.Number (digits_value (digits_at cs))) (digits_at cs) (after_passing is_digit cs) else TooBig

-- the mark stands at the front, if there is one
abbrev pub front_marked : Option Mark → List ℕ → Front
front_marked (Some m) cs = Cut (token.Mark m) (marks.spelling m) (drop (length (marks.spelling m)) cs)
front_marked None cs = Bad

-- what stands at the front of characters that begin with no blank
unfoldable pub front : Edition → List ℕ → Front
front e [] = Nothing
front e (c ∷ cs) =
    if is_start c then front_named e (c ∷ cs)
    else if is_digit c then front_number (c ∷ cs)
    else front_marked (mark_at (c ∷ cs)) (c ∷ cs)

-- what stands after the blanks at the front
abbrev pub next : Edition → List ℕ → Front
next e cs = front e (after_blanks cs)

-- after some tokens this is what stands next, at this offset
pub record Stuck (e : Edition) (cs : List ℕ) (at : ℕ) (f : Front) : Type 0 where
  pub tokens : List Placed
  pub rest : List ℕ
  pub ahead : List ℕ
  pub scanned : Scans e 0 cs tokens rest
  pub is : next e rest ≡ f
  pub blanks : after_blanks rest ≡ ahead
  pub offset : at + bytes_of ahead ≡ bytes_of cs
