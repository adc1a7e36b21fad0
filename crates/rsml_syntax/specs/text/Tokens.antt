-- Tokens: how each is spelled, and where the longest spelling ends.
use Rattle.std.specs.Prelude.{◌≡◌, ℕ, Bool, true, false, not, ◌&&◌, ◌||◌, ◌≤◌, List, [], ◌∷◌, ◌++◌, length, nat_lt, nat_eq, IsTrue, IsFalse}
use Rattle.std.specs.Str.{all_scalars, encode_utf8_all}
use Rattle.std.specs.List.{list_any, starts_with}
use Rattle.rsml_syntax.specs.declared.edition.Edition.{Edition}
use Rattle.rsml_syntax.specs.declared.edition.Edition.TheVariants as editions
use Rattle.rsml_syntax.specs.declared.token.Word.{Word}
use Rattle.rsml_syntax.specs.declared.token.Word.TheVariants as word
use Rattle.rsml_syntax.specs.declared.token.Mark.{Mark}
use Rattle.rsml_syntax.specs.declared.token.Token.{Token}
use Rattle.rsml_syntax.specs.declared.token.Token.TheVariants as token
use Rattle.rsml_syntax.specs.declared.token.TheConstants.{WORDS, MARKS}
use Rattle.rsml_syntax.specs.text.Characters.{is_continuing, is_name, is_digit, are_digits, digits_value, is_start}
use Rattle.rsml_syntax.specs.text.Marks as marks
use Rattle.rsml_syntax.specs.text.Names.{Name, same}
use Rattle.rsml_syntax.specs.text.Words as words
use Rattle.rsml_syntax.specs.text.Words.{same_word}

-- the tokens of a text without their offsets
abbrev pub Tokens : Type 0
Tokens = List Token

-- the greatest number that may be written
abbrev pub greatest_number : ℕ
greatest_number = 1000000000

-- in the first edition `previous` was a name like any other
abbrev pub is_reserved : Edition → Word → Bool
is_reserved editions.First w = not (same_word w word.Previous)
is_reserved editions.Second w = true

-- the name is a reserved word of the edition
abbrev pub is_word : Edition → Name → Bool
is_word e name = list_any (λ w. is_reserved e w && same name (words.spelling w)) WORDS

-- bytes that are a name, and no reserved word
abbrev pub IsFreeName : Edition → Name → Type 0
IsFreeName e name = (cs : List ℕ) × IsTrue (all_scalars cs) × (name ≡ encode_utf8_all cs) × IsTrue (is_name cs) × IsFalse (is_word e name)

-- what a token of the edition may be
abbrev pub IsToken : Edition → Token → Type 0
IsToken e (token.Word w) = IsTrue (is_reserved e w)
IsToken e (token.Name name) = IsFreeName e name
IsToken e (token.Number n) = n ≤ greatest_number
IsToken e (token.Mark m) = IsTrue true

-- each is a token of the edition
abbrev pub AreTokens : Edition → Tokens → Type 0
AreTokens e [] = IsTrue true
AreTokens e (t ∷ ts) = IsToken e t × AreTokens e ts

-- the characters are a spelling of the token
abbrev pub Spells : Edition → Token → List ℕ → Type 0
Spells e (token.Word w) cs = (cs ≡ words.spelling w) × IsTrue (is_reserved e w)
Spells e (token.Name name) cs = (name ≡ encode_utf8_all cs) × IsTrue (is_name cs) × IsFalse (is_word e name)
Spells e (token.Number n) cs = IsTrue (are_digits cs) × (digits_value cs ≡ n) × (n ≤ greatest_number)
Spells e (token.Mark m) cs = cs ≡ marks.spelling m

-- the first character, if there is one, is such
abbrev pub first_is : (ℕ → Bool) → List ℕ → Bool
first_is test [] = false
first_is test (c ∷ cs) = test c

-- the characters begin with a mark that is longer than m
abbrev pub begins_longer : Mark → List ℕ → Bool
begins_longer m cs = list_any (λ x. nat_lt (length (marks.spelling m)) (length (marks.spelling x)) && starts_with nat_eq cs (marks.spelling x)) MARKS

-- the token ends where these characters follow: none of them would lengthen it
abbrev pub ends : Token → List ℕ → Bool
ends (token.Word w) more = not (first_is is_continuing more)
ends (token.Name name) more = not (first_is is_continuing more)
ends (token.Number n) more = not (first_is is_digit more)
ends (token.Mark m) more = not (begins_longer m (marks.spelling m ++ more))

-- some token begins here
abbrev pub begins_token : List ℕ → Bool
begins_token cs = first_is is_start cs || first_is is_digit cs || list_any (λ m. starts_with nat_eq cs (marks.spelling m)) MARKS
