-- What reading tokens gives: what was read and the tokens that are left, or the fault and the tokens that are left there.
use Rattle.std.specs.Prelude.{◌≡◌, ℕ, zero, suc, Bool, true, false, not, if◌then◌else◌, List, [], ◌∷◌, ◌++◌, length, Option, Some, None, Result, Ok, Err, ⊤}
use Rattle.rsml_syntax.specs.grammar.Layout.{is_mark, is_the_word, is_a_name}
use Rattle.rsml_syntax.specs.text.Tokens.{Tokens}
use Rattle.rsml_syntax.specs.declared.token.Mark.{Mark}
use Rattle.rsml_syntax.specs.declared.token.Mark.TheVariants as marks
use Rattle.rsml_syntax.specs.declared.token.Token.{Token}
use Rattle.rsml_syntax.specs.declared.token.Token.TheVariants as token
use Rattle.rsml_syntax.specs.declared.token.Word.{Word}
use Rattle.rsml_parser.specs.declared.reader.Fault.{Fault}
use Rattle.rsml_parser.specs.declared.reader.Fault.TheVariants as faults

-- whether a state too many opens at the fault; and the tokens that are left, the faulty one first
abbrev pub Stop : Type 0
Stop = Bool × Tokens

-- what was read with the tokens that are left, or where reading stopped
abbrev pub Outcome : Type 0 → Type 0
Outcome A = Result (A × Tokens) Stop

-- a parser is a function of the tokens that are left
abbrev pub Parser : Type 0 → Type 0
Parser A = Tokens → Outcome A

-- One after another, and nothing.

-- after what was read the next parser goes on; where reading stopped, nothing does
unfoldable pub and_then : {A B : Type 0} → Outcome A → (A → Parser B) → Outcome B
and_then (Ok p) f = f p.0 p.1
and_then (Err s) f = Err s

infixl 10 ◌>>=◌
-- one parser, and then the one that what it read gives
abbrev pub ◌>>=◌ : {A B : Type 0} → Parser A → (A → Parser B) → Parser B
p >>= f = λ ts. and_then (p ts) f

infixl 10 ◌>>◌
-- one parser, and then another
abbrev pub ◌>>◌ : {A B : Type 0} → Parser A → Parser B → Parser B
p >> q = p >>= (λ _. q)

-- nothing is taken, and this is read
abbrev pub pure : {A : Type 0} → A → Parser A
pure x = λ ts. Ok (x, ts)

-- A choice by the first token that is left.

-- the first token passes the test, and there is one
abbrev pub first : (Token → Bool) → Tokens → Bool
first test [] = false
first test (t ∷ ts) = test t

-- the token is a number
abbrev pub is_a_number : Token → Bool
is_a_number (token.Number n) = true
is_a_number _ = false

-- the first token is the word
abbrev pub sees_word : Word → Tokens → Bool
sees_word w = first (is_the_word w)

-- the first token is the mark
abbrev pub sees_mark : Mark → Tokens → Bool
sees_mark m = first (is_mark m)

-- the first token is a name
abbrev pub sees_name : Tokens → Bool
sees_name = first is_a_name

-- the first token is a number
abbrev pub sees_number : Tokens → Bool
sees_number = first is_a_number

-- the first parser where the tokens pass the test, else the second
abbrev pub choose : {A : Type 0} → (Tokens → Bool) → Parser A → Parser A → Parser A
choose test p q = λ ts. if test ts then p ts else q ts

-- One token.

-- the tokens after the first
abbrev pub skip : Tokens → Tokens
skip [] = []
skip (t ∷ ts) = ts

-- the word
unfoldable pub word : Word → Parser (Unit {0})
word w = λ ts. if sees_word w ts then Ok (tt, skip ts) else Err (false, ts)

-- the mark
unfoldable pub mark : Mark → Parser (Unit {0})
mark m = λ ts. if sees_mark m ts then Ok (tt, skip ts) else Err (false, ts)

-- the name that a token is
abbrev pub seen_name : Token → Option (List ℕ)
seen_name (token.Name n) = Some n
seen_name _ = None

-- the number that a token is
abbrev pub seen_number : Token → Option ℕ
seen_number (token.Number n) = Some n
seen_number _ = None

-- of the first token, if there is one
abbrev pub of_first : {A : Type 0} → (Token → Option A) → Tokens → Option A
of_first see [] = None
of_first see (t ∷ ts) = see t

-- what the first token was found to be, which is taken
abbrev pub found : {A : Type 0} → Option A → Parser A
found (Some x) = λ ts. Ok (x, skip ts)
found None = λ ts. Err (false, ts)

-- a name
unfoldable pub name : Parser (List ℕ)
name = λ ts. found (of_first seen_name ts) ts

-- a number
unfoldable pub number : Parser ℕ
number = λ ts. found (of_first seen_number ts) ts

-- nothing is left
unfoldable pub end : Parser (Unit {0})
end [] = Ok (tt, [])
end (t ∷ ts) = Err (false, t ∷ ts)

-- the first token opens a state too many
abbrev pub too_deep : {A : Type 0} → Parser A
too_deep = λ ts. Err (true, ts)

-- Lists.

-- items while one begins, at most so many
unfoldable pub many_from : {A : Type 0} → (Tokens → Bool) → Parser A → ℕ → Parser (List A)
many_from begins item zero = pure []
many_from begins item (suc n) = choose begins (item >>= (λ x. many_from begins item n >>= (λ xs. pure (x ∷ xs)))) (pure [])

-- items while one begins
unfoldable pub many : {A : Type 0} → (Tokens → Bool) → Parser A → Parser (List A)
many begins item = λ ts. many_from begins item (length ts) ts

-- the items that are found, and others while one begins
unfoldable pub and_more : {A : Type 0} → (Tokens → Bool) → Parser A → List A → Parser (List A)
and_more begins item found = many begins item >>= (λ more. pure (found ++ more))

-- an item, and others while the mark stands between
abbrev pub separated : {A : Type 0} → Mark → Parser A → Parser (List A)
separated m item = do
  x ← item
  xs ← many (sees_mark m) (mark m >> item)
  pure (x ∷ xs)

-- a token that is not the mark
abbrev pub is_not : Mark → Token → Bool
is_not m t = not (is_mark m t)

-- items up to the mark that closes the list
abbrev pub until : {A : Type 0} → Mark → Parser A → Parser (List A)
until m item = many (first (is_not m)) item >>= (λ xs. mark m >> pure xs)

-- in parentheses, with commas between
abbrev pub in_parentheses : {A : Type 0} → Parser A → Parser (List A)
in_parentheses item = mark marks.OpenParen >> choose (sees_mark marks.CloseParen) (mark marks.CloseParen >> pure [])
    (separated marks.Comma item >>= (λ xs. mark marks.CloseParen >> pure xs))

-- Calls.

-- the call failed as reading does, or because memory was refused
abbrev pub Fails : {A : Type 0} → Outcome A → Fault → Tokens → Type 0
Fails read faults.NoMemory left = ⊤
Fails read faults.Syntax left = read ≡ Err (false, left)
Fails read faults.TooDeep left = read ≡ Err (true, left)

-- A call gave what reading gives and left the tokens that reading leaves, unless memory was refused.
abbrev pub Gives : {A : Type 0} → Outcome A → Result A Fault → Tokens → Type 0
Gives read (Ok x) left = read ≡ Ok (x, left)
Gives read (Err e) left = Fails read e left
