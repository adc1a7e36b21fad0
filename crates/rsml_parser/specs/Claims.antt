-- Reading claims, and what `parse_claims` answers.
use Rattle.std.specs.Prelude.{◌≡◌, List, Vec, Result, Ok, Err, ⊤}
use Rattle.std.specs.declared.alloc.Global.{Global}
use Rattle.rsml_syntax.specs.declared.token.Word.TheVariants as words
use Rattle.rsml_syntax.specs.text.Tokens.{Tokens}
use Rattle.claim_syntax.specs.declared.claim.Claim.{Claim}
use Rattle.rsml_parser.specs.Answers.{token_place}
use Rattle.rsml_parser.specs.Parsers.{Outcome, Parser, ◌>>=◌, ◌>>◌, pure, sees_word, word, name, end, many, Fails}
use Rattle.rsml_parser.specs.Tables.{table}
use Rattle.rsml_parser.specs.declared.claims.ClaimsError.{ClaimsError}
use Rattle.rsml_parser.specs.declared.claims.ClaimsError.TheVariants as errors
use Rattle.rsml_parser.specs.declared.reader.Fault.{Fault}

-- `macro`, the name, and the table
abbrev pub claim : Parser Claim
claim = do
  word words.Macro
  n ← name
  rows ← table
  pure (record { name = n; rows = rows })

-- claims, one after another
abbrev pub claims : Parser (List Claim)
claims = many (sees_word words.Macro) claim

-- claims are all of the tokens
unfoldable pub whole_claims : Parser (List Claim)
whole_claims = do
  cs ← claims
  end
  pure cs

-- the call gave the items that reading gives, unless memory was refused
abbrev pub GivesItems : {A : Type 0} → Outcome (List A) → Result (Vec A Global) Fault → Tokens → Type 0
GivesItems read (Ok v) left = read ≡ Ok (v.items, left)
GivesItems read (Err e) left = Fails read e left

-- the answer that goes with what reading some tokens gives
abbrev pub claims_answer : Tokens → Outcome (List Claim) → Result (List Claim) ClaimsError
claims_answer ts (Ok p) = Ok p.0
claims_answer ts (Err s) = Err (errors.Syntax (token_place ts s.1))

-- the call gave this answer, unless memory was refused
abbrev pub AnswersClaims : Result (Vec Claim Global) ClaimsError → Result (List Claim) ClaimsError → Type 0
AnswersClaims (Ok v) answer = answer ≡ Ok v.items
AnswersClaims (Err (errors.Syntax place)) answer = answer ≡ Err (errors.Syntax place)
AnswersClaims (Err errors.NoMemory) answer = ⊤
