-- What `parse` answers.
use Rattle.std.specs.Prelude.{◌≡◌, ◌≢◌, ℕ, ◌+◌, ◌-◌, true, false, length, Result, Ok, Err}
use Rattle.rsml_syntax.specs.text.Tokens.{Tokens}
use Rattle.rsml_syntax.specs.declared.syntax.Spec.{Spec}
use Rattle.rsml_parser.specs.Parsers.{Outcome}
use Rattle.rsml_parser.specs.declared.error.ParseError.{ParseError}
use Rattle.rsml_parser.specs.declared.error.ParseError.TheVariants as errors

-- the call gave this answer, unless memory was refused
abbrev pub Answers : Result Spec ParseError → Result Spec ParseError → Type 0
Answers result answer = result ≢ Err errors.NoMemory → result ≡ answer

-- how many states may be nested in the top state
abbrev pub room : ℕ
room = 15

-- the place of the first of the tokens that are left, counted from 1
abbrev pub token_place : Tokens → Tokens → ℕ
token_place ts left = length ts - length left + 1

-- the answer that goes with what reading some tokens gives
abbrev pub answer : Tokens → Outcome Spec → Result Spec ParseError
answer ts (Ok p) = Ok p.0
answer ts (Err (false, left)) = Err (errors.Syntax (token_place ts left))
answer ts (Err (true, left)) = Err (errors.TooDeep (token_place ts left))
