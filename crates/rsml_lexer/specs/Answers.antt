-- What the reader of tokens answers.
use Rattle.std.specs.Prelude.{◌≡◌, ◌<◌, ◌≤◌, ℕ, List, Option, Some, None, Result, Ok, Err, Vec, ◌⊎◌, ⊤, IfOk, length, vec_len}
use Rattle.std.specs.declared.alloc.Global.{Global}
use Rattle.rsml_syntax.specs.declared.edition.Edition.{Edition}
use Rattle.rsml_syntax.specs.declared.token.Placed.{Placed}
use Rattle.rsml_syntax.specs.text.Characters.{digits_value}
use Rattle.rsml_syntax.specs.text.Lexing.{bytes_of, ScansWhole, Lexes, Fault, LexFault, bare}
use Rattle.rsml_syntax.specs.text.Lexing as faults
use Rattle.rsml_syntax.specs.helpers.Scanning.{Cut, TooBig, Bad, front, Stuck}
use Rattle.rsml_syntax.specs.text.Tokens.{greatest_number, AreTokens}
use Rattle.rsml_lexer.specs.declared.fault.LexError.{LexError}
use Rattle.rsml_lexer.specs.declared.fault.LexError.TheVariants as errors
use Rattle.rsml_lexer.specs.declared.front.Taken.{Taken}

-- the number that the digits are, where it may be written
abbrev pub IsNumber : List ℕ → Option ℕ → Type 0
IsNumber digits (Some n) = (n ≡ digits_value digits) × (n ≤ greatest_number)
IsNumber digits None = greatest_number < digits_value digits

-- the token at the front of these characters, which stand at this offset, or why there is none
abbrev pub Takes : Edition → List ℕ → ℕ → Result Taken LexError → Type 0
Takes e cs at (Ok t) = (spelling more : List ℕ) × (front e cs ≡ Cut t.token spelling more) × (t.len ≡ bytes_of spelling)
Takes e cs at (Err (errors.NotUtf8 _)) = ⊥
Takes e cs at (Err (errors.BadCharacter place)) = (front e cs ≡ Bad) × (place ≡ at)
Takes e cs at (Err (errors.NumberTooBig place)) = (front e cs ≡ TooBig) × (place ≡ at)
Takes e cs at (Err errors.NoMemory) = ⊤

-- the tokens of these characters, or where they go wrong
abbrev pub Reads : Edition → List ℕ → Result (Vec Placed Global) LexError → Type 0
Reads e cs (Ok v) = ScansWhole e cs v.items
Reads e cs (Err (errors.NotUtf8 _)) = ⊥
Reads e cs (Err (errors.BadCharacter at)) = Stuck e cs at Bad
Reads e cs (Err (errors.NumberTooBig at)) = Stuck e cs at TooBig
Reads e cs (Err errors.NoMemory) = ⊤

-- the error that names a fault
abbrev pub error_of : Fault → LexError
error_of (faults.NotUtf8 at) = errors.NotUtf8 at
error_of (faults.BadCharacter at) = errors.BadCharacter at
error_of (faults.NumberTooBig at) = errors.NumberTooBig at

-- the answer names the fault
abbrev pub Names : Result (Vec Placed Global) LexError → Fault → Type 0
Names result f = result ≡ Err (error_of f)

-- the answer is these tokens, or that memory ran out
abbrev pub Gives : List Placed → Result (Vec Placed Global) LexError → Type 0
Gives ts (Ok v) = v.items ≡ ts
Gives ts (Err error) = error ≡ errors.NoMemory

-- the answer names the fault, or is that memory ran out
abbrev pub Fails : Fault → Result (Vec Placed Global) LexError → Type 0
Fails f (Ok v) = ⊥
Fails f (Err error) = (error ≡ error_of f) ⊎ (error ≡ errors.NoMemory)

-- the answer is the token list of the text or its first fault, or that memory ran out
pub record Lexed (e : Edition) (bytes : List ℕ) (result : Result (Vec Placed Global) LexError) : Type 0 where
  pub ok : IfOk result (λ v. Lexes e bytes v.items)
  pub fault : (f : Fault) → Names result f → LexFault e bytes f
  pub only_ok : (ts : List Placed) → Lexes e bytes ts → Gives ts result
  pub only_fault : (f : Fault) → LexFault e bytes f → Fails f result
  pub tokens : IfOk result (λ v. AreTokens e (bare v.items))
  pub few : IfOk result (λ v. vec_len v ≤ length bytes)
