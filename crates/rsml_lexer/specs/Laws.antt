-- What holds of the token lists and the first faults of all texts.
use Rattle.std.specs.Prelude.{◌≡◌, ◌⊎◌, ℕ, List}
use Rattle.rsml_syntax.specs.declared.edition.Edition.{Edition}
use Rattle.rsml_syntax.specs.declared.token.Placed.{Placed}
use Rattle.rsml_syntax.specs.text.Lexing.{Lexes, Fault, LexFault}

-- a text has at most one token list
abbrev pub AtMostOneTokenList : Type 0
AtMostOneTokenList = (e : Edition) (bytes : List ℕ) (ts us : List Placed) → Lexes e bytes ts → Lexes e bytes us → ts ≡ us

-- a text has at most one first fault
abbrev pub AtMostOneFirstFault : Type 0
AtMostOneFirstFault = (e : Edition) (bytes : List ℕ) (f g : Fault) → LexFault e bytes f → LexFault e bytes g → f ≡ g

-- no text has a token list and a first fault
abbrev pub NeverBoth : Type 0
NeverBoth = (e : Edition) (bytes : List ℕ) (ts : List Placed) (f : Fault) → Lexes e bytes ts → LexFault e bytes f → ⊥

-- every text has a token list or a first fault
abbrev pub AlwaysOne : Type 0
AlwaysOne = (e : Edition) (bytes : List ℕ) → ((ts : List Placed) × Lexes e bytes ts) ⊎ ((f : Fault) × LexFault e bytes f)
