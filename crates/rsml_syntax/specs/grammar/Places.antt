-- When a text reads as a specification, and else the place of its first fault: tokens are counted from 1.
use Rattle.std.specs.Prelude.{◌≡◌, ◌≢◌, ℕ, ◌+◌, ◌≤◌, List, [], ◌∷◌, ◌++◌, length}
use Rattle.rsml_syntax.specs.declared.edition.Edition.TheVariants as editions
use Rattle.rsml_syntax.specs.declared.syntax.Spec.{Spec}
use Rattle.rsml_syntax.specs.declared.token.Placed.{Placed}
use Rattle.rsml_syntax.specs.declared.token.Token.{Token}
use Rattle.rsml_syntax.specs.grammar.Grammar.{tokens_of}
use Rattle.rsml_syntax.specs.text.Lexing.{Lexes, bare}
use Rattle.rsml_syntax.specs.text.Tokens.{Tokens}
use Rattle.rsml_syntax.specs.grammar.WellFormed.{WellFormed, nests, deepest}

-- the tokens are those of this specification, which nests no more states than a text may
pub record IsTokensOf (ts : Tokens) (s : Spec) : Type 0 where
  pub well_formed : WellFormed s
  pub depth : nests s ≤ deepest
  pub tokens : tokens_of s ≡ ts

-- the text reads as this specification
abbrev pub Reads : List ℕ → Spec → Type 0
Reads bytes s = (ts : List Placed) × Lexes editions.Second bytes ts × IsTokensOf (bare ts) s

-- the tokens are the first ones of some well-formed specification, however deep it nests
abbrev pub Begins : Tokens → Type 0
Begins ts = (s : Spec) × (more : Tokens) × WellFormed s × (tokens_of s ≡ ts ++ more)

-- the tokens are the first ones of some well-formed specification that nests no more states than a text may
abbrev pub BeginsWithin : Tokens → Type 0
BeginsWithin ts = (s : Spec) × (more : Tokens) × WellFormed s × (nests s ≤ deepest) × (tokens_of s ≡ ts ++ more)

-- after the prefix no specification goes on with the rest: not with its first token, or, where nothing is left, not by ending
abbrev pub StopsAt : Tokens → Tokens → Type 0
StopsAt before [] = (s : Spec) → WellFormed s → tokens_of s ≢ before
StopsAt before (t ∷ _) = Begins (before ++ t ∷ []) → ⊥

-- The tokens before the place begin a specification, and those up to and with it begin none; or the place is one past
-- the last token, and all tokens begin a specification and are none.
pub record IsSyntaxPlace (ts : Tokens) (place : ℕ) : Type 0 where
  pub before : Tokens
  pub rest : Tokens
  pub split : ts ≡ before ++ rest
  pub here : place ≡ length before + 1
  pub begins : Begins before
  pub stops : StopsAt before rest

-- The token at the place opens one state too many: up to and with it the tokens begin a specification, but none that
-- nests few enough states, while those before it begin one that does.
pub record IsDepthPlace (ts : Tokens) (place : ℕ) : Type 0 where
  pub before : Tokens
  pub token : Token
  pub rest : Tokens
  pub split : ts ≡ before ++ token ∷ rest
  pub here : place ≡ length before + 1
  pub within : BeginsWithin before
  pub begins : Begins (before ++ token ∷ [])
  pub too_deep : BeginsWithin (before ++ token ∷ []) → ⊥

-- The fault of syntax is the syntax place, where no token opens a state too many.
pub record IsSyntaxFault (ts : Tokens) (place : ℕ) : Type 0 where
  pub syntax : IsSyntaxPlace ts place
  pub not_deep : (deep : ℕ) → IsDepthPlace ts deep → ⊥
