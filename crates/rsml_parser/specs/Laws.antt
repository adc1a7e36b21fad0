-- Laws of the grammar and of texts.
use Rattle.std.specs.Prelude.{◌≡◌, ◌⊎◌, ℕ, ◌≤◌, List, Result, Ok, Err}
use Rattle.rsml_parser.specs.declared.error.ParseError.{ParseError}
use Rattle.rsml_parser.specs.declared.error.ParseError.TheVariants as errors
use Rattle.rsml_syntax.specs.declared.edition.Edition.TheVariants as editions
use Rattle.rsml_syntax.specs.declared.token.Token.TheVariants as token
use Rattle.rsml_syntax.specs.declared.token.Word.TheVariants as words
use Rattle.rsml_syntax.specs.grammar.Grammar.{tokens_of}
use Rattle.rsml_syntax.specs.grammar.Layout.{layout, open_braces}
use Rattle.rsml_syntax.specs.grammar.Places.{Reads, IsTokensOf, IsSyntaxFault, IsDepthPlace}
use Rattle.rsml_syntax.specs.grammar.WellFormed.{WellFormed, nests, deepest}
use Rattle.rsml_syntax.specs.declared.syntax.Spec.{Spec}
use Rattle.rsml_syntax.specs.text.Tokens.{Tokens, AreTokens}
use Rattle.claim_syntax.specs.declared.claim.Claim.{Claim}
use Rattle.claim_syntax.specs.Grammar.{claims_tokens, AreWellFormed}
use Rattle.claim_syntax.specs.Joined.{joined}

-- two specifications with the same tokens are the same, however deep they nest
abbrev pub IsUnambiguous : Type 0
IsUnambiguous = (s t : Spec) → WellFormed s → WellFormed t → tokens_of s ≡ tokens_of t → s ≡ t

-- a text reads as at most one specification
abbrev pub AtMostOneSpecification : Type 0
AtMostOneSpecification = (bytes : List ℕ) (s t : Spec) → Reads bytes s → Reads bytes t → s ≡ t

-- the layout of a specification reads as that specification
abbrev pub LayoutReadsAgain : Type 0
LayoutReadsAgain = (s : Spec) → WellFormed s → nests s ≤ deepest → Reads (layout (tokens_of s)) s

-- the answer is true of the tokens: they are the specification, or the fault stands at the place
abbrev pub IsTrueAnswer : Tokens → Result Spec ParseError → Type 0
IsTrueAnswer ts (Ok s) = IsTokensOf ts s
IsTrueAnswer ts (Err (errors.Syntax place)) = IsSyntaxFault ts place
IsTrueAnswer ts (Err (errors.TooDeep place)) = IsDepthPlace ts place
IsTrueAnswer ts (Err errors.NoMemory) = ⊥

-- each list of tokens has an answer that is true of it, and no other
abbrev pub HasOneAnswer : Type 0
HasOneAnswer = (ts : Tokens) → AreTokens editions.Second ts →
    (answer : Result Spec ParseError) × IsTrueAnswer ts answer × ((other : Result Spec ParseError) → IsTrueAnswer ts other → other ≡ answer)

-- The token at a depth place opens a state inside 16 others. Where a state opens, each open brace is that of a state.
abbrev pub OpensInsideSixteen : Type 0
OpensInsideSixteen = (ts : Tokens) (place : ℕ) (deep : IsDepthPlace ts place) →
    ((deep.token ≡ token.Word words.State) ⊎ (deep.token ≡ token.Word words.Array)) × (open_braces deep.before ≡ deepest)

-- claims with the same tokens are the same
abbrev pub ClaimsAreUnambiguous : Type 0
ClaimsAreUnambiguous = (cs ds : List Claim) → AreWellFormed cs → AreWellFormed ds → claims_tokens cs ≡ claims_tokens ds → cs ≡ ds

-- the grammar can write the joined specification where it can write the specification and the claims
abbrev pub JoinedIsWellFormed : Type 0
JoinedIsWellFormed = (s : Spec) (cs : List Claim) → WellFormed s → AreWellFormed cs → WellFormed (joined s cs)
