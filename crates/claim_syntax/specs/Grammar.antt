-- The one token list of some claims, and when a list of tokens is that of some claims.
use Rattle.std.specs.Prelude.{◌≡◌, List, [], IsTrue, Bool}
use Rattle.std.specs.List.{list_all}
use Rattle.rsml_syntax.specs.declared.edition.Edition.TheVariants as editions
use Rattle.rsml_syntax.specs.declared.token.Word.TheVariants as words
use Rattle.rsml_syntax.specs.grammar.Grammar.{word, name, each, table}
use Rattle.rsml_syntax.specs.grammar.WellFormed.{row_has_items}
use Rattle.rsml_syntax.specs.text.Tokens.{Tokens, AreTokens}
use Rattle.claim_syntax.specs.declared.claim.Claim.{Claim}

-- `macro`, the name of the claim, and its table
abbrev pub claim : Claim → Tokens → Tokens
claim c rest = word words.Macro (name c.name (table c.rows rest))

-- the one token list of some claims: one after another
abbrev pub claims_tokens : List Claim → Tokens
claims_tokens cs = each claim cs []

-- the phrases of the claim have what they need
abbrev pub claim_has_items : Claim → Bool
claim_has_items c = list_all row_has_items c.rows

-- Claims that the grammar can write: their names are names and no reserved words, their numbers are at most 1,000,000,000,
-- and no list lacks its item.
pub record AreWellFormed (cs : List Claim) : Type 0 where
  pub tokens : AreTokens editions.Second (claims_tokens cs)
  pub items : IsTrue (list_all claim_has_items cs)

-- the tokens are those of these claims
pub record AreClaimsOf (ts : Tokens) (cs : List Claim) : Type 0 where
  pub well_formed : AreWellFormed cs
  pub tokens : claims_tokens cs ≡ ts
