-- What claims over numbers of states say, by which states are active.
use Rattle.std.specs.Prelude.{ℕ, Bool, map}
use Rattle.std.specs.List.{list_any, list_all}
use Rattle.rsml_syntax.specs.rules.Tables.{TableRow, table_truth}
use Rattle.ground_claims.specs.declared.phrase.StatePhrase.{StatePhrase}
use Rattle.ground_claims.specs.declared.phrase.StatePhrase.TheVariants as phrases
use Rattle.ground_claims.specs.declared.claim.ClaimRow.{ClaimRow}
use Rattle.ground_claims.specs.declared.claim.GroundClaim.{GroundClaim}

-- each of its states is active, or some is
abbrev pub phrase_truth : (ℕ → Bool) → StatePhrase → Bool
phrase_truth active (phrases.Every nodes) = list_all active nodes
phrase_truth active (phrases.Any nodes) = list_any active nodes

-- the truth of a row's phrase, and the row's cells
abbrev pub row_truth : (ℕ → Bool) → ClaimRow → TableRow
row_truth active row = (phrase_truth active row.phrase, row.cells)

-- the truth of a claim: that of its table
abbrev pub claim_truth : (ℕ → Bool) → GroundClaim → Bool
claim_truth active claim = table_truth (map (row_truth active) claim.rows)
