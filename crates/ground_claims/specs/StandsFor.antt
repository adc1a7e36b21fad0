-- When claims over numbers of states stand for those of the text.
use Rattle.std.specs.Prelude.{◌≡◌, ℕ, ◌<◌, List, length, All}
use Rattle.std.specs.List.{AllZip}
use Rattle.rsml_syntax.specs.declared.syntax.Spec.{Spec}
use Rattle.rsml_syntax.specs.declared.syntax.Simple.{Simple}
use Rattle.rsml_syntax.specs.declared.syntax.Phrase.{Phrase}
use Rattle.rsml_syntax.specs.declared.syntax.Row.{Row}
use Rattle.rsml_syntax.specs.declared.world.World.{World}
use Rattle.rsml_syntax.specs.limits.Comparisons.{Indices}
use Rattle.rsml_meaning.specs.Instances.{states}
use Rattle.rsml_meaning.specs.Truth.{view, within, simple, phrase}
use Rattle.rsml_ground.specs.Truths.{is_active}
use Rattle.claim_syntax.specs.declared.claim.Claim.{Claim}
use Rattle.claims.specs.Claims.{is_true}
use Rattle.ground_claims.specs.declared.phrase.StatePhrase.{StatePhrase}
use Rattle.ground_claims.specs.declared.phrase.StatePhrase.TheVariants as phrases
use Rattle.ground_claims.specs.declared.claim.ClaimRow.{ClaimRow}
use Rattle.ground_claims.specs.declared.claim.GroundClaim.{GroundClaim}
use Rattle.ground_claims.specs.Truths.{phrase_truth, claim_truth}

-- the states that a phrase asks for
abbrev pub nodes_of : StatePhrase → List ℕ
nodes_of (phrases.Every nodes) = nodes
nodes_of (phrases.Any nodes) = nodes

-- they are there
abbrev pub AreStates : Spec → StatePhrase → Type 0
AreStates s x = All (λ node. node < length (states s)) (nodes_of x)

-- all states that a claim asks for are there
abbrev pub HasStates : Spec → GroundClaim → Type 0
HasStates s claim = All (λ row. AreStates s row.phrase) claim.rows

-- Of a phrase without a quantifier, read under these indices: a state that is there, and that is active in the worlds in
-- which the phrase is true.
pub record StateIs (s : Spec) (r : Indices) (b : Simple) (node : ℕ) : Type 0 where
  pub there : node < length (states s)
  pub truth : (w : World) → is_active s w node ≡ simple (view s w) r b

-- of a phrase at these values of a variable: such a state for each
abbrev pub StatesAre : Spec → (ℕ → Indices) → Simple → List ℕ → List ℕ → Type 0
StatesAre s r b values nodes = AllZip (λ i node. StateIs s (r i) b node) values nodes

-- Of a phrase: its states are there, and it is true in the same worlds.
pub record PhraseIs (s : Spec) (p : Phrase) (x : StatePhrase) : Type 0 where
  pub there : AreStates s x
  pub truth : (w : World) → phrase_truth (is_active s w) x ≡ phrase (view s w) (within 0) p

-- Of a row: its phrase, and its cells.
pub record RowIs (s : Spec) (row : Row) (x : ClaimRow) : Type 0 where
  pub asked : PhraseIs s row.phrase x.phrase
  pub cells : x.cells ≡ row.cells

-- Of a claim: its rows, in order. So its states are there, and it is true in the same worlds.
pub record ClaimIs (s : Spec) (c : Claim) (x : GroundClaim) : Type 0 where
  pub rows : AllZip (RowIs s) c.rows x.rows
  pub there : HasStates s x
  pub truth : (w : World) → claim_truth (is_active s w) x ≡ is_true s w c
