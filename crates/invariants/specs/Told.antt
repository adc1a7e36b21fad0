-- What handles tell of worlds.
use Rattle.std.specs.Prelude.{◌≡◌, ℕ, Bool, List}
use Rattle.std.specs.List.{AllZip, list_all}
use Rattle.rsml_syntax.specs.declared.syntax.Spec.{Spec}
use Rattle.rsml_syntax.specs.declared.world.World.{World}
use Rattle.rsml_meaning.specs.Worlds.{IsWorld}
use Rattle.rsml_ground.specs.Truths.{is_active}
use Rattle.elaborate.specs.Machine.{GroundMachine}
use Rattle.ground_claims.specs.declared.claim.ClaimRow.{ClaimRow}
use Rattle.ground_claims.specs.declared.claim.GroundClaim.{GroundClaim}
use Rattle.ground_claims.specs.Truths.{phrase_truth, claim_truth}
use Rattle.guard_encode.specs.Encoding.{Encoding, Tells, TellsExactly}
use Rattle.invariants.specs.Moves.{after}

-- r tells in which worlds of the specification this is true
pub record TellsOf (s : Spec) (e : Encoding) (truth : World → Bool) (r : ℕ) : Type 0 where
  pub told : World → Bool
  pub tells : Tells e told r
  pub same : (w : World) → IsWorld s w → told w ≡ truth w

-- and it is false everywhere exactly where this is true of none
pub record DecidesOf (s : Spec) (e : Encoding) (truth : World → Bool) (r : ℕ) : Type 0 where
  pub told : World → Bool
  pub tells : TellsExactly e told r
  pub same : (w : World) → IsWorld s w → told w ≡ truth w

-- a handle for each truth
abbrev pub TellAll : Spec → Encoding → List (World → Bool) → List ℕ → Type 0
TellAll s e truths rs = AllZip (TellsOf s e) truths rs

-- whether all truths are those of a world
abbrev pub all_at : List (World → Bool) → World → Bool
all_at truths w = list_all (λ truth. truth w) truths

-- a handle for what each row asks, where these states are active in a world
abbrev pub TellRows : Spec → Encoding → (World → ℕ → Bool) → List ClaimRow → List ℕ → Type 0
TellRows s e active rows rs = AllZip (λ row r. TellsOf s e (λ w. phrase_truth (active w) row.phrase) r) rows rs

-- the states that are active in the world after these transitions
abbrev pub active_after : GroundMachine → List ℕ → World → ℕ → Bool
active_after m moves w = is_active m.base.spec (after m moves w)

-- whether a claim is true in that world
abbrev pub true_after : GroundMachine → List ℕ → GroundClaim → World → Bool
true_after m moves claim w = claim_truth (active_after m moves w) claim

-- a handle for each claim
abbrev pub TellClaims : GroundMachine → Encoding → List ℕ → List GroundClaim → List ℕ → Type 0
TellClaims m e moves claims rs = AllZip (λ claim r. TellsOf m.base.spec e (true_after m moves claim) r) claims rs
