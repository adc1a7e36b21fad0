-- Laws of claims. Each is the contract of a function with no body.
use Rattle.std.specs.Prelude.{◌≡◌, List, IsTrue, ◌↔◌}
use Rattle.std.specs.Cmp.{IsTotalOrder}
use Rattle.rsml_syntax.specs.declared.syntax.Spec.{Spec}
use Rattle.rsml_meaning.specs.Words.{Each}
use Rattle.rsml_meaning.specs.Certified.{Certified}
use Rattle.rsml_meaning.specs.EventFiles.{Line}
use Rattle.rsml_meaning.specs.Runs.{first_world, Reaction, IsRun}
use Rattle.rsml_meaning.specs.Scoped.{WellScoped}
use Rattle.rsml_meaning.specs.MicroSteps.{Result}
use Rattle.claim_syntax.specs.declared.claim.Claim.{Claim}
use Rattle.claim_syntax.specs.OfStates.{IsOfStates}
use Rattle.claims.specs.Claims.{all_true}
use Rattle.claims.specs.Inductive.{Moment, MayCome, ComesTo, AreInductive}
use Rattle.claims.specs.NextWorlds.{next_world, TurnFalse}
use Rattle.claims.specs.Breaks.{IsBreak, IsLeastBreak, moment_cmp}
use Rattle.claims.specs.Throughout.{AlwaysTrue}

-- claims of states that are inductive are true throughout each run of each event file
abbrev pub InductiveClaimsHold : Type 0
InductiveClaimsHold = (s : Spec) (cs : List Claim) → WellScoped s → Each IsOfStates cs → AreInductive s cs
    → (lines : List Line) (rs : List Reaction) → IsRun s lines rs → AlwaysTrue s cs rs

-- inductive claims have no break
abbrev pub InductiveHaveNoBreak : Type 0
InductiveHaveNoBreak = (s : Spec) (cs : List Claim) → AreInductive s cs → (m : Moment) → IsBreak s cs m → ⊥

-- claims that are true in the first world and have no break are inductive
abbrev pub NoBreakIsInductive : Type 0
NoBreakIsInductive = (s : Spec) (cs : List Claim) → WellScoped s → IsTrue (all_true s cs (first_world s)) → ((m : Moment) → IsBreak s cs m → ⊥) → AreInductive s cs

-- the order of moments is total
abbrev pub MomentsAreOrdered : Type 0
MomentsAreOrdered = (s : Spec) → IsTotalOrder (moment_cmp s)

-- there is one least break at most
abbrev pub LeastBreaksAreOne : Type 0
LeastBreaksAreOne = (s : Spec) (cs : List Claim) (m k : Moment) → WellScoped s → IsLeastBreak s cs m → IsLeastBreak s cs k → m ≡ k

-- in a certified specification a micro-step at a moment that may come leaves the next world
abbrev pub NextWorldsAreLeft : Type 0
NextWorldsAreLeft = (s : Spec) (m : Moment) (r : Result) → WellScoped s → Certified s → MayCome s m → ComesTo s m r → r.world ≡ next_world s m

-- in a certified specification a break is a moment at which the claims turn false in the next world
abbrev pub BreaksTurnFalse : Type 0
BreaksTurnFalse = (s : Spec) (cs : List Claim) (m : Moment) → WellScoped s → Certified s → IsBreak s cs m ↔ TurnFalse s cs m
