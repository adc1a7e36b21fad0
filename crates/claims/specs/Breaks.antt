-- Breaks of claims, their order, and the least of them.
use Rattle.std.specs.Prelude.{◌≡◌, ℕ, false, List, ◌∷◌, map, filter, if◌then◌else◌, IsTrue}
use Rattle.std.specs.Ordering.{then_cmp, on, nat_cmp}
use Rattle.std.specs.Cmp.Lexicographic.{slice_cmp}
use Rattle.std.specs.declared.cmp.Ordering.{Ordering}
use Rattle.std.specs.declared.cmp.Ordering.TheVariants.{Less}
use Rattle.rsml_syntax.specs.declared.syntax.Spec.{Spec}
use Rattle.rsml_meaning.specs.Words.{Instance, has}
use Rattle.rsml_meaning.specs.Instances.{events}
use Rattle.rsml_meaning.specs.Worlds.{world_cmp}
use Rattle.rsml_meaning.specs.Report.{event_place}
use Rattle.rsml_meaning.specs.MicroSteps.{Result}
use Rattle.claim_syntax.specs.declared.claim.Claim.{Claim}
use Rattle.claims.specs.Claims.{all_true}
use Rattle.claims.specs.Inductive.{Moment, MayCome, ComesTo}

-- A break of claims: a moment that may come, at which all are true, and a micro-step at it that leaves a world in which not
-- all are. The present events stand in their order, each once.
pub record IsBreak (s : Spec) (cs : List Claim) (m : Moment) : Type 0 where
  pub may_come : MayCome s m
  pub listed : m.present ≡ filter (has m.present) (events s)
  pub before : IsTrue (all_true s cs m.world)
  pub result : Result
  pub comes_to : ComesTo s m result
  pub after : all_true s cs result.world ≡ false

-- 1 where the event is present, else 0
abbrev pub presence : Moment → Instance → ℕ
presence m e = if has m.present e then 1 else 0

-- what moments are ordered by before their worlds: the external event, the round, and for each event whether it is present
abbrev pub moment_rank : Spec → Moment → List ℕ
moment_rank s m = event_place s m.start ∷ m.round ∷ map (presence m) (events s)

-- the order of moments: by their external event, their round, the events that are present, absent before present, and their world
abbrev pub moment_cmp : Spec → Moment → Moment → Ordering
moment_cmp s = then_cmp (on (moment_rank s) (slice_cmp nat_cmp)) (on (λ m. m.world) world_cmp)

-- The least break: it is one, and none goes before it.
pub record IsLeastBreak (s : Spec) (cs : List Claim) (m : Moment) : Type 0 where
  pub such : IsBreak s cs m
  pub least : (k : Moment) → IsBreak s cs k → moment_cmp s k m ≡ Less → ⊥
