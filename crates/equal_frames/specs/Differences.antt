-- Where members of two specifications of one frame differ, and the first difference.
use Rattle.std.specs.Prelude.{◌≡◌, ℕ, ◌<◌, Bool, false, not, List, ◌++◌, map, flat_map, zip, Some, if◌then◌else◌, slice_get, IsTrue}
use Rattle.std.specs.List.{AllZip}
use Rattle.rsml_syntax.specs.declared.syntax.Spec.{Spec}
use Rattle.rsml_syntax.specs.declared.world.World.{World}
use Rattle.rsml_meaning.specs.Worlds.{IsWorld}
use Rattle.rsml_meaning.specs.Truth.{view}
use Rattle.rsml_meaning.specs.Transitions.{transitions}
use Rattle.rsml_meaning.specs.Interfaces.{send_cases, functions}
use Rattle.rsml_meaning.specs.Groups.{Member, transition, send_case, case, enabled}
use Rattle.rsml_meaning.specs.Findings.{IsLeast}

-- all members in order: transitions, cases of sends, cases of functions
abbrev pub all_members : Spec → List Member
all_members s = map transition (transitions s) ++ (map send_case (send_cases s) ++ flat_map (λ f. map (case f.function) f.cases) (functions s))

-- one member is enabled in the world and the other is not
abbrev pub differ : Spec → Spec → Member × Member → World → Bool
differ s t p w = if enabled (view s w) p.0 then not (enabled (view t w) p.1) else enabled (view t w) p.1

-- no member differs from the one at its place in any world
abbrev pub NoDifference : Spec → Spec → Type 0
NoDifference s t = AllZip (λ m n. (w : World) → IsWorld s w → differ s t (m, n) w ≡ false) (all_members s) (all_members t)

-- A difference: a member of the first specification, a world, and whether the member is enabled there in the first.
pub record Difference : Type 0 where
  pub member : Member
  pub world : World
  pub first : Bool

-- The first difference: that of the first member that differs from the one at its place, in the least world in which it does.
pub record IsDifference (s t : Spec) (d : Difference) : Type 0 where
  pub place : ℕ
  pub other : Member
  pub here : slice_get (zip (all_members s) (all_members t)) place ≡ Some (d.member, other)
  pub before : (k : ℕ) (p : Member × Member) → k < place → slice_get (zip (all_members s) (all_members t)) k ≡ Some p → (w : World) → IsWorld s w → differ s t p w ≡ false
  pub least : IsLeast (λ w. IsWorld s w × IsTrue (differ s t (d.member, other) w)) d.world
  pub side : d.first ≡ enabled (view s d.world) d.member
