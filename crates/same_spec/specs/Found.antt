-- A difference that is found.
use Rattle.std.specs.Prelude.{◌≡◌, false, IsTrue}
use Rattle.rsml_syntax.specs.declared.syntax.Spec.{Spec}
use Rattle.rsml_syntax.specs.declared.world.World.{World}
use Rattle.rsml_meaning.specs.Worlds.{IsWorld}
use Rattle.rsml_meaning.specs.Truth.{view}
use Rattle.rsml_meaning.specs.Groups.{Member, enabled}
use Rattle.rsml_meaning.specs.Findings.{IsLeast}
use Rattle.ground_groups.specs.Groups.{MemberIs}
use Rattle.equal_frames.specs.Differences.{Difference, differ}
use Rattle.same_spec.specs.declared.found.Found.{Found}

-- What is found is this difference: its member by its places, its world, and whether the member is enabled there in the first.
pub record IsFound (s : Spec) (x : Found) (d : Difference) : Type 0 where
  pub member : MemberIs s d.member x.member
  pub world : x.world ≡ d.world
  pub first : x.first ≡ d.first

-- Of two members.

-- they differ in no world
abbrev pub NeverDiffer : Spec → Spec → Member → Member → Type 0
NeverDiffer s t m n = (w : World) → IsWorld s w → differ s t (m, n) w ≡ false

-- what is found is the least world in which they differ, and whether the first of them is enabled there
pub record DifferFirst (s t : Spec) (m n : Member) (x : Found) : Type 0 where
  pub least : IsLeast (λ w. IsWorld s w × IsTrue (differ s t (m, n) w)) x.world
  pub first : x.first ≡ enabled (view s x.world) m
