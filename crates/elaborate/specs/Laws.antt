-- What a machine says is what its specification says. Each law is the contract of a function with no body.
use Rattle.std.specs.Prelude.{◌≡◌, ℕ, List, Some, slice_get, ◌↔◌}
use Rattle.std.specs.List.{AllZip}
use Rattle.rsml_syntax.specs.declared.world.World.{World}
use Rattle.rsml_meaning.specs.Truth.{view}
use Rattle.rsml_meaning.specs.Groups.{Group, enabled, members, meets, enabled_count, Sound}
use Rattle.rsml_meaning.specs.Groups as meaning_of
use Rattle.ground_groups.specs.declared.group.GroupKind.{GroupKind}
use Rattle.ground_groups.specs.declared.group.Member.{Member}
use Rattle.ground_groups.specs.Groups.{KindIs, MemberIs, AreBelow}
use Rattle.elaborate.specs.Machine.{GroundMachine, StandsFor}
use Rattle.elaborate.specs.Enabled.{enabled_at, meets_at, count_at, SoundAt}

-- a member is enabled where that of the text is
abbrev pub MembersAreEnabledAsInTheText : Type 0
MembersAreEnabledAsInTheText = (m : GroundMachine) (w : World) → StandsFor m → (member : meaning_of.Member) (x : Member)
    → MemberIs m.base.spec member x → enabled_at m w x ≡ enabled (view m.base.spec w) member

-- the condition of a group holds where that of the text does
abbrev pub ConditionsAreThoseOfTheText : Type 0
ConditionsAreThoseOfTheText = (m : GroundMachine) (w : World) → StandsFor m → (g : Group) (kind : GroupKind) (below : List ℕ)
    → KindIs m.base.spec g kind → AreBelow m.base.spec g below → meets_at m w kind below ≡ meets m.base.spec (view m.base.spec w) g

-- as many members of a group are enabled as of that of the text
abbrev pub CountsAreThoseOfTheText : Type 0
CountsAreThoseOfTheText = (m : GroundMachine) (w : World) → StandsFor m → (g : Group) (xs : List Member)
    → AllZip (MemberIs m.base.spec) (members m.base.spec g) xs → count_at m w xs ≡ enabled_count m.base.spec g (view m.base.spec w)

-- a group is sound where that of the text is
abbrev pub SoundnessIsThatOfTheText : Type 0
SoundnessIsThatOfTheText = (m : GroundMachine) → StandsFor m → (g : Group) (kind : GroupKind) (below : List ℕ) (xs : List Member)
    → KindIs m.base.spec g kind → AreBelow m.base.spec g below → AllZip (MemberIs m.base.spec) (members m.base.spec g) xs
    → SoundAt m kind below xs ↔ Sound m.base.spec g
