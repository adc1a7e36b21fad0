-- What has been told of the members of groups.
use Rattle.std.specs.Prelude.{◌≡◌, ℕ, ◌+◌, ◌≤◌, Bool, Some, length, take, filter, nat_lt, slice_get}
use Rattle.rsml_syntax.specs.declared.syntax.Spec.{Spec}
use Rattle.rsml_syntax.specs.declared.world.World.{World}
use Rattle.rsml_meaning.specs.Truth.{view}
use Rattle.rsml_meaning.specs.Groups.{Group, groups, members, enabled, enabled_count}
use Rattle.rsml_meaning.specs.Groups as meaning_of
use Rattle.ground_groups.specs.declared.group.Member.{Member}
use Rattle.ground_groups.specs.Groups.{IsMemberAt, MemberIs}
use Rattle.guard_encode.specs.Encoding.{Encoding, Tells}
use Rattle.group_verdicts.specs.declared.counts.Counts.{Counts}
use Rattle.group_verdicts.specs.Kept.{AreKept}

-- what can be asked of a group in a world
abbrev pub Question : Type 0
Question = Spec → Group → World → Bool

-- whether more than k of the first n members are enabled
abbrev pub more_than : ℕ → ℕ → Question
more_than k n = λ s g w. nat_lt k (length (filter (enabled (view s w)) (take n (members s g))))

-- whether more than k of all members are
abbrev pub has_more : ℕ → Question
has_more k = λ s g w. nat_lt k (enabled_count s g (view s w))

-- r tells in which worlds this is true of the group at a place
abbrev pub TellsAt : Encoding → ℕ → Question → ℕ → Type 0
TellsAt e group truth r = (g : Group) → slice_get (groups e.machine.base.spec) group ≡ Some g → Tells e (truth e.machine.base.spec g) r

-- r tells where a member is enabled
abbrev pub TellsMember : Encoding → Member → ℕ → Type 0
TellsMember e x r = (m : meaning_of.Member) → MemberIs e.machine.base.spec m x → Tells e (λ w. enabled (view e.machine.base.spec w) m) r

-- r tells where more than k of the members up to one are enabled, in each group that it is a member of
abbrev pub TellsUpTo : ℕ → Encoding → Member → ℕ → Type 0
TellsUpTo k e x r = (g : Group) (place : ℕ) → IsMemberAt e.machine.base.spec g place x
    → Tells e (more_than k (place + 1) e.machine.base.spec g) r

-- What is kept is right: where a transition is enabled, and where one or more, and two or more, of the members up to it are.
pub record AreCounts (e : Encoding) (counts : Counts) : Type 0 where
  pub enabled_is : AreKept e TellsMember counts.enabled
  pub some_is : AreKept e (TellsUpTo 0) counts.some
  pub two_is : AreKept e (TellsUpTo 1) counts.two

-- the group at a place has so many members
abbrev pub AreMembers : Encoding → ℕ → ℕ → Type 0
AreMembers e group n = (g : Group) → slice_get (groups e.machine.base.spec) group ≡ Some g → n ≡ length (members e.machine.base.spec g)

-- so many, or more
abbrev pub HasMembers : Encoding → ℕ → ℕ → Type 0
HasMembers e group n = (g : Group) → slice_get (groups e.machine.base.spec) group ≡ Some g → n ≤ length (members e.machine.base.spec g)

-- the member at a place of the group
abbrev pub IsNext : Encoding → ℕ → ℕ → Member → Type 0
IsNext e group n x = (g : Group) → slice_get (groups e.machine.base.spec) group ≡ Some g → IsMemberAt e.machine.base.spec g n x
