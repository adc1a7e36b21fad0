-- Members of groups by their numbers.
use Rattle.rsml_syntax.specs.declared.syntax.Spec.{Spec}
use Rattle.rsml_meaning.specs.Groups as meaning_of
use Rattle.ground_groups.specs.declared.group.Member.{Member}
use Rattle.ground_groups.specs.Groups.{MemberIs}

-- it is one of the specification
abbrev pub IsMember : Spec → Member → Type 0
IsMember s x = (m : meaning_of.Member) × MemberIs s m x
