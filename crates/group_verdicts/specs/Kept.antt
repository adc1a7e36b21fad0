-- What is kept of transitions.
use Rattle.std.specs.Prelude.{◌≡◌, ℕ, ◌<◌, ⊤, Option, Some, None, length, slice_get, slice_set, unwrap_or}
use Rattle.rsml_meaning.specs.Transitions.{transitions}
use Rattle.ground_groups.specs.declared.group.Member.{Member}
use Rattle.ground_groups.specs.declared.group.Member.TheVariants as member
use Rattle.guard_encode.specs.Encoding.{Encoding}
use Rattle.group_verdicts.specs.declared.kept.Kept.{Kept}

-- There is a place for each transition, and what is kept there has this relation to it.
pub record AreKept (e : Encoding) (R : Encoding → Member → ℕ → Type 0) (kept : Kept) : Type 0 where
  pub many : length kept.functions.items ≡ length (transitions e.machine.base.spec)
  pub each : (number r : ℕ) → slice_get kept.functions.items number ≡ Some (Some r) → R e (member.Transition number) r

-- there is a place for the member, if it is a transition
abbrev pub IsThere : Kept → Member → Type 0
IsThere kept (member.Transition number) = number < length kept.functions.items
IsThere kept _ = ⊤

-- what is known of a member
abbrev pub known_of : Kept → Member → Option ℕ
known_of kept (member.Transition number) = unwrap_or (slice_get kept.functions.items number) None
known_of kept _ = None

-- this has been kept of a member, if it is a transition
abbrev pub IsKept : Kept → Kept → Member → ℕ → Type 0
IsKept old new (member.Transition number) r = new.functions.items ≡ slice_set old.functions.items number (Some r)
IsKept old new _ r = new ≡ old
