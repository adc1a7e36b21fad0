-- When groups and members over numbers are those of the specification.
use Rattle.std.specs.Prelude.{◌≡◌, ℕ, ◌<◌, Bool, ◌&&◌, List, length, Some, slice_get, IsTrue, ◌↔◌}
use Rattle.std.specs.List.{list_any}
use Rattle.rsml_syntax.specs.declared.syntax.Spec.{Spec}
use Rattle.rsml_syntax.specs.declared.syntax.Case.{Case}
use Rattle.rsml_meaning.specs.Words.{Path, Instance, is_proper_prefix, IsOne}
use Rattle.rsml_meaning.specs.Instances.{states}
use Rattle.rsml_meaning.specs.Transitions.{transitions, is_from}
use Rattle.rsml_meaning.specs.Interfaces.{FunctionInstance, definitions, function_cases, send_cases}
use Rattle.rsml_meaning.specs.Groups.{Group, state, send, function, groups, members}
use Rattle.rsml_meaning.specs.Groups as meaning_of
use Rattle.state_tree.specs.Numbers.{path_of}
use Rattle.ground_members.specs.Members.{IsState, IsEvent, IsSend}
use Rattle.ground_groups.specs.declared.group.GroupKind.{GroupKind}
use Rattle.ground_groups.specs.declared.group.GroupKind.TheVariants as kinds
use Rattle.ground_groups.specs.declared.group.Member.{Member}
use Rattle.ground_groups.specs.declared.group.Member.TheVariants as member

-- of what a group is
abbrev pub KindIs : Spec → Group → GroupKind → Type 0
KindIs s (state path e) (kinds.State k j) = IsState s path k × IsEvent s e j
KindIs s (send x e) (kinds.Send k j) = IsSend s x k × IsEvent s e j
KindIs s (function f) (kinds.Function k) = slice_get (definitions s) k ≡ Some (function_cases f)
KindIs s _ _ = ⊥

-- of a case of a function: the function's number, and the case's place there
pub record IsFunctionCase (s : Spec) (f : Instance) (c : ℕ × Case) (k place : ℕ) : Type 0 where
  pub instance : FunctionInstance
  pub there : slice_get (definitions s) k ≡ Some (function_cases instance)
  pub is : instance.function ≡ f
  pub case_is : slice_get instance.cases place ≡ Some c

-- a member by its place among the transitions, the cases of sends, or the cases of its function
abbrev pub MemberIs : Spec → meaning_of.Member → Member → Type 0
MemberIs s (meaning_of.transition t) (member.Transition k) = slice_get (transitions s) k ≡ Some t
MemberIs s (meaning_of.send_case c) (member.SendCase k) = slice_get (send_cases s) k ≡ Some c
MemberIs s (meaning_of.case f c) (member.FunctionCase k place) = IsFunctionCase s f c k place
MemberIs s _ _ = ⊥

-- the member at a place of a group
abbrev pub IsMemberAt : Spec → Group → ℕ → Member → Type 0
IsMemberAt s g place x = (m : meaning_of.Member) × (slice_get (members s g) place ≡ Some m) × MemberIs s m x

-- a state strictly inside another that is the source of a transition on the event
abbrev pub is_below : Spec → Path → Instance → ℕ → Bool
is_below s path e k = is_proper_prefix path (path_of s k) && list_any (is_from (path_of s k) e) (transitions s)

-- the states strictly inside the group's state that are sources of transitions on its event; none for other groups
abbrev pub AreBelow : Spec → Group → List ℕ → Type 0
AreBelow s (state path e) ks = (k : ℕ) → IsOne k ks ↔ ((k < length (states s)) × IsTrue (is_below s path e k))
AreBelow s _ ks = (k : ℕ) → IsOne k ks → ⊥
