-- What has been told of the members of groups.
use Rattle.std.proofs.Common.{◌≡◌, ℕ, ◌+◌, ◌<◌, ◌≤◌, List, length, filter, nat_lt, Some, slice_get, sym, ◌∙◌, subst, arith}
use Rattle.rsml_syntax.specs.limits.Checked.{IsChecked}
use Rattle.rsml_meaning.specs.Truth.{view}
use Rattle.rsml_meaning.specs.Groups.{Group, groups, members, enabled}
use Rattle.rsml_meaning.specs.Groups as meaning
use Rattle.state_tree.proofs.Lists.{within_get}
use Rattle.ground_groups.specs.declared.group.Member.{Member}
use Rattle.ground_groups.specs.declared.group.Member.TheVariants as member
use Rattle.ground_groups.specs.Groups.{IsMemberAt, MemberIs}
use Rattle.elaborate.specs.Machine.{GroundMachine, StandsFor}
use Rattle.guard_encode.specs.Encoding.{Encoding, IsMember, Keeps, Tells}
use Rattle.guard_encode.proofs.StepLemmas.{told_on}
use Rattle.group_verdicts.specs.declared.kept.Kept.{Kept}
use Rattle.group_verdicts.specs.declared.counts.Counts.{Counts}
use Rattle.group_verdicts.specs.Kept.{AreKept, IsKept}
use Rattle.group_verdicts.specs.Counts.{AreCounts, AreMembers, HasMembers, IsNext, TellsAt, TellsMember, TellsUpTo, more_than}
use Rattle.group_verdicts.proofs.KeptLemmas.{IfTransition, kept_more, kept_on}
use Rattle.group_verdicts.proofs.LineLemmas.{same_members}

-- Of an encoder that has gone on.

pub member_on : (old new : Encoding) (x : Member) (r : ℕ) → Keeps old new → TellsMember old x r → TellsMember new x r
member_on old new x r keeps told =
    subst (λ (k : GroundMachine). (m : meaning.Member) → MemberIs k.base.spec m x → Tells new (λ w. enabled (view k.base.spec w) m) r) (sym keeps.machine)
    (λ m is. told_on old new (λ w. enabled (view old.machine.base.spec w) m) r keeps (told m is))

up_to_on : (k : ℕ) (old new : Encoding) (x : Member) (r : ℕ) → Keeps old new → TellsUpTo k old x r → TellsUpTo k new x r
up_to_on k old new x r keeps told =
    subst (λ (m : GroundMachine). (g : Group) (place : ℕ) → IsMemberAt m.base.spec g place x → Tells new (more_than k (place + 1) m.base.spec g) r) (sym keeps.machine)
    (λ g place is. told_on old new (more_than k (place + 1) old.machine.base.spec g) r keeps (told g place is))

pub counts_on : (old new : Encoding) (counts : Counts) → Keeps old new → AreCounts old counts → AreCounts new counts
counts_on old new counts keeps are = record {
  enabled_is = kept_on TellsMember old new counts.enabled keeps (λ x r told. member_on old new x r keeps told) are.enabled_is;
  some_is = kept_on (TellsUpTo 0) old new counts.some keeps (λ x r told. up_to_on 0 old new x r keeps told) are.some_is;
  two_is = kept_on (TellsUpTo 1) old new counts.two keeps (λ x r told. up_to_on 1 old new x r keeps told) are.two_is;
}

pub is_on : (old new : Encoding) (x : Member) → Keeps old new → IsMember old.machine x → IsMember new.machine x
is_on old new x keeps is = subst (λ (m : GroundMachine). IsMember m x) (sym keeps.machine) is

pub next_on : (old new : Encoding) (group n : ℕ) (x : Member) → Keeps old new → IsNext old group n x → IsNext new group n x
next_on old new group n x keeps next = subst (λ (m : GroundMachine). (g : Group) → slice_get (groups m.base.spec) group ≡ Some g → IsMemberAt m.base.spec g n x) (sym keeps.machine) next

pub has_on : (old new : Encoding) (group many n : ℕ) → Keeps old new → n ≤ many → HasMembers old group many → HasMembers new group n
has_on old new group many n keeps less has =
    subst (λ (m : GroundMachine). (g : Group) → slice_get (groups m.base.spec) group ≡ Some g → n ≤ length (members m.base.spec g)) (sym keeps.machine)
    (λ g at. let all = has g at in omega (arith, less, all))

pub members_on : (old new : Encoding) (group many : ℕ) → Keeps old new → AreMembers old group many → AreMembers new group many
members_on old new group many keeps are = subst (λ (m : GroundMachine). (g : Group) → slice_get (groups m.base.spec) group ≡ Some g → many ≡ length (members m.base.spec g)) (sym keeps.machine) are

pub checked_on : (old new : Encoding) (m : GroundMachine) → m ≡ old.machine → StandsFor m → Keeps old new → IsChecked new.machine.base.spec
checked_on old new m same stands keeps = subst (λ (k : GroundMachine). IsChecked k.base.spec) (same ∙ sym keeps.machine) stands.grounded.checked

-- What is kept.

-- where a member is enabled is of it alone
pub of_member : (e : Encoding) (x : Member) (r : ℕ) → TellsMember e x r → IfTransition TellsMember e x r
of_member e (member.Transition k) r told = told
of_member e (member.SendCase k) r told = tt
of_member e (member.FunctionCase f k) r told = tt

-- the members up to a transition are the same in two groups, and so is what is told of them
up_to : (k : ℕ) (e : Encoding) (g : Group) (place : ℕ) (x : Member) (r : ℕ) → IsChecked e.machine.base.spec → IsMemberAt e.machine.base.spec g place x → Tells e (more_than k (place + 1) e.machine.base.spec g) r
    → IfTransition (TellsUpTo k) e x r
up_to k e g place (member.Transition j) r checked is told = λ h i other.
    let s = e.machine.base.spec in
    subst (λ (ms : List meaning.Member). Tells e (λ w. nat_lt k (length (filter (enabled (view s w)) ms))) r) (same_members s checked g h j place i is other) told
up_to k e g place (member.SendCase j) r checked is told = tt
up_to k e g place (member.FunctionCase f j) r checked is told = tt

pub up_to_kept : (k : ℕ) (e : Encoding) (old new : Kept) (group n : ℕ) (x : Member) (r : ℕ) → IsChecked e.machine.base.spec → group < length (groups e.machine.base.spec) → IsNext e group n x
    → TellsAt e group (more_than k (n + 1)) r → AreKept e (TellsUpTo k) old → IsKept old new x r → AreKept e (TellsUpTo k) new
up_to_kept k e old new group n x r checked less next told are kept =
    let there = within_get (groups e.machine.base.spec) group less in
    kept_more (TellsUpTo k) e old new x r are (up_to k e there.0 n x r checked (next there.0 there.1) (told there.0 there.1)) kept
