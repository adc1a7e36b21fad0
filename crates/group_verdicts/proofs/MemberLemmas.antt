-- A member more of a group.
use Rattle.std.proofs.Common.{◌≡◌, ℕ, ◌+◌, ◌-◌, ◌<◌, ◌≤◌, Bool, false, if◌then◌else◌, ◌||◌, nat_lt, length, Some, slice_get, sym, ap, subst, arith}
use Rattle.rsml_syntax.specs.declared.world.World.{World}
use Rattle.rsml_meaning.specs.Truth.{view}
use Rattle.rsml_meaning.specs.Groups.{Group, groups, members, enabled}
use Rattle.ground_groups.specs.declared.group.Member.{Member}
use Rattle.elaborate.specs.Machine.{GroundMachine}
use Rattle.guard_encode.specs.Encoding.{Encoding, Keeps, Tells}
use Rattle.group_verdicts.specs.Counts.{AreMembers, HasMembers, IsNext, TellsAt, TellsMember, TellsUpTo, has_more, more_than}
use Rattle.group_verdicts.proofs.AtLemmas.{told_as}
use Rattle.group_verdicts.proofs.CountLemmas.{all_passing, none_above, some_more, two_more}

-- r tells where one of the truths that two others tell is true, or where both are
abbrev pub TellsOr : Encoding → Encoding → ℕ → ℕ → ℕ → Type 0
TellsOr old new f h r = (one other : World → Bool) → Tells old one f → Tells old other h → Tells new (λ w. one w || other w) r

-- r tells the second of three truths where the first is true, and else the third
abbrev pub TellsIte : Encoding → Encoding → ℕ → ℕ → ℕ → ℕ → Type 0
TellsIte old new f g h r = (condition one other : World → Bool) → Tells old condition f → Tells old one g → Tells old other h → Tells new (λ w. if condition w then one w else other w) r

-- one or more are enabled where this was so, or the new one is
pub some_next : (old new : Encoding) (group n : ℕ) (x : Member) (before this r : ℕ) → Keeps old new → TellsOr old new before this r → IsNext old group n x → TellsMember old x this
    → TellsAt old group (more_than 0 n) before → TellsAt new group (more_than 0 (n + 1)) r
some_next old new group n x before this r keeps made next told some =
    subst (λ (m : GroundMachine). (g : Group) → slice_get (groups m.base.spec) group ≡ Some g → Tells new (more_than 0 (n + 1) m.base.spec g) r) (sym keeps.machine)
    (λ g at.
    let s = old.machine.base.spec in
    let is = next g at in
    subst (λ (truth : World → Bool). Tells new truth r) (λ i w. some_more (enabled (view s w)) (members s g) n is.0 is.1 i)
    (made (more_than 0 n s g) (λ w. enabled (view s w) is.0) (some g at) (told is.0 is.2)))

-- two or more are enabled where one was, if the new one is, and else where two were
pub two_next : (old new : Encoding) (group n : ℕ) (x : Member) (some two this r : ℕ) → Keeps old new → TellsIte old new this some two r → IsNext old group n x → TellsMember old x this
    → TellsAt old group (more_than 0 n) some → TellsAt old group (more_than 1 n) two → TellsAt new group (more_than 1 (n + 1)) r
two_next old new group n x some two this r keeps made next told some_is two_is =
    subst (λ (m : GroundMachine). (g : Group) → slice_get (groups m.base.spec) group ≡ Some g → Tells new (more_than 1 (n + 1) m.base.spec g) r) (sym keeps.machine)
    (λ g at.
    let s = old.machine.base.spec in
    let is = next g at in
    subst (λ (truth : World → Bool). Tells new truth r) (λ i w. two_more (enabled (view s w)) (members s g) n is.0 is.1 i)
    (made (λ w. enabled (view s w) is.0) (more_than 0 n s g) (more_than 1 n s g) (told is.0 is.2) (some_is g at) (two_is g at)))

-- what is known up to a member
pub known_to : (k : ℕ) (e : Encoding) (group n : ℕ) (x : Member) (r : ℕ) → 0 < n → IsNext e group (n - 1) x → TellsUpTo k e x r → TellsAt e group (more_than k n) r
known_to k e group n x r some next told = λ g at. subst (λ m. Tells e (more_than k m e.machine.base.spec g) r) (back n some) (told g (n - 1) (next g at))
  where
    back : (m : ℕ) → 0 < m → m - 1 + 1 ≡ m
    back m h = omega arith

-- of no members
pub no_members : (k : ℕ) (e : Encoding) (group r : ℕ) → Tells e (λ w. false) r → TellsAt e group (more_than k 0) r
no_members k e group r told = λ g at. subst (λ (b : Bool). Tells e (λ w. b) r) (none_above k) told

-- of all members
pub all_told : (k : ℕ) (e : Encoding) (group many n r : ℕ) → AreMembers e group many → many ≤ n → TellsAt e group (more_than k n) r → TellsAt e group (has_more k) r
all_told k e group many n r are past told =
    told_as e group r (more_than k n) (has_more k)
    (λ g at w.
    let s = e.machine.base.spec in
    let all = are g at in
    let less : length (members e.machine.base.spec g) ≤ n = omega (arith, all, past) in
    ap (λ j. nat_lt k j) (all_passing (enabled (view s w)) (members s g) n less))
    told

pub has_all : (e : Encoding) (group many : ℕ) → AreMembers e group many → HasMembers e group many
has_all e group many are = λ g at. let all = are g at in omega (arith, all)
