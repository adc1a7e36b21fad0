-- What is enabled in a world, over numbers.
use Rattle.std.specs.Prelude.{◌≡◌, ℕ, Bool, true, false, not, ◌&&◌, List, length, filter, Option, Some, None, slice_get, IsTrue}
use Rattle.std.specs.List.{list_any}
use Rattle.std.specs.Option.{option_map_or}
use Rattle.rsml_syntax.specs.declared.world.World.{World}
use Rattle.rsml_meaning.specs.Worlds.{IsWorld}
use Rattle.rsml_ground.specs.declared.definitions.Definition.{Definition}
use Rattle.rsml_ground.specs.declared.definitions.Definition.TheVariants as definition
use Rattle.rsml_ground.specs.Truths.{is_active, guard_truth, truths_in}
use Rattle.ground_members.specs.declared.transitions.GroundTransition.{GroundTransition}
use Rattle.ground_members.specs.declared.send_cases.GroundSendCase.{GroundSendCase}
use Rattle.ground_groups.specs.declared.group.GroupKind.{GroupKind}
use Rattle.ground_groups.specs.declared.group.GroupKind.TheVariants as kinds
use Rattle.ground_groups.specs.declared.group.Member.{Member}
use Rattle.ground_groups.specs.declared.group.Member.TheVariants as members
use Rattle.elaborate.specs.Machine.{GroundMachine}

-- a transition has an active source and a true guard
abbrev pub is_enabled : GroundMachine → World → GroundTransition → Bool
is_enabled m w x = is_active m.base.spec w x.source && guard_truth (truths_in m.base w) x.guard

-- a case of a send has a true guard
abbrev pub is_sending : GroundMachine → World → GroundSendCase → Bool
is_sending m w x = guard_truth (truths_in m.base w) x.guard

-- the case at a place of a function has a true guard
abbrev pub is_true_case : GroundMachine → World → Option Definition → ℕ → Bool
is_true_case m w (Some (definition.Function cases)) place = option_map_or (λ c. guard_truth (truths_in m.base w) c.guard) (slice_get cases place) false
is_true_case m w _ place = false

-- the member of these numbers is enabled
abbrev pub enabled_at : GroundMachine → World → Member → Bool
enabled_at m w (members.Transition k) = option_map_or (is_enabled m w) (slice_get m.transitions k) false
enabled_at m w (members.SendCase k) = option_map_or (is_sending m w) (slice_get m.send_cases k) false
enabled_at m w (members.FunctionCase f place) = is_true_case m w (slice_get m.base.definitions f) place

-- the condition of a group, with the states below it that react too: its state is active, and none of those
abbrev pub meets_at : GroundMachine → World → GroupKind → List ℕ → Bool
meets_at m w (kinds.State state event) below = is_active m.base.spec w state && not (list_any (is_active m.base.spec w) below)
meets_at m w (kinds.Send send event) below = true
meets_at m w (kinds.Function function) below = true

-- how many of the members are enabled
abbrev pub count_at : GroundMachine → World → List Member → ℕ
count_at m w xs = length (filter (enabled_at m w) xs)

-- in every world that meets the condition exactly one of the members is enabled
abbrev pub SoundAt : GroundMachine → GroupKind → List ℕ → List Member → Type 0
SoundAt m kind below xs = (w : World) → IsWorld m.base.spec w → IsTrue (meets_at m w kind below) → count_at m w xs ≡ 1
