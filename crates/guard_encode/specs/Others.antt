-- Diagrams of what another specification with the same worlds says.
use Rattle.std.specs.Prelude.{ℕ, Bool, false, ◌&&◌, List, length, Option, None, Some, slice_get, slice_index_or}
use Rattle.std.specs.Option.{option_map, option_map_or}
use Rattle.rsml_ground.specs.declared.definitions.Definition.{Definition}
use Rattle.rsml_ground.specs.declared.definitions.Definition.TheVariants as definition
use Rattle.rsml_ground.specs.declared.definitions.GroundGuard.{GroundGuard}
use Rattle.rsml_ground.specs.Truths.{Grounded, guard_truth}
use Rattle.ground_groups.specs.declared.group.Member.{Member}
use Rattle.ground_groups.specs.declared.group.Member.TheVariants as members
use Rattle.elaborate.specs.Machine.{GroundMachine}
use Rattle.guard_encode.specs.Phrases.{ArePhrases}
use Rattle.guard_encode.specs.Encoding.{Encoding, worlds_of}

-- the diagrams of all phrases of a specification, by an encoder
abbrev pub TellPhrases : Encoding → Grounded → List ℕ → Type 0
TellPhrases e g diagrams = ArePhrases e.diagram (worlds_of e) g (length g.phrases) diagrams

-- the guard of the case at a place of a function; a macro has no cases
abbrev pub case_guard : Option Definition → ℕ → Option GroundGuard
case_guard (Some (definition.Function cases)) place = option_map (λ c. c.guard) (slice_get cases place)
case_guard _ place = None

-- whether a member of a machine is enabled, by which of its states are active and which of its phrases are true
abbrev pub enabled_by : GroundMachine → List Bool → List Bool → Member → Bool
enabled_by m active truths (members.Transition k) =
    option_map_or (λ x. slice_index_or active x.source false && guard_truth truths x.guard) (slice_get m.transitions k) false
enabled_by m active truths (members.SendCase k) = option_map_or (λ x. guard_truth truths x.guard) (slice_get m.send_cases k) false
enabled_by m active truths (members.FunctionCase f place) = option_map_or (guard_truth truths) (case_guard (slice_get m.base.definitions f) place) false
