-- Groups, lines, conditions and verdicts, computed over all worlds.
use Rattle.std.specs.Prelude.{◌≡◌, refl, ℕ, true, false, List, [], ◌∷◌, map, length, pos, codes}
use Rattle.std.specs.Fmt.{digits}
use Rattle.rsml_syntax.specs.declared.syntax.Spec.{Spec}
use Rattle.rsml_meaning.specs.Words.{Instance, at, Path}
use Rattle.rsml_syntax.specs.declared.world.World.{World}
use Rattle.rsml_meaning.specs.Truth.{view}
use Rattle.rsml_meaning.specs.Interfaces.{FunctionInstance, functions}
use Rattle.rsml_meaning.specs.Transitions.{line}
use Rattle.rsml_meaning.specs.Groups.{Group, state, function, groups, meets, enabled_count}
use Rattle.rsml_meaning.specs.Findings.{IsVerdict, sound, none, two}
use Rattle.rsml_meaning.specs.Texts.{Text, label}
use Rattle.rsml_meaning.specs.Report.{finding, group_text}
use Rattle.rsml_meaning.proofs.VerdictLines.{verdict_is}
use Rattle.rsml_meaning.proofs.examples.Worlds.{world, state_at}
use Rattle.rsml_meaning.proofs.values.Deep.{deep}
use Rattle.rsml_meaning.proofs.values.Grades.{grades}
use Rattle.rsml_meaning.proofs.values.Lamp.{lamp}
use Rattle.rsml_meaning.proofs.values.LampShort.{lamp_short}
use Rattle.rsml_meaning.proofs.values.Panel.{panel}
use Rattle.rsml_meaning.proofs.values.Top.{top}
use Rattle.rsml_meaning.proofs.values.Tracks.{tracks}

abbrev pub tick : Instance
tick = at (codes "Tick") 0

abbrev lamp_on : Path
lamp_on = state_at ("Lamp" ∷ "On" ∷ [])

abbrev a_b : Path
a_b = state_at ("Top" ∷ "A" ∷ "B" ∷ [])

abbrev group_texts : Spec → List Text
group_texts s = map group_text (groups s)

abbrev line_labels : Spec → Path → List Text
line_labels s path = map label (line s tick path)

the_lamp_has_two_groups : group_texts lamp ≡ map codes ("Lamp.Off on Tick" ∷ "Lamp.On on Tick" ∷ [])
the_lamp_has_two_groups = refl

groups_stand_by_state_and_then_by_event : group_texts tracks ≡ map codes ("Sky.Other[1].Far on Seen[1]" ∷ "Sky.Other[1].Near on Seen[1]"
    ∷ "Sky.Other[2].Far on Seen[2]" ∷ "Sky.Other[2].Near on Seen[2]" ∷ "Sky.Other[3].Far on Seen[3]" ∷ "Sky.Other[3].Near on Seen[3]" ∷ [])
unfolding digits
groups_stand_by_state_and_then_by_event = refl

a_send_has_a_group_for_each_event : group_texts panel ≡ map codes ("send Light on Tick" ∷ [])
a_send_has_a_group_for_each_event = refl

-- of states, of two sends and of two functions, arrays once for each index
deep_has_14_groups : length (groups deep) ≡ 14
deep_has_14_groups = refl

the_line_of_a_lamp_that_is_on : line_labels lamp lamp_on ≡ map codes ("Lamp 3 move On -> Off" ∷ "Lamp 4 stay On" ∷ [])
unfolding digits
the_line_of_a_lamp_that_is_on = refl

-- The lamp without its last transition.

abbrev on_and_up : Group
on_and_up = state lamp_on tick

the_least_failing_world_is_found : IsVerdict lamp_short on_and_up (none (world (1 ∷ []) (pos 1 ∷ [])))
the_least_failing_world_is_found = verdict_is lamp_short on_and_up (none (world (1 ∷ []) (pos 1 ∷ []))) refl

the_finding_is_printed : finding lamp_short (on_and_up, none (world (1 ∷ []) (pos 1 ∷ []))) ≡ codes "none Lamp.On on Tick\n  in Lamp.On | T\n  Lever = Up | T\n  confirmed\n"
the_finding_is_printed = refl

-- An ancestor and its child.

a_line_has_the_transitions_of_the_ancestors : line_labels top a_b ≡ map codes ("Top 1 move A -> C" ∷ "Top.A 1 stay B" ∷ [])
unfolding digits
a_line_has_the_transitions_of_the_ancestors = refl

-- A is active and so is B inside it, from which there is a transition on the event
the_condition_of_an_ancestor_fails_where_a_state_inside_reacts : meets top (view top (world (0 ∷ 0 ∷ []) (pos 0 ∷ []))) (state (state_at ("Top" ∷ "A" ∷ [])) tick) ≡ false
the_condition_of_an_ancestor_fails_where_a_state_inside_reacts = refl

the_condition_of_the_lowest_active_state_holds : meets top (view top (world (0 ∷ 0 ∷ []) (pos 0 ∷ []))) (state a_b tick) ≡ true
the_condition_of_the_lowest_active_state_holds = refl

the_line_of_an_ancestor_and_its_child_is_sound : IsVerdict top (state a_b tick) sound
the_line_of_an_ancestor_and_its_child_is_sound = verdict_is top (state a_b tick) sound refl

-- A function with two cases, of which both are true from 500 to 999.

abbrev alt : ℕ → World
alt n = world (0 ∷ []) (pos n ∷ [])

abbrev first_function : List FunctionInstance → Group
first_function [] = function (record { function = at [] 0; cases = [] })
first_function (f ∷ fs) = function f

abbrev level : Group
level = first_function (functions grades)

true_cases_are_counted : map (λ n. enabled_count grades level (view grades (alt n))) (499 ∷ 500 ∷ 999 ∷ 1000 ∷ []) ≡ 1 ∷ 2 ∷ 2 ∷ 1 ∷ []
true_cases_are_counted = refl

two_true_cases_are_printed : finding grades (level, two (alt 500)) ≡ codes "two function Level\n  Alt = 500 | T\n  enabled case 1\n  enabled case 2\n  confirmed\n"
unfolding digits
two_true_cases_are_printed = refl
