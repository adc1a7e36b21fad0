-- Runs of event files and their traces, byte for byte.
use Rattle.std.specs.Prelude.{refl, codes}
use Rattle.std.specs.Fmt.{digits}
use Rattle.std.specs.Str.{is_utf8, chars}
use Rattle.rsml_meaning.proofs.Computed.{HasTrace}
use Rattle.rsml_meaning.proofs.Exists.{traced}
use Rattle.rsml_meaning.proofs.values.Buses.{buses}
use Rattle.rsml_meaning.proofs.values.Fork.{fork}
use Rattle.rsml_meaning.proofs.values.Lamp.{lamp}
use Rattle.rsml_meaning.proofs.values.Nest.{nest}
use Rattle.rsml_meaning.proofs.values.Pair.{pair}
use Rattle.rsml_meaning.proofs.values.Panel.{panel}
use Rattle.rsml_meaning.proofs.values.Rise.{rise}
use Rattle.rsml_meaning.proofs.values.Tracks.{tracks}

the_lamp_is_switched_on : HasTrace lamp (codes "Set Lever=Up\nSet Lever=Up\n")
    (codes "event 1 Set\n  round 1 Tick\n    take Lamp 1 move Off -> On\nevent 2 Set\n  round 1 Tick\n    take Lamp 4 stay On\nend 2\n")
unfolding digits is_utf8 chars lib.Utf8.encode
the_lamp_is_switched_on = traced _ _ _ refl refl

-- a comment, an empty line, CR before LF, and no LF at the end
skipped_lines_and_carriage_returns : HasTrace lamp (codes "# start\r\n\r\nSet Lever=Up\r\nSet Lever=Down")
    (codes "event 1 Set\n  round 1 Tick\n    take Lamp 1 move Off -> On\nevent 2 Set\n  round 1 Tick\n    take Lamp 3 move On -> Off\nend 2\n")
unfolding digits is_utf8 chars lib.Utf8.encode
skipped_lines_and_carriage_returns = traced _ _ _ refl refl

both_regions_read_the_world_before_the_micro_step : HasTrace pair (codes "Beat\n")
    (codes "event 1 Beat\n  round 1 Tick\n    take Pair.L 1 move L0 -> L1\n    take Pair.R 1 move R0 -> R1\nend 1\n")
unfolding digits is_utf8 chars lib.Utf8.encode
both_regions_read_the_world_before_the_micro_step = traced _ _ _ refl refl

a_state_is_entered_again_by_default_or_at_its_target : HasTrace nest (codes "Push\nClear\nPush\nClear\nLeap\nPush\n")
    (codes "event 1 Push\n  round 1 Go\n    take Top.A 1 move X -> Y\nevent 2 Clear\n  round 1 Reset\n    take Top 1 move A -> A\nevent 3 Push\n  round 1 Go\n    take Top.A 1 move X -> Y\nevent 4 Clear\n  round 1 Reset\n    take Top 1 move A -> A\nevent 5 Leap\n  round 1 Jump\n    take Top 2 move A -> A.Y\nevent 6 Push\n  round 1 Go\n    take Top.A 2 stay Y\nend 6\n")
unfolding digits is_utf8 chars lib.Utf8.encode
a_state_is_entered_again_by_default_or_at_its_target = traced _ _ _ refl refl

a_bus_leads_from_each_member : HasTrace buses (codes "Set Lever=Up\nSet Lever=Up\n")
    (codes "event 1 Set\n  round 1 Tick\n    take Top 1 move A -> B\nevent 2 Set\n  round 1 Tick\n    take Top 1 move B -> B\nend 2\n")
unfolding digits is_utf8 chars lib.Utf8.encode
a_bus_leads_from_each_member = traced _ _ _ refl refl

this_is_the_index_of_the_array : HasTrace tracks (codes "Track[2] Other_Alt=300\n")
    (codes "event 1 Track[2]\n  round 1 Seen[2]\n    take Sky.Other[2] 1 move Far -> Near\nend 1\n")
unfolding digits is_utf8 chars lib.Utf8.encode
this_is_the_index_of_the_array = traced _ _ _ refl refl

raised_events_make_further_rounds : HasTrace fork (codes "Kick\n")
    (codes "event 1 Kick\n  round 1 Go\n    take Fork.L 1 stay P\n    take Fork.R 1 stay Q\n  round 2 E G\n    take Fork.L 2 stay P\n    take Fork.R 2 stay Q\n  round 3 Done\nend 1\n")
unfolding digits is_utf8 chars lib.Utf8.encode
raised_events_make_further_rounds = traced _ _ _ refl refl

a_quiet_case_writes_no_line : HasTrace panel (codes "Set Lever=Up\nSet Lever=Down\n")
    (codes "event 1 Set\n  round 1 Tick\n    send Light Colour=Up\nevent 2 Set\n  round 1 Tick\nend 2\n")
unfolding digits is_utf8 chars lib.Utf8.encode
a_quiet_case_writes_no_line = traced _ _ _ refl refl

previous_is_the_number_before_the_event : HasTrace rise (codes "Set Alt=10\nSet Alt=10\nSet Alt=30\n")
    (codes "event 1 Set\n  round 1 Tick\n    take Rise 1 stay Low\nevent 2 Set\n  round 1 Tick\n    take Rise 2 stay Low\nevent 3 Set\n  round 1 Tick\n    take Rise 1 stay Low\nend 3\n")
unfolding digits is_utf8 chars lib.Utf8.encode
previous_is_the_number_before_the_event = traced _ _ _ refl refl
