use Rattle.std.proofs.Common.{map, take}
use Rattle.std.specs.List.{AllZip}
use Rattle.rsml_meaning.specs.Instances.{globals_of}
use Rattle.rsml_meaning.specs.Truth.{within, instance}
use Rattle.ground_members.specs.Members.{IsEvent}
use Rattle.ground_members.proofs.events.event_numbers.Given as goal

abbrev pub invariant-loop-mention : goal.invariant-loop-mention
invariant-loop-mention l = AllZip (IsEvent l.lookup) (map (instance (globals_of l.lookup) (within l.this)) (take l.mention-index l.mentions)) l.numbers
