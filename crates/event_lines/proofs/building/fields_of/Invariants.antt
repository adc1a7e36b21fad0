use Rattle.std.proofs.Common.{◌≡◌, ◌+◌, map, length, take}
use Rattle.rsml_syntax.specs.rules.Globals.{globals}
use Rattle.event_lines.specs.helpers.Declared.{types_of}
use Rattle.event_lines.specs.helpers.Forms.{field_of, listed, AreWithin}
use Rattle.event_lines.proofs.building.fields_of.Given as goal

abbrev pub invariant-loop-input : goal.invariant-loop-input
invariant-loop-input l = record {
  are : map (field_of (types_of l.owners)) l.fields.items ≡ map (listed (globals l.owners)) (take l.input-index l.inputs);
  within : AreWithin (length l.owners + 1) l.fields.items;
}
