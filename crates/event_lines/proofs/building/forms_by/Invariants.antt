use Rattle.std.proofs.Common.{◌≡◌, ◌+◌, ◌++◌, map, length, drop}
use Rattle.std.specs.Option.{option_map}
use Rattle.rsml_meaning.specs.Words.{Each}
use Rattle.event_lines.specs.helpers.Declared.{types_of}
use Rattle.event_lines.specs.helpers.Forms.{written, declared_from, IsWithin}
use Rattle.event_lines.proofs.building.forms_by.Given as goal

abbrev pub invariant-loop-decl : goal.invariant-loop-decl
invariant-loop-decl l = record {
  are : map (option_map (written (types_of l.owners))) l.forms.items ++ declared_from l.globals l.first (drop l.decl-index l.decls) ≡ declared_from l.globals 0 l.decls;
  within : Each (IsWithin (length l.owners + 1)) l.forms.items;
}
