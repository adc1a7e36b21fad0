-- What is seen of an owner's tables and sums, one after another.
use Rattle.std.specs.Prelude.{Bool, true, false, not, ◌&&◌, ◌||◌, List, ◌++◌}
use Rattle.std.specs.List.{list_any, list_all}
use Rattle.rsml_syntax.specs.declared.syntax.Guard.{Guard}
use Rattle.rsml_syntax.specs.declared.syntax.Sum.{Sum}
use Rattle.rsml_syntax.specs.text.Names.{Name}
use Rattle.rsml_syntax.specs.rules.Globals.{Globals}
use Rattle.rsml_syntax.specs.rules.Breaches.{Breach, breach}
use Rattle.rsml_syntax.specs.rules.Kinds.{has_kind}
use Rattle.rsml_syntax.specs.rules.Owners.{guard_kinds_match, guard_is_table, guard_is_long, is_long}
use Rattle.rsml_rules.specs.declared.breaches.owner.Owner.{Owner}

-- an owner without tables and sums
abbrev pub bare : Owner
bare = record { kinds_match = true; are_tables = true; is_long = false }

-- an owner with these guards more, and these sums beside them
abbrev pub with_all : Globals → Owner → List Guard → List Sum → Owner
with_all g o guards sums = record {
  kinds_match = o.kinds_match && (list_all (guard_kinds_match g) guards && list_all (has_kind g) sums);
  are_tables = o.are_tables && list_all guard_is_table guards;
  is_long = o.is_long || (list_any guard_is_long guards || list_any is_long sums);
}

-- S7, S8 and S16 at its name
abbrev pub shown : Name → Owner → List Breach
shown name o = breach 7 name (not o.kinds_match) ++ (breach 8 name (not o.are_tables) ++ breach 16 name o.is_long)
