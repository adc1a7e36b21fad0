use Rattle.std.proofs.Common.{◌++◌, map}
use Rattle.rsml_syntax.specs.text.Names.{Name}
use Rattle.rsml_syntax.specs.rules.Globals.{up_to}
use Rattle.rsml_meaning.specs.Interfaces.{new_receive}
use Rattle.interfaces.specs.Kept.{AreKept}
use Rattle.interfaces.proofs.table.Table.add_array.Given as goal

abbrev pub invariant-loop-before : goal.invariant-loop-before
invariant-loop-before l = (xs : _) (name : Name) → AreKept l.names l.fn.self.fields.items l.fn.self.receives.items xs
    → AreKept l.names l.self.fields.items l.self.receives.items (xs ++ map (new_receive l.globals name l.inputs l.raised) (up_to l.before))
