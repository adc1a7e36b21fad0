use Rattle.std.proofs.Common.{◌≡◌, ◌++◌, map}
use Rattle.rsml_syntax.specs.rules.Globals.{up_to}
use Rattle.phrase_builder.specs.Sources.{instance_of, all_defined_by}
use Rattle.phrase_builder.proofs.sources.add_array.Given as goal

abbrev pub invariant-loop-before : goal.invariant-loop-before
invariant-loop-before l = all_defined_by l.sources.items ≡ all_defined_by l.fn.sources.items ++ map (instance_of l.name l.content) (up_to l.before)
