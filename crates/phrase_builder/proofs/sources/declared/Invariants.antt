use Rattle.std.proofs.Common.{◌≡◌, flat_map, take}
use Rattle.rsml_meaning.specs.Instances.{globals_of}
use Rattle.rsml_meaning.specs.Interfaces.{definitions_of}
use Rattle.phrase_builder.specs.Sources.{all_defined_by}
use Rattle.phrase_builder.proofs.sources.declared.Given as goal

abbrev pub invariant-loop-decl : goal.invariant-loop-decl
invariant-loop-decl l = all_defined_by l.sources.items ≡ flat_map (definitions_of (globals_of l.lookup)) (take l.decl-index l.decls)
