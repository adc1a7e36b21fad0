use Rattle.std.proofs.Common.{◌≡◌, map, take}
use Rattle.rsml_meaning.specs.Instances.{globals_of}
use Rattle.rsml_meaning.specs.Truth.{instance}
use Rattle.phrase_builder.proofs.lookup.Lookup.steps.Given as goal

abbrev pub invariant-loop-mention : goal.invariant-loop-mention
invariant-loop-mention l = l.steps ≡ map (instance (globals_of l.self) l.here) (take l.mention-index l.path)
