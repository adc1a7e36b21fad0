use Rattle.std.proofs.Common.{◌≡◌, map, take}
use Rattle.rsml_syntax.specs.text.Renaming.{rename}
use Rattle.rsml_syntax.proofs.renaming.each_renamed.Given as goal

abbrev pub invariant-loop-placed : goal.invariant-loop-placed
invariant-loop-placed l = l.renamed.items ≡ map (rename l.name) (take l.placed-index l.tokens)
