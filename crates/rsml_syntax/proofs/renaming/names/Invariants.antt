use Rattle.std.proofs.Common.{◌≡◌, take}
use Rattle.std.specs.List.{list_any}
use Rattle.rsml_syntax.specs.text.Names.{Name, same}
use Rattle.rsml_syntax.specs.text.Renaming.{names_of}
use Rattle.rsml_syntax.proofs.renaming.names.Given as goal

abbrev pub invariant-loop-placed : goal.invariant-loop-placed
invariant-loop-placed l = (name : Name) → list_any (λ x. same name x.now) l.names.keys ≡ list_any (same name) (names_of (take l.placed-index l.tokens))
