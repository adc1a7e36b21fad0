use Rattle.std.proofs.Common.{◌≡◌, map, take}
use Rattle.rsml_syntax.specs.rules.Globals.{Known}
use Rattle.rsml_syntax.specs.rules.Kinds.{cases_of}
use Rattle.rsml_rules.specs.breaches.Settings.{first_of, first_kind}
use Rattle.rsml_rules.proofs.breaches.kinds.first_kinds.Given as goal

abbrev pub invariant-loop-known : goal.invariant-loop-known
invariant-loop-known l = map first_of l.kinds.items ≡ map (λ (k : Known). first_kind l.globals (cases_of k)) (take l.known-index l.globals.known)
