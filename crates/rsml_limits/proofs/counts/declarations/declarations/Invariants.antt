use Rattle.std.proofs.Common.{◌≡◌, take}
use Rattle.rsml_syntax.specs.limits.Limits.{adds, shown}
use Rattle.rsml_syntax.specs.grammar.Parts.{Declared}
use Rattle.rsml_limits.specs.counts.Counting.{counted}
use Rattle.rsml_limits.proofs.counts.declarations.declarations.Given as goal

abbrev pub invariant-loop-decl : goal.invariant-loop-decl
invariant-loop-decl l = l.count ≡ shown (adds (λ d. counted l.counted l.names (Declared 0 d)) (take l.decl-index l.decls))
