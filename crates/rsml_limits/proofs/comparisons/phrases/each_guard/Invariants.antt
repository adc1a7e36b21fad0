use Rattle.std.proofs.Common.{◌≡◌, drop}
use Rattle.std.specs.Prelude.{flat_map}
use Rattle.rsml_syntax.specs.limits.Comparisons.{rows_comparisons}
use Rattle.rsml_syntax.specs.grammar.Written.{rows_of}
use Rattle.rsml_limits.specs.comparisons.Searched.{searched}
use Rattle.rsml_limits.proofs.comparisons.phrases.each_guard.Given as goal

abbrev pub invariant-loop-each : goal.invariant-loop-each
invariant-loop-each g l =
    searched l.search (λ h. rows_comparisons h (flat_map (λ x. rows_of (g.G.Guarded.guard_of x)) (drop l.each-index l.guarded)) l.this)
    ≡ searched l.fn.search (λ h. rows_comparisons h (flat_map (λ x. rows_of (g.G.Guarded.guard_of x)) l.guarded) l.this)
