-- Which value of a function is sought.
use Rattle.std.specs.Prelude.{Bool, true, ℤ}
use Rattle.rsml_syntax.specs.rules.Relations.{compare}
use Rattle.macros.specs.declared.sought.Sought.{Sought}
use Rattle.macros.specs.declared.sought.Sought.TheVariants as sought

-- a value is sought: any is, or it stands in the relation to the constant
abbrev pub is_sought : Sought → ℤ → Bool
is_sought sought.Any n = true
is_sought (sought.Compared relation constant) n = compare relation n constant
