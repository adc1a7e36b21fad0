-- Checked specifications: what is required of one before anything is asked about what it means.
use Rattle.rsml_syntax.specs.declared.syntax.Spec.{Spec}
use Rattle.rsml_syntax.specs.grammar.WellFormed.{WellFormed}
use Rattle.rsml_syntax.specs.limits.Limits.{Keeps}

-- The grammar can write it, and it keeps all rules and limits.
pub record IsChecked (s : Spec) : Type 0 where
  pub well_formed : WellFormed s
  pub keeps : Keeps s
