-- A table of answers.
use Rattle.std.specs.Prelude.{ℕ, List, Option}
use Rattle.spelled_numbers.specs.declared.kept.Kept.{Kept}

-- how many questions were asked, and the slots
pub record Table : Type 0 where
  pub question : ℕ
  pub slots : List (Option Kept)
