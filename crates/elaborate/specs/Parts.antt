-- The parts of a machine.
use Rattle.std.specs.Prelude.{◌≡◌, ℕ, Bool, List, length, Some, slice_get}
use Rattle.rsml_syntax.specs.declared.syntax.Spec.{Spec}
use Rattle.rsml_meaning.specs.Words.{Instance}
use Rattle.rsml_meaning.specs.Instances.{events}
use Rattle.rsml_meaning.specs.Chains.{is_external}

-- for each event whether it is external
abbrev pub AreExternal : Spec → List Bool → Type 0
AreExternal s marks = (k : ℕ) (e : Instance) → slice_get (events s) k ≡ Some e → slice_get marks k ≡ Some (is_external s e)

-- So many events are marked, each where it is external.
pub record AreReceives (s : Spec) (count : ℕ) (marks : List Bool) : Type 0 where
  pub counted : count ≡ length (events s)
  pub long : length marks ≡ count
  pub marks_are : AreExternal s marks
