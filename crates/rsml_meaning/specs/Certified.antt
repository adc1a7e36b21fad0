-- When a specification is certified.
use Rattle.std.specs.Prelude.{ℕ}
use Rattle.rsml_syntax.specs.declared.syntax.Spec.{Spec}
use Rattle.rsml_meaning.specs.Words.{Instance, Each}
use Rattle.rsml_meaning.specs.Groups.{Sound, groups}
use Rattle.rsml_meaning.specs.Chains.{Loops, Clash}

-- All groups are sound, no event loops, and there is no clash.
pub record Certified (s : Spec) : Type 0 where
  pub sound : Each (Sound s) (groups s)
  pub no_loop : (e : Instance) → Loops s e → ⊥
  pub no_clash : (x : Instance) (n : ℕ) (e f : Instance) → Clash s x n e f → ⊥
