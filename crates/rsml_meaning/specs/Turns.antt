-- Transitions that are entered one after another.
use Rattle.std.specs.Prelude.{ℕ, List, Some, None, IsTrue, fold}
use Rattle.rsml_syntax.specs.declared.syntax.Spec.{Spec}
use Rattle.rsml_syntax.specs.declared.world.World.{World}
use Rattle.rsml_meaning.specs.Words.{IsOne}
use Rattle.rsml_meaning.specs.Active.{active, enter}
use Rattle.rsml_meaning.specs.Transitions.{TransitionInstance, transitions}

-- A transition of the specification with an active source.
pub record IsActiveTransition (s : Spec) (w : World) (t : TransitionInstance) : Type 0 where
  pub among : IsOne t (transitions s)
  pub active : IsTrue (active s w t.source)

-- the children after one transition; a stay leaves them
abbrev pub after_one : Spec → List ℕ → TransitionInstance → List ℕ
after_one s choices t = elim t.target [ None ↦ choices | Some target ↦ enter s t.component target choices ]

-- the children after transitions that are entered one after another
abbrev pub after_all : Spec → List TransitionInstance → List ℕ → List ℕ
after_all s ts choices = fold (after_one s) choices ts
