-- Diagrams of phrases.
use Rattle.std.specs.Prelude.{◌≡◌, ℕ, Bool, ◌&&◌, List, [], All, fold, length, take, Some, slice_get, ℤ}
use Rattle.bdd_core.specs.Diagram.{Diagram, IsRef, meaning}
use Rattle.rsml_meaning.specs.Instances.{states}
use Rattle.rsml_ground.specs.declared.phrases.GroundPhrase.{GroundPhrase}
use Rattle.rsml_syntax.specs.rules.Relations.{compare}
use Rattle.rsml_ground.specs.declared.definitions.GroundCase.{GroundCase}
use Rattle.rsml_ground.specs.Truths.{Grounded, is_active, guard_truth, phrase_truth, sum_number, with_next}
use Rattle.phrase_diagrams.specs.Diagrams.{truths_at}
use Rattle.guard_encode.specs.declared.test.Test.{Test}
use Rattle.keyed_levels.specs.Keyed.{KeyedWorlds, Lawful, Tells, world_at}

-- the diagrams of all states
pub record AreActive (d : Diagram) (k : KeyedWorlds) (active : List ℕ) : Type 0 where
  pub many : length active ≡ length (states k.base.spec)
  pub each : (node f : ℕ) → slice_get active node ≡ Some f → Tells d k (λ w. is_active k.base.spec w node) f

-- the diagrams of the first n phrases of a specification: at lawful values they have the truths of these phrases in the world that
-- is spelled
pub record ArePhrases (d : Diagram) (k : KeyedWorlds) (g : Grounded) (n : ℕ) (diagrams : List ℕ) : Type 0 where
  pub many : length diagrams ≡ n
  pub refs : All (IsRef d) diagrams
  pub truths : (values : ℕ → Bool) → Lawful k values
      → truths_at d diagrams values ≡ fold (with_next g (world_at k values)) [] (take n g.phrases)

-- r tells the truth of a phrase of a specification at lawful values, by the truths of those whose diagrams are given
pub record TellsNext (old new : Diagram) (k : KeyedWorlds) (g : Grounded) (diagrams : List ℕ) (p : GroundPhrase) (r : ℕ) : Type 0 where
  pub is_ref : IsRef new r
  pub means : (values : ℕ → Bool) → Lawful k values → meaning new r values ≡ phrase_truth g (world_at k values) (truths_at old diagrams values) p

-- a case has a true guard, and a value that passes the test
abbrev pub case_holds : Test → List ℤ → List Bool → GroundCase → Bool
case_holds test cells truths c = guard_truth truths c.guard && compare test.relation (sum_number cells c.value) test.number
