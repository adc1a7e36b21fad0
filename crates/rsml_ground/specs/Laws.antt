-- Laws of phrases over numbers. Each is the contract of a function with no body.
use Rattle.std.specs.Prelude.{◌≡◌, ℕ, Some, slice_get}
use Rattle.rsml_syntax.specs.declared.world.World.{World}
use Rattle.rsml_syntax.specs.declared.syntax.Phrase.{Phrase}
use Rattle.rsml_syntax.specs.declared.syntax.Guard.{Guard}
use Rattle.rsml_syntax.specs.declared.syntax.Sum.{Sum}
use Rattle.rsml_syntax.specs.limits.Comparisons.{Indices}
use Rattle.rsml_meaning.specs.Truth.{view, phrase, guard, sum}
use Rattle.rsml_meaning.specs.Interfaces.{FunctionInstance, function_cases, definitions}
use Rattle.and_or_tables.specs.Ground.{known}
use Rattle.rsml_ground.specs.declared.sums.GroundSum.{GroundSum}
use Rattle.rsml_ground.specs.declared.definitions.GroundGuard.{GroundGuard}
use Rattle.rsml_ground.specs.declared.phrases.GroundPhrase.{GroundPhrase}
use Rattle.rsml_ground.specs.Truths.{Grounded, sum_number, guard_truth, function_values, phrase_truth, truths_in}
use Rattle.rsml_ground.specs.StandsFor.{SumIs, PhraseIs, GuardIs}
use Rattle.rsml_ground.specs.Grounded.{IsGrounded}

-- each truth is that of its phrase, by the truths of all phrases
abbrev pub TruthsAreOfPhrases : Type 0
TruthsAreOfPhrases = (g : Grounded) (w : World) → IsGrounded g → (k : ℕ) (p : GroundPhrase)
    → slice_get g.phrases k ≡ Some p → known (truths_in g w) k ≡ phrase_truth g w (truths_in g w) p

-- a phrase has the truth of the phrase of the text for which it stands
abbrev pub PhrasesMeanTheText : Type 0
PhrasesMeanTheText = (g : Grounded) (w : World) → IsGrounded g → (r : Indices) (p : Phrase) (k : ℕ)
    → PhraseIs g.phrases g.spec r p k → known (truths_in g w) k ≡ phrase (view g.spec w) r p

-- a guard has the truth of the guard of the text for which it stands
abbrev pub GuardsMeanTheText : Type 0
GuardsMeanTheText = (g : Grounded) (w : World) → IsGrounded g → (r : Indices) (x : Guard) (y : GroundGuard)
    → GuardIs g.phrases g.spec r x y → guard_truth (truths_in g w) y ≡ guard (view g.spec w) r x

-- a sum has the number of the sum of the text for which it stands
abbrev pub SumsMeanTheText : Type 0
SumsMeanTheText = (g : Grounded) (w : World) → (r : Indices) (x : Sum) (y : GroundSum)
    → SumIs g.spec r x y → sum_number w.cells y ≡ sum (view g.spec w) r x

-- a function has the values that the function instance of the text gives
abbrev pub FunctionsMeanTheText : Type 0
FunctionsMeanTheText = (g : Grounded) (w : World) → IsGrounded g → (k : ℕ) (f : FunctionInstance)
    → slice_get (definitions g.spec) k ≡ Some (function_cases f)
    → function_values w.cells (truths_in g w) (slice_get g.definitions k) ≡ (view g.spec w).gives f.function
