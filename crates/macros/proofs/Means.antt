-- What truths and values are in the words of the text.
use Rattle.std.proofs.Common.{◌≡◌, ℕ, Bool, List, [], ◌∷◌, Some, inl, inr, ℤ, refl, sym, ap, ◌∙◌, subst, slice_get}
use Rattle.rsml_syntax.specs.declared.syntax.Phrase.{Phrase}
use Rattle.rsml_syntax.specs.declared.world.World.{World}
use Rattle.rsml_syntax.specs.limits.Comparisons.{Indices}
use Rattle.rsml_meaning.specs.Words.{IsOne}
use Rattle.rsml_meaning.specs.Truth.{Gives, phrase, view}
use Rattle.rsml_meaning.specs.Interfaces.{FunctionInstance, function_cases, definitions}
use Rattle.and_or_tables.specs.Ground.{known}
use Rattle.rsml_ground.specs.Truths.{Grounded, truths_in, value_in, first_value, function_values}
use Rattle.rsml_ground.specs.Grounded.{IsGrounded}
use Rattle.rsml_ground.specs.StandsFor.{PhraseIs}
use Rattle.rsml_ground.proofs.PhraseLemmas.{phrases_mean_the_text, functions_mean_the_text}

pub truths_mean : (g : Grounded) (w : World) (ts : List Bool) → IsGrounded g → ts ≡ truths_in g w → (r : Indices) (p : Phrase) (k : ℕ) → PhraseIs g.phrases g.spec r p k
    → known ts k ≡ phrase (view g.spec w) r p
truths_mean g w ts is same r p k stands = ap (λ (us : List Bool). known us k) same ∙ phrases_mean_the_text g w is r p k stands

-- the first of the values that are given, or 0 where there is none, is one that the function may have
first_is_given : (g : Grounded) (w : World) (f : FunctionInstance) (ns : List ℤ) → (view g.spec w).gives f.function ≡ ns → Gives (view g.spec w) f.function (first_value ns)
first_is_given g w f [] e = inr (e, refl)
first_is_given g w f (n ∷ ns) e = inl (subst (λ ms. IsOne n ms) (sym e) (inl refl))

pub value_allowed : (g : Grounded) (w : World) (k : ℕ) (f : FunctionInstance) → IsGrounded g → slice_get (definitions g.spec) k ≡ Some (function_cases f) → Gives (view g.spec w) f.function (value_in g w k)
value_allowed g w k f is there =
    first_is_given g w f (function_values w.cells (truths_in g w) (slice_get g.definitions k)) (sym (functions_mean_the_text g w is k f there))
